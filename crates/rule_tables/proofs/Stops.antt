-- What an exit status says of a text of rules.
use Rattle.std.proofs.Common.{◌≡◌, ℕ, Bool, List, Option, Some, None, Result, Err}
use Rattle.std.specs.Prelude.{IfSome}
use Rattle.program_ends.proofs.Stops.{fault_by_status}
use Rattle.program_ends.specs.Stop.{status_after}
use Rattle.program_ends.specs.declared.stop.Stop.{Stop}
use Rattle.program_ends.specs.declared.stop.Stop.TheVariants.{Text}
use Rattle.rule_tables.specs.Words.{IsFirstBadLine}
use Rattle.rule_tables.specs.declared.stop.BadLine.{BadLine}

-- a bad line in the known bytes
pub known_bad_line : (a : Option (List ℕ)) (n : ℕ) → IfSome a (λ bytes. IsFirstBadLine bytes n) →
    IfSome a (λ bytes. (m : ℕ) × IsFirstBadLine bytes m)
known_bad_line None n h = tt
known_bad_line (Some bytes) n h = (n, h)

pub bad_line_by_status : (a : Option (List ℕ)) (came : Result Bool (Stop BadLine)) (status : ℕ)
    → status ≡ status_after came
    → ((n : ℕ) → came ≡ Err (Text (record { number = n })) → IfSome a (λ bytes. IsFirstBadLine bytes n)) → status ≡ 2
    → IfSome a (λ bytes. (m : ℕ) × IsFirstBadLine bytes m)
bad_line_by_status a came status is bad =
    fault_by_status (IfSome a (λ bytes. (m : ℕ) × IsFirstBadLine bytes m)) came status is
    (λ fault e. known_bad_line a fault.number (bad fault.number e))
