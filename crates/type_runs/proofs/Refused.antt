-- Why a text was refused.
use Rattle.std.proofs.Common.{◌≡◌, ℕ, List, Option, Some, None, arith, refl}
use Rattle.std.specs.Prelude.{IfSome}
use Rattle.program_ends.specs.Stop.{status_of}
use Rattle.type_runs.specs.Program.{IsRefused, Malformed, stopped_text, Twice, Undeclared, Unguarded}
use Rattle.type_texts.specs.declared.reading.ReadFault.{ReadFault}
use Rattle.type_texts.specs.declared.reading.ReadFault.TheVariants as read
use Rattle.type_texts.specs.Text.{IsDeclaredTwice, IsFirstBadLine, IsUndeclared, IsUnguarded}

-- a fault of the reading is one of the text, unless memory was out
pub refused_text : (text : List ℕ) (fault : ReadFault) → ((n : ℕ) → fault ≡ read.BadLine n → IsFirstBadLine text n) →
    ((n : ℕ) → fault ≡ read.Twice n → IsDeclaredTwice text n) →
    ((n : ℕ) → fault ≡ read.Undeclared n → IsUndeclared text n) →
    ((n : ℕ) → fault ≡ read.Unguarded n → IsUnguarded text n) → status_of (stopped_text fault) ≡ 2 → IsRefused text
refused_text text (read.BadLine n) bad twice undeclared unguarded e = Malformed n (bad n refl)
refused_text text (read.Twice n) bad twice undeclared unguarded e = Twice n (twice n refl)
refused_text text (read.Undeclared n) bad twice undeclared unguarded e = Undeclared n (undeclared n refl)
refused_text text (read.Unguarded n) bad twice undeclared unguarded e = Unguarded n (unguarded n refl)
refused_text text read.Memory bad twice undeclared unguarded e = absurd (omega arith)

pub known_refused : (known : Option (List ℕ)) (text : List ℕ) → IfSome known (λ bytes. text ≡ bytes)
    → IsRefused text → IfSome known IsRefused
known_refused None text is h = tt
known_refused (Some bytes) text is h = rw (← is) h
