-- Why reading stops.
use Rattle.std.proofs.Common.{subst, sym, ◌≡◌}
use Rattle.std.specs.Prelude.{Err, IfErr, Ok, Result}
use Rattle.std.specs.Result.{IsErrAnd}
use Rattle.graph_words.specs.Fault.{StopsUnless}
use Rattle.graph_words.specs.declared.fault.WordsFault.{WordsFault}
use Rattle.graph_words.specs.declared.fault.WordsFault.TheVariants.{Memory, NoGraph}

stops_without : (P Q : Type 0) (stop : WordsFault) → (Q → P) → StopsUnless P stop → StopsUnless Q stop
stops_without P Q NoGraph part stops = λ q. stops (part q)
stops_without P Q Memory part stops = stops

-- A stop is passed on. Where the whole is there, so is the part that was not found.
pub stops_before : {T : Type 0} (P Q : Type 0) (result : Result T WordsFault) (stop : WordsFault) → (Q → P)
    → IsErrAnd result (λ passed. passed ≡ stop) → StopsUnless P stop → IfErr result (StopsUnless Q)
stops_before P Q (Ok x) stop part passed stops = absurd passed
stops_before P Q (Err e) stop part passed stops = subst (StopsUnless Q) (sym passed) (stops_without P Q stop part stops)
