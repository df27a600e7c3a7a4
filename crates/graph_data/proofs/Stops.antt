-- Why reading stops.
use Rattle.std.proofs.Common.{◌≡◌, subst, sym}
use Rattle.std.specs.Prelude.{Err, IfErr, Ok, Result}
use Rattle.std.specs.Result.{IsErrAnd}
use Rattle.graph_data.specs.Fault.{IsBadData, StopsUnless}
use Rattle.graph_data.specs.declared.fault.DataFault.{DataFault}
use Rattle.graph_data.specs.declared.fault.DataFault.TheVariants.{BadData, Memory}

stops_without : (P Q : Type 0) (stop : DataFault) → (Q → P) → StopsUnless P stop → StopsUnless Q stop
stops_without P Q (BadData n) part stops = λ q. stops (part q)
stops_without P Q Memory part stops = stops

-- bad data is told where this does not hold
pub stops_bad : (P : Type 0) (stop : DataFault) → IsBadData stop → (P → ⊥) → StopsUnless P stop
stops_bad P (BadData n) bad never = never
stops_bad P Memory bad never = tt

-- A stop is passed on. Where the whole is there, so is the part that was not found.
pub stops_before : {T P Q : Type 0} (result : Result T DataFault) (stop : DataFault) → (Q → P)
    → IsErrAnd result (λ passed. passed ≡ stop) → StopsUnless P stop → IfErr result (StopsUnless Q)
stops_before (Ok x) stop part passed stops = absurd passed
stops_before {P = P} {Q = Q} (Err e) stop part passed stops =
    subst (StopsUnless Q) (sym passed) (stops_without P Q stop part stops)

-- The same of a result that is handed on.
pub stops_part : {T : Type 0} (P Q : Type 0) (result : Result T DataFault) → (Q → P)
    → IfErr result (StopsUnless P) → IfErr result (StopsUnless Q)
stops_part P Q (Ok x) part stops = tt
stops_part P Q (Err e) part stops = stops_without P Q e part stops
