-- No reply fits after a result.
use Rattle.std.specs.Prelude.{◌≡◌, Option, Some, None}
use Rattle.test_delegates.specs.Below.{Request, Done, Reply, Begin, Answer, Noted, Fits}

-- a request that is a result
abbrev pub done : (I : Type 0) {R : Type 0} → R → Option (Request I R)
done I r = Some (Done r)

-- no reply fits after it
pub none_after_done : (I : Type 0) {R : Type 0} (a : R) (x : Reply R) → Fits (done I a) x → ⊥
none_after_done I a Begin h = h
none_after_done I a (Answer r) h = h
none_after_done I a Noted h = h

-- where there is no request, there is no result
pub nothing_done : (I : Type 0) {R : Type 0} (r : R) → None ≡ done I r → ⊥
nothing_done I r e = absurd cc
