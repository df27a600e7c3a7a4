-- Verdicts, and the tests of results that they stand for.
use Rattle.std.proofs.Common.{◌≡◌, ◌↔◌, Bool, true, false, IsTrue, refl, sym, ◌∙◌}
use Rattle.std.proofs.lemmas.Bool.{false≢true}
use Rattle.run_records.specs.Below.{Verdict, Yes, No, Neither}
use Rattle.run_records.specs.Words.{is_same_verdict}

pub same_verdict : (v w : Verdict) → is_same_verdict v w ≡ true → v ≡ w
same_verdict Yes Yes is = refl
same_verdict No No is = refl
same_verdict Neither Neither is = refl
same_verdict v w is = absurd cc

same_as_itself : (v : Verdict) → is_same_verdict v v ≡ true
same_as_itself Yes = refl
same_as_itself No = refl
same_as_itself Neither = refl

pub fails_unless : (b : Bool) → (IsTrue b → ⊥) → b ≡ false
fails_unless true never = absurd (never refl)
fails_unless false never = refl

-- a verdict that says whether a test holds is told by it
pub told_by_test : (v w : Verdict) (b : Bool) → (v ≡ w) ↔ IsTrue b → is_same_verdict v w ≡ b
told_by_test v w true says = rw (says.1 refl) (same_as_itself w)
told_by_test v w false says = fails_unless (is_same_verdict v w) (λ same. false≢true (says.0 (same_verdict v w same)))

-- what is false isn't true
pub fails_at : {b : Bool} → b ≡ false → b ≡ true → ⊥
fails_at is also = let e : false ≡ true = sym is ∙ also in cc
