-- A verdict is yes, no, or neither of a result that is neither.
use Rattle.std.proofs.Common.{◌≡◌, ◌↔◌, Bool, true, false, IsTrue, refl}
use Rattle.delegate_parts.specs.declared.outcome.Outcome.TheVariants as outcomes
use Rattle.question_lists.specs.Below.{IsDefinite, Outcome, is_no, is_yes, outcome_verdicts}
use Rattle.search_context.specs.declared.context.Verdict.{Verdict}
use Rattle.search_context.specs.declared.context.Verdict.TheVariants.{Neither, No, Yes}

-- a result that is yes or no has such a verdict
pub never_neither : (r : Outcome) (v : Verdict) → ((v ≡ Yes) ↔ IsTrue (is_yes r)) → ((v ≡ No) ↔ IsTrue (is_no r))
    → v ≡ Neither → IsDefinite outcome_verdicts r → ⊥
never_neither outcomes.Yes v if_yes if_no e h = let y = if_yes.1 refl in absurd cc
never_neither outcomes.No v if_yes if_no e h = let n = if_no.1 refl in absurd cc
never_neither outcomes.Maybe v if_yes if_no e h = h refl
never_neither outcomes.Overflow v if_yes if_no e h = h refl

pub known_true : (b : Bool) → (b ≡ false → ⊥) → b ≡ true
known_true true h = refl
known_true false h = absurd (h refl)
