-- What is right of goals when more is known was right of them before.
use Rattle.std.proofs.Common.{◌≡◌, ℕ, inl, inr, List, [], ◌∷◌, ◌++◌, length, Some, sym, ◌∙◌}
use Rattle.std.proofs.Common.{subst, Bool, true, false, ◌&&◌, nat_le, ◌<◌, ◌≤◌}
use Rattle.std.proofs.lemmas.Bool.{le-leb}
use Rattle.std.specs.Prelude.{slice_get, Result}
use Rattle.delegate_parts.specs.declared.outcome.Outcome.{Outcome}
use Rattle.search_context.specs.declared.context.Fault.{Fault}
use Rattle.trait_rules.specs.Terms.{Term}
use Rattle.trait_goals.specs.Implementing.{Implements}
use Rattle.trait_rules.proofs.Numbers.{in_longer}
use Rattle.trait_rules.proofs.Standing.{stands_in}
use Rattle.trait_goals.specs.Known.{IsAsked, Table}
use Rattle.trait_goals.specs.Trying.{Extends}
use Rattle.trait_answers.specs.Answered.{IsImplemented, IsNotImplemented}
use Rattle.traits.specs.Right.{AreAnswered, AreRight, IsAnswered, IsRight}

module _ (table more : Table) (kept : Extends table more) where
  asked_later : (goal : ℕ) (term : Term) (bound : ℕ) → IsAsked table.made table.asked goal term bound →
      IsAsked more.made more.asked goal term bound
  asked_later goal term bound a = record {
    entry = a.entry;
    at = kept.keeps_asked.at goal a.entry a.at;
    stands = stands_in kept.keeps_made a.entry.subject term a.stands;
    same_bound = a.same_bound;
  }

  implemented_before : (goal : ℕ) → IsImplemented more goal → IsImplemented table goal
  implemented_before goal h term bound a =
      subst (λ rules. Implements rules term bound) kept.same_rules (h term bound (asked_later goal term bound a))

  not_before : (goal : ℕ) → IsNotImplemented more goal → IsNotImplemented table goal
  not_before goal h term bound a i =
      h term bound (asked_later goal term bound a) (subst (λ rules. Implements rules term bound) (sym
      kept.same_rules) i)

  pub right_before : (goals : List ℕ) (came : List (Result Outcome (Fault ℕ Outcome))) → AreRight more goals came →
      AreRight table goals came
  right_before goals came h = record {
    each = λ place goal answer at is. let r = h.each place goal answer at is in record {
      yes = λ e. implemented_before goal (r.yes e);
      no = λ e. not_before goal (r.no e);
    };
  }

-- no answers yet
pub none_right : (table : Table) (goals : List ℕ) (came : List (Result Outcome (Fault ℕ Outcome))) → came ≡ [] →
    AreRight table goals came
none_right table goals came none = record {
  each = λ place goal answer at is.
      let no : slice_get [] place ≡ Some answer = subst (λ l. slice_get l place ≡ Some answer) none is in absurd cc;
}

pub none_answered : (table : Table) (goals : List ℕ) (came : List (Result Outcome (Fault ℕ Outcome))) → came ≡ [] →
    AreAnswered table goals came
none_answered table goals came none = record {
  each = λ place goal answer at within is.
      let no : slice_get [] place ≡ Some answer = subst (λ l. slice_get l place ≡ Some answer) none is in absurd cc;
}

-- one more answer
pub right_more : (table : Table) (goals : List ℕ) (came more : List (Result Outcome (Fault ℕ Outcome))) (goal : ℕ)
    (answer : Result Outcome (Fault ℕ Outcome)) → AreRight table goals came → more ≡ came ++ answer ∷ [] →
    slice_get goals (length came) ≡ Some goal → IsRight table goal answer → AreRight table goals more
right_more table goals came more goal answer h is at right = record {
  each = λ place other told there said.
      elim (in_longer came answer place told
      (subst (λ (l : List (Result Outcome (Fault ℕ Outcome))). slice_get l place ≡ Some told) is said)) [
        | inl w ↦ h.each place other told there w
        | inr w ↦
            let same : Some other ≡ Some goal = sym there ∙ subst (λ p. slice_get goals p ≡ Some goal) (sym w.0) at in
            let so : goal ≡ other = cc in
            subst (λ a. IsRight table other a) (sym w.1) (subst (λ g. IsRight table g answer) so right)
      ];
}

-- one more goal is answered
pub answered_more : (table : Table) (goals : List ℕ) (came more : List (Result Outcome (Fault ℕ Outcome))) (goal : ℕ)
    (answer : Result Outcome (Fault ℕ Outcome)) → AreAnswered table goals came → more ≡ came ++ answer ∷ [] →
    slice_get goals (length came) ≡ Some goal → (goal < length table.asked → IsAnswered table goal answer) →
    AreAnswered table goals more
answered_more table goals came more goal answer h is at told = record {
  each = λ place other said there within reads.
      elim (in_longer came answer place said
      (subst (λ (l : List (Result Outcome (Fault ℕ Outcome))). slice_get l place ≡ Some said) is reads)) [
        | inl w ↦ h.each place other said there within w
        | inr w ↦
            let same : Some other ≡ Some goal = sym there ∙ subst (λ p. slice_get goals p ≡ Some goal) (sym w.0) at in
            let so : goal ≡ other = cc in
            subst (λ a. IsAnswered table other a) (sym w.1)
            (subst (λ g. IsAnswered table g answer) so
            (told (subst (λ g. g < length table.asked) (sym so) within)))
      ];
}

-- a question with enough depth leaves what was noted of depths
pub still_deep : (had now : Bool) (count depth : ℕ) → now ≡ (had && nat_le count depth) → had ≡ true → count ≤ depth →
    now ≡ true
still_deep true now count depth is had_it deep = is ∙ le-leb count depth deep
still_deep false now count depth is had_it deep = absurd cc
