-- What is right of goals is true of the questions that they are the goals of.
use Rattle.std.proofs.Common.{◌≡◌, ◌∙◌, ◌<◌, ℕ, List, length, Some, Result, arith, get_or, refl, subst, sym}
use Rattle.std.proofs.lemmas.Option.{slice_get-get_or, slice_get_within}
use Rattle.std.specs.Prelude.{slice_get}
use Rattle.delegate_parts.specs.declared.outcome.Outcome.{Outcome}
use Rattle.search_context.specs.declared.context.Fault.{Fault}
use Rattle.trait_goals.specs.Implementing.{Implements}
use Rattle.trait_goals.specs.Known.{IsAsked, Table}
use Rattle.trait_pages.specs.Asked.{AreGoalsOf}
use Rattle.trait_rules.proofs.Standing.{stands_in}
use Rattle.trait_rules.specs.Numbered.{Keeps}
use Rattle.trait_rules.specs.declared.made.Made.{Made}
use Rattle.trait_rules.specs.Terms.{Stands, Term, applied, applied_at, constructor, constructor_at}
use Rattle.trait_rules.specs.declared.rules.Rules.{Rules}
use Rattle.trait_texts.specs.declared.declarations.Question.{Question}
use Rattle.traits.specs.Right.{AreRight}
use Rattle.traits.specs.True.{AreTrue}

stands_within : (made : List Made) (number : ℕ) (term : Term) → Stands made number term → number < length made
stands_within made number (constructor c) (constructor_at e) = slice_get_within made number _ e
stands_within made number (applied f x) (applied_at e h k) = slice_get_within made number _ e

goal_at : {A : Type 0} (xs : List A) (goals : List ℕ) (place : ℕ) (x : A) → slice_get xs place ≡ Some x
    → length goals ≡ length xs → (goal : ℕ) × (slice_get goals place ≡ Some goal)
goal_at xs goals place x at same =
    (get_or goals place 0, slice_get-get_or goals place 0 (omega (arith, slice_get_within xs place x at, same)))

module _ (rules : Rules) (made : List Made) (table : Table) (same_rules : table.rules ≡ rules)
    (kept : Keeps made table.made) where
  asked_of : (question : Question) (goal : ℕ) (term : Term)
      → (question.subject < length made
      → slice_get table.asked goal ≡ Some (record { subject = question.subject; bound = question.bound }))
      → Stands made question.subject term → IsAsked table.made table.asked goal term question.bound
  asked_of question goal term asks stands = record {
    entry = record { subject = question.subject; bound = question.bound };
    at = asks (stands_within made question.subject term stands);
    stands = stands_in kept question.subject term stands;
    same_bound = refl;
  }

  pub answers_are_true : (questions : List Question) (goals : List ℕ) (came : List (Result Outcome (Fault ℕ Outcome)))
      → AreGoalsOf made table questions goals → length came ≡ length goals → AreRight table goals came
      → AreTrue rules made questions came
  answers_are_true questions goals came asked count right = record {
    same_count = count ∙ asked.same_count;
    each = λ place question answer at is.
        let goal = goal_at questions goals place question at asked.same_count in
        let asks = (asked.each place goal.0 question at goal.1).asks in
        let h = right.each place goal.0 answer goal.1 is in record {
          yes = λ e term stands. subst (λ r. Implements r term question.bound) same_rules
              (h.yes e term question.bound (asked_of question goal.0 term asks stands));
          no = λ e term stands holds. h.no e term question.bound (asked_of question goal.0 term asks stands)
              (subst (λ r. Implements r term question.bound) (sym same_rules) holds);
        };
  }
