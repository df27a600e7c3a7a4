-- Outcomes are of the sorts that a search asks for.
use Rattle.std.specs.Prelude.{◌≡◌, Some, Bool, true, false}
use Rattle.std.proofs.Common.{◌∙◌}
use Rattle.delegate_parts.specs.Below.{PathKind, Inductive, Unknown, Coinductive, ForcedAmbiguity}
use Rattle.delegate_parts.specs.Below.{IsNeither, IsCycleResult}
use Rattle.delegate_parts.specs.declared.outcome.Outcome.{Outcome}
use Rattle.delegate_parts.specs.declared.outcome.Outcome.TheVariants.{Yes, No, Maybe, Overflow}
use Rattle.delegate_parts.specs.Outcome.{is_yes, is_no, initial_outcome, kind_of, ambiguity_of, after_most_runs}

pub one_sort : (r : Outcome) → is_yes r ≡ true → is_no r ≡ false
one_sort Yes h = λ i. false
one_sort No h = absurd cc
one_sort Maybe h = λ i. false
one_sort Overflow h = λ i. false

pub initial_sort : (kind : PathKind) → IsCycleResult is_yes is_no kind (initial_outcome kind)
initial_sort Inductive = record { yes = λ i. false; no = λ i. true }
initial_sort Unknown = record { yes = λ i. false; no = λ i. false }
initial_sort Coinductive = record { yes = λ i. true; no = λ i. false }
initial_sort ForcedAmbiguity = record { yes = λ i. false; no = λ i. false }

pub recognised_sort : (r : Outcome) (kind : PathKind) → kind_of r ≡ Some kind → IsCycleResult is_yes is_no kind r
recognised_sort Yes Coinductive h = record { yes = λ i. true; no = λ i. false }
recognised_sort No Inductive h = record { yes = λ i. false; no = λ i. true }
recognised_sort _ _ h = absurd cc

pub overflow_is_neither : IsNeither is_yes is_no Overflow
overflow_is_neither = record { not_yes = λ i. false; not_no = λ i. false }

pub maybe_is_neither : IsNeither is_yes is_no Maybe
maybe_is_neither = record { not_yes = λ i. false; not_no = λ i. false }

pub ambiguous_is_neither : (r : Outcome) (info : Unit {0}) → ambiguity_of r ≡ Some info → IsNeither is_yes is_no r
ambiguous_is_neither Maybe info h = maybe_is_neither
ambiguous_is_neither Overflow info h = overflow_is_neither
ambiguous_is_neither Yes info h = absurd cc
ambiguous_is_neither No info h = absurd cc

-- these tests say yes, and no, of the outcomes that are
pub record AreVerdicts (says_yes says_no : Outcome → Bool) : Type 0 where
  pub yes : (r : Outcome) → says_yes r ≡ is_yes r
  pub no : (r : Outcome) → says_no r ≡ is_no r

pub own_verdicts : AreVerdicts is_yes is_no
own_verdicts = record { yes = λ r i. is_yes r; no = λ r i. is_no r }

-- so what is true of outcomes is true by such tests
module _ {says_yes says_no : Outcome → Bool} (are : AreVerdicts says_yes says_no) where
  neither_by : (r : Outcome) → IsNeither is_yes is_no r → IsNeither says_yes says_no r
  neither_by r h = record { not_yes = are.yes r ∙ h.not_yes; not_no = are.no r ∙ h.not_no }

  cycle_result_by : (kind : PathKind) (r : Outcome) → IsCycleResult is_yes is_no kind r
      → IsCycleResult says_yes says_no kind r
  cycle_result_by kind r h = record { yes = are.yes r ∙ h.yes; no = are.no r ∙ h.no }

  pub initial_sort_by : (kind : PathKind) → IsCycleResult says_yes says_no kind (initial_outcome kind)
  initial_sort_by kind = cycle_result_by kind (initial_outcome kind) (initial_sort kind)

  pub recognised_sort_by : (r : Outcome) (kind : PathKind) → kind_of r ≡ Some kind
      → IsCycleResult says_yes says_no kind r
  recognised_sort_by r kind h = cycle_result_by kind r (recognised_sort r kind h)

  pub overflow_by : IsNeither says_yes says_no Overflow
  overflow_by = neither_by Overflow overflow_is_neither

  pub maybe_by : IsNeither says_yes says_no Maybe
  maybe_by = neither_by Maybe maybe_is_neither

  pub most_runs_by : (overflow : Bool) → IsNeither says_yes says_no (after_most_runs overflow)
  most_runs_by true = overflow_by
  most_runs_by false = maybe_by

  pub ambiguous_by : (r : Outcome) (info : Unit {0}) → ambiguity_of r ≡ Some info → IsNeither says_yes says_no r
  ambiguous_by r info h = neither_by r (ambiguous_is_neither r info h)
