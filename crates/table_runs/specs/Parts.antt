-- What is new in a graph: a part of it, with nodes that were shown before.
use Rattle.std.specs.Prelude.{◌≡◌, ◌↔◌, ℕ, Bool, IsTrue, true, List, slice_get, Some}
use Rattle.table_runs.specs.Below.{CxOf, Goal, Node, Outcome, Verdict}
use Rattle.table_runs.specs.Right.{SomeGraphShows}
use Rattle.search_context.specs.declared.context.Verdict.TheVariants as verdict

module _ {C A T : Type 0} (X : CxOf C Goal Outcome A T) where
  -- the outcome is of the sort
  pub record IsOfSort (sort : Verdict) (outcome : Outcome) : Type 0 where
    pub yes : (sort ≡ verdict.Yes) ↔ IsTrue (X.is_yes outcome)
    pub no : (sort ≡ verdict.No) ↔ IsTrue (X.is_no outcome)

  -- each node that is known is of the sort, and shown by a graph
  abbrev pub KnownAreShown : C → Verdict → List Bool → List (Node Goal Outcome) → Type 0
  KnownAreShown cx sort known nodes = (at : ℕ) (n : Node Goal Outcome) → slice_get nodes at ≡ Some n
      → slice_get known at ≡ Some true → IsOfSort sort n.result × SomeGraphShows X cx n.input n.result

  -- each node is shown by a graph
  abbrev pub AllAreShown : C → List (Node Goal Outcome) → Type 0
  AllAreShown cx nodes = (at : ℕ) (n : Node Goal Outcome) → slice_get nodes at ≡ Some n
      → SomeGraphShows X cx n.input n.result
