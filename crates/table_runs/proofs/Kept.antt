-- What was shown of goals that stay, where rules change.
use Rattle.table_runs.specs.Below.{CxOf, Goal, HasProof, HasRefutation, Outcome}
use Rattle.table_runs.specs.Right.{Proved, Refuted, SomeGraphShows}

module _ {C A T : Type 0} (X : CxOf C Goal Outcome A T) (before after : C) where
  -- what a graph shows by the rules before, one shows by those after, where the goal keeps its graphs
  pub shows_on : (goal : Goal) (outcome : Outcome) → (HasProof (X.proves before) goal → HasProof (X.proves after) goal)
      → (HasRefutation (X.refutes before) goal → HasRefutation (X.refutes after) goal)
      → SomeGraphShows X before goal outcome → SomeGraphShows X after goal outcome
  shows_on goal outcome proof refutation (Proved is graph) = Proved is (proof graph)
  shows_on goal outcome proof refutation (Refuted is graph) = Refuted is (refutation graph)
