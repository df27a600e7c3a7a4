-- What an outcome is worth by the rules alone: nothing here speaks of a cache or of a search.
use Rattle.std.specs.Prelude.{◌≡◌, All, true, List}
use Rattle.table_runs.specs.Below.{CxOf, Goal, HasProof, HasRefutation, NodeId, Outcome}

module _ {C A T : Type 0} (X : CxOf C Goal Outcome A T) (cx : C) where
  -- A yes has a proof graph, and no refutation graph at all; a no has a refutation graph, and no proof graph at all.
  pub record IsRightOutcome (goal : Goal) (outcome : Outcome) : Type 0 where
    pub proof : X.is_yes outcome ≡ true → HasProof (X.proves cx) goal
    pub never_refuted : X.is_yes outcome ≡ true → ¬ HasRefutation (X.refutes cx) goal
    pub refutation : X.is_no outcome ≡ true → HasRefutation (X.refutes cx) goal
    pub never_proved : X.is_no outcome ≡ true → ¬ HasProof (X.proves cx) goal

  -- The outcome is yes and the goal has a proof graph, or it is no and the goal has a refutation graph.
  pub data SomeGraphShows (goal : Goal) (outcome : Outcome) : Type 0 where
    Proved : X.is_yes outcome ≡ true → HasProof (X.proves cx) goal → SomeGraphShows goal outcome
    Refuted : X.is_no outcome ≡ true → HasRefutation (X.refutes cx) goal → SomeGraphShows goal outcome

  -- so is each of these goals with its outcome, whatever its node
  abbrev pub AreShown : List (Goal × (Outcome × NodeId)) → Type 0
  AreShown = All (λ shown. SomeGraphShows shown.0 shown.1.0)
