-- Where on a stack the last step of each kind is.
use Rattle.std.specs.Prelude.{◌≡◌, ℕ, ◌+◌, ◌<◌, ◌≤◌, nat_lt, Bool, if◌then◌else◌, List, length, take}
use Rattle.std.specs.Prelude.{drop, slice_index_or}
use Rattle.goal_paths.specs.Below.{PathKind, greatest_kind, Inductive, Unknown, Coinductive, ForcedAmbiguity}
use Rattle.goal_paths.specs.declared.steps.LastSteps.{LastSteps}

-- no step was taken
abbrev pub no_steps : LastSteps
no_steps = record { unknown = 0; coinductive = 0; forced_ambiguity = 0 }

-- one more step, of the entry above so many
abbrev pub with_step : LastSteps → PathKind → ℕ → LastSteps
with_step steps Inductive below = steps
with_step steps Unknown below = record steps { unknown = below + 1 }
with_step steps Coinductive below = record steps { coinductive = below + 1 }
with_step steps ForcedAmbiguity below = record steps { forced_ambiguity = below + 1 }

-- the greatest of the kinds that are there
abbrev pub kind_by : (forced coinductive unknown : Bool) → PathKind
kind_by forced coinductive unknown =
    if forced then ForcedAmbiguity else if coinductive then Coinductive else if unknown then Unknown else Inductive

-- the greatest kind whose last step is past the first entries
abbrev pub kind_past : LastSteps → ℕ → PathKind
kind_past steps count =
    kind_by (nat_lt count steps.forced_ambiguity) (nat_lt count steps.coinductive) (nat_lt count steps.unknown)

-- it is the greatest of the kinds of the steps past the first ones, however many these are
abbrev pub TellsKinds : LastSteps → List PathKind → Type 0
TellsKinds steps kinds = (count : ℕ) → count ≤ length kinds → kind_past steps count ≡ greatest_kind (drop count kinds)

-- for each place of the stack there is what tells the kinds of the steps up to that place
pub record AreLastSteps (steps : List LastSteps) (kinds : List PathKind) : Type 0 where
  pub each : length steps ≡ length kinds
  pub tells : (place : ℕ) (d : LastSteps) → place < length steps
      → TellsKinds (slice_index_or steps place d) (take (place + 1) kinds)
