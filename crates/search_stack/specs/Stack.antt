-- What is read of a stack, whose first entry stands first.
use Rattle.std.specs.Prelude.{◌≡◌, ℕ, ◌-◌, ◌/◌, nat_eq, if◌then◌else◌, Bool, true, false, List, [], ◌∷◌, length, map}
use Rattle.std.specs.Prelude.{slice_index_or, Option, Some, None}
use Rattle.std.specs.List.{IsDistinct, position}
use Rattle.goal_paths.specs.Words.{IsIndex}
use Rattle.search_stack.specs.Below.{PathKind}
use Rattle.search_stack.specs.declared.depth.AvailableDepth.{AvailableDepth}
use Rattle.search_stack.specs.declared.stack.EntryState.{EntryState}
use Rattle.search_stack.specs.declared.stack.StackEntry.{StackEntry}

-- no input stands there twice, and a map that was made says where each stands
pub record AreFound {I : Type 0} (eq : I → I → Bool) (is_mapped : Bool) (depth : I → Option ℕ) (inputs : List I)
    : Type 0 where
  pub distinct : IsDistinct eq inputs
  pub mapped : is_mapped ≡ true → IsIndex eq depth inputs

module _ {X I R A T : Type 0} where
  -- the entry of a goal of which nothing is known yet
  abbrev pub fresh_entry : I → PathKind → AvailableDepth → StackEntry X I R A T
  fresh_entry goal kind depth = record {
    input = goal;
    step_kind_from_parent = kind;
    available_depth = depth;
    state = record {
      required_depth = 0;
      provisional_result = None;
      heads = [];
      encountered_overflow = false;
      usages = None;
      candidate_usages = None;
      nested_goals = [];
      node = None;
    };
  }

  -- where the goal stands, if it is there
  abbrev pub position_of : (I → I → Bool) → I → List (StackEntry X I R A T) → Option ℕ
  position_of eq goal entries = position (eq goal) (map (λ e. e.input) entries)

  -- what the last entry is, whatever stands for one that is not there
  abbrev pub IsLastState : List (StackEntry X I R A T) → EntryState X I R A T → Type 0
  IsLastState entries state =
      (d : StackEntry X I R A T) → state ≡ (slice_index_or entries (length entries - 1) d).state

  -- the depth that a question of this goal gets, if any
  abbrev pub depth_below : ℕ → StackEntry X I R A T → Option ℕ
  depth_below divisor e =
      if nat_eq e.available_depth.0 0 then None
      else if e.state.encountered_overflow then Some (e.available_depth.0 / divisor)
      else Some (e.available_depth.0 - 1)

  -- the depth that the next question gets: that of the root on an empty stack, else what the last goal leaves
  abbrev pub allowed_depth : (divisor root : ℕ) → List (StackEntry X I R A T) → Option ℕ
  allowed_depth divisor root [] = Some root
  allowed_depth divisor root (e ∷ []) = depth_below divisor e
  allowed_depth divisor root (e ∷ f ∷ es) = allowed_depth divisor root (f ∷ es)
