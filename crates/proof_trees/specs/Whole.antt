-- When entries are those of a goal that was worked out from its first run to the end of its last one.
use Rattle.std.specs.Prelude.{◌-◌, ◌&&◌, nat_eq, Bool, false, length, List, None, Some, slice_get, true}
use Rattle.std.specs.Option.{option_map_or}
use Rattle.proof_trees.specs.declared.entry.Entry.{Entry}
use Rattle.proof_trees.specs.declared.entry.Part.{Part}
use Rattle.proof_trees.specs.declared.entry.Part.TheVariants.{Run, Candidate, FinishedCandidate, IgnoredCandidate}
use Rattle.proof_trees.specs.declared.entry.Part.TheVariants.{Question, RunEnd}

module _ {I R : Type 0} where
  abbrev pub is_end : Part I R → Bool
  is_end (Run kind goal number) = false
  is_end (Candidate number) = false
  is_end (FinishedCandidate number) = false
  is_end (IgnoredCandidate number) = false
  is_end (Question kind goal r) = false
  is_end (RunEnd r) = true

  -- the end of a run of level 0
  abbrev pub is_last : Entry I R → Bool
  is_last entry = nat_eq entry.level 1 && is_end entry.part

  module _ (same : I → I → Bool) (goal : I) where
    abbrev pub is_first_run : Part I R → Bool
    is_first_run (Run None other number) = same other goal && nat_eq number 1
    is_first_run (Run (Some kind) other number) = false
    is_first_run (Candidate number) = false
    is_first_run (FinishedCandidate number) = false
    is_first_run (IgnoredCandidate number) = false
    is_first_run (Question kind other r) = false
    is_first_run (RunEnd r) = false

    -- the goal's first run, which no step asks
    abbrev pub is_first : Entry I R → Bool
    is_first entry = nat_eq entry.level 0 && is_first_run entry.part

    -- they begin with the one and end with the other
    abbrev pub is_whole : List (Entry I R) → Bool
    is_whole entries = option_map_or is_first (slice_get entries 0) false
        && option_map_or is_last (slice_get entries (length entries - 1)) false
