-- How entries come about: each one comes from the start of a run, or from a step of the newest run that is open.
use Rattle.std.specs.Prelude.{◌≡◌, true, List, [], ◌∷◌, ◌++◌, map, Option, None, Some}
use Rattle.std.specs.Option.{option_map}
use Rattle.search_context.specs.Delegate.{frames_in, left_open}
use Rattle.proof_trees.specs.Below.{Reply, Request}
use Rattle.proof_trees.specs.declared.entry.Entry.{Entry}
use Rattle.proof_trees.specs.declared.recorder.Recorder.{Recorder}
use Rattle.proof_trees.specs.declared.recording.RecordedFrame.{RecordedFrame}
use Rattle.proof_trees.specs.declared.run_record.Place.{Place}
use Rattle.proof_trees.specs.declared.run_record.RunRecord.{RunRecord}
use Rattle.proof_trees.specs.Entries.{entry_of_reply, entry_of_request, entry_of_run, new_record, place_after}
use Rattle.proof_trees.specs.Entries.{record_after, root_place}
use Rattle.proof_trees.specs.Recorder.{and_entry, entries_of, next_of, records}

-- What is recorded of a call that works the goal out: these runs are open, the newest first, or none was started yet;
-- the next one that starts stands at the place; and these are the entries so far.
pub data Recorded {I R : Type 0} (goal : I) : Option (List (RunRecord I R)) → Place → List (Entry I R) → Type 0 where
  -- nothing yet
  Nothing : Recorded goal None root_place []
  -- A run was started, which is the newest one that is open: the entry is that of the run. The first run of all is one
  -- of the goal.
  Started :
      {runs : Option (List (RunRecord I R))} {next : Place} {entries : List (Entry I R)} (asked : I)
      → Recorded goal runs next entries → (runs ≡ None → goal ≡ asked)
      → Recorded goal (Some (new_record asked next ∷ frames_in runs)) next
      (entries ++ entry_of_run (new_record asked next) ∷ [])
  -- The newest run had a reply, and made a request. The entries are that of a question that was answered, and that of
  -- the request; and a run that has its result is open no longer.
  Stepped :
      {run : RunRecord I R} {below : List (RunRecord I R)} {next : Place} {entries : List (Entry I R)}
      (reply : Reply R) (request : Request I R)
      → Recorded goal (Some (run ∷ below)) next entries
      → Recorded goal (Some (left_open request (record_after run request ∷ below))) (place_after run next request)
      (and_entry (and_entry entries (entry_of_reply run run.request reply)) (entry_of_request run request))

-- the runs of frames
abbrev pub runs_of : {F I R : Type 0} → List (RecordedFrame F I R) → List (RunRecord I R)
runs_of frames = map (λ recorded. recorded.run) frames

-- The recorder has seen a call that works the goal out, where these frames are open: it records, and its entries were
-- recorded of their runs.
pub record HasSeen {B F I R : Type 0} (recorder : Recorder B I R) (goal : I)
    (frames : Option (List (RecordedFrame F I R))) : Type 0 where
  pub recording : records recorder ≡ true
  pub recorded : Recorded goal (option_map runs_of frames) (next_of recorder) (entries_of recorder)
