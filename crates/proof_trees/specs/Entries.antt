-- What is recorded of a run, of its requests and of the replies to them.
use Rattle.std.specs.Prelude.{ℕ, ◌+◌, ◌-◌, ◌^◌, min, true, false, if◌then◌else◌, Option, None, Some}
use Rattle.proof_trees.specs.Below.{Reply, Answer, Request, Done, EnterCandidate, Evaluate, FinishCandidate, Ignore}
use Rattle.proof_trees.specs.declared.entry.Entry.{Entry}
use Rattle.proof_trees.specs.declared.entry.Part.TheVariants.{Run, Candidate, FinishedCandidate, IgnoredCandidate}
use Rattle.proof_trees.specs.declared.entry.Part.TheVariants.{Question, RunEnd}
use Rattle.proof_trees.specs.declared.run_record.Place.{Place}
use Rattle.proof_trees.specs.declared.run_record.RunRecord.{RunRecord}

-- one more, up to the greatest number that there is
abbrev pub one_more : ℕ → ℕ
one_more n = min (n + 1) (2 ^ 64 - 1)

-- where the root's first run stands
abbrev pub root_place : Place
root_place = record { level = 0; kind = None; number = 1 }

module _ {I R : Type 0} where
  -- the record of a run that begins
  abbrev pub new_record : I → Place → RunRecord I R
  new_record goal place = record { goal = goal; place = place; finished = 0; in_candidate = false; request = None }

  -- what a run has stands one level deeper
  abbrev pub own_level : RunRecord I R → ℕ
  own_level run = one_more run.place.level

  -- and the questions of its candidates one more
  abbrev pub question_level : RunRecord I R → ℕ
  question_level run = if run.in_candidate then one_more (own_level run) else own_level run

  -- the entry of the run itself
  abbrev pub entry_of_run : RunRecord I R → Entry I R
  entry_of_run run = record { level = run.place.level; part = Run run.place.kind run.goal run.place.number }

  -- the entry of a reply to this request: that of a question that was answered
  abbrev pub entry_of_reply : RunRecord I R → Option (Request I R) → Reply R → Option (Entry I R)
  entry_of_reply run (Some (Evaluate kind goal)) (Answer r) =
      Some (record { level = question_level run; part = Question kind goal r })
  entry_of_reply run _ _ = None

  -- the entry of a request; a question has none before it is answered
  abbrev pub entry_of_request : RunRecord I R → Request I R → Option (Entry I R)
  entry_of_request run (Evaluate kind goal) = None
  entry_of_request run EnterCandidate = Some (record { level = own_level run; part = Candidate run.finished })
  entry_of_request run FinishCandidate = Some (record { level = own_level run; part = FinishedCandidate run.finished })
  entry_of_request run (Ignore number) = Some (record { level = own_level run; part = IgnoredCandidate number })
  entry_of_request run (Done r) = Some (record { level = own_level run; part = RunEnd r })

  -- the record after a request
  abbrev pub record_after : RunRecord I R → Request I R → RunRecord I R
  record_after run EnterCandidate = record run { in_candidate = true; request = Some EnterCandidate }
  record_after run FinishCandidate =
      record run { in_candidate = false; finished = one_more run.finished; request = Some FinishCandidate }
  record_after run request = record run { request = Some request }

  -- where the next run stands after a request, which else would stand at `before`
  abbrev pub place_after : RunRecord I R → Place → Request I R → Place
  place_after run before (Evaluate kind goal) = record { level = question_level run; kind = Some kind; number = 1 }
  place_after run before (Done r) =
      record { level = run.place.level; kind = run.place.kind; number = one_more run.place.number }
  place_after run before _ = before
