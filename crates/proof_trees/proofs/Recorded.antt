-- What is recorded, as frames start and step; and that the entries are whole once no run is left open.
use Rattle.std.proofs.Common.{◌≡◌, ◌∙◌, ◌-◌, ◌&&◌, Bool, false, true, List, [], ◌∷◌, ◌++◌, length, slice_get}
use Rattle.std.proofs.Common.{Option, None, Some, ap, arith, refl, subst, suc, sym}
use Rattle.std.specs.Option.{option_map, option_map_or}
use Rattle.search_context.specs.Delegate.{frames_in, left_open}
use Rattle.proof_trees.specs.Below.{Reply, Request, Done, EnterCandidate, Evaluate, FinishCandidate, Ignore}
use Rattle.proof_trees.specs.declared.entry.Entry.{Entry}
use Rattle.proof_trees.specs.declared.entry.Part.TheVariants.{RunEnd}
use Rattle.proof_trees.specs.declared.recorder.Recorder.{Recorder}
use Rattle.proof_trees.specs.declared.recording.RecordedFrame.{RecordedFrame}
use Rattle.proof_trees.specs.declared.run_record.Place.{Place}
use Rattle.proof_trees.specs.declared.run_record.RunRecord.{RunRecord}
use Rattle.proof_trees.specs.Entries.{entry_of_reply, entry_of_request, entry_of_run, new_record, one_more, place_after}
use Rattle.proof_trees.specs.Entries.{record_after, root_place}
use Rattle.proof_trees.specs.Recorded.{Recorded, Nothing, Started, Stepped, HasSeen, runs_of}
use Rattle.proof_trees.specs.Recorder.{and_entry, entries_of, next_of, records, with_entry}
use Rattle.proof_trees.specs.Whole.{is_first, is_last, is_whole}
use Rattle.proof_trees.proofs.Noted.{with_entry-recording}

-- the runs of the frames that are open, where a frame was started, and where the newest one has made a request
runs_in : {F I R : Type 0} (frames : Option (List (RecordedFrame F I R)))
    → runs_of (frames_in frames) ≡ frames_in (option_map runs_of frames)
runs_in None = refl
runs_in (Some frames) = refl

runs_left : {F I R : Type 0} (request : Request I R) (frame : RecordedFrame F I R) (below : List (RecordedFrame F I R))
    → runs_of (left_open request (frame ∷ below)) ≡ left_open request (frame.run ∷ runs_of below)
runs_left (Done r) frame below = refl
runs_left (Evaluate kind goal) frame below = refl
runs_left EnterCandidate frame below = refl
runs_left FinishCandidate frame below = refl
runs_left (Ignore number) frame below = refl

none_if : {F I R : Type 0} (frames : Option (List (RecordedFrame F I R)))
    → option_map runs_of frames ≡ None → frames ≡ None
none_if None none = refl
none_if (Some frames) none = absurd cc

recorded_along : {I R : Type 0} {goal : I} {runs others : Option (List (RunRecord I R))} {next other : Place}
    {entries same : List (Entry I R)} → runs ≡ others → next ≡ other → entries ≡ same
    → Recorded goal runs next entries → Recorded goal others other same
recorded_along {goal = goal} {others = others} {next = next} {other = other} {entries = entries} runs at es recorded =
    subst (λ e. Recorded goal others other e) es
    (subst (λ p. Recorded goal others p entries) at (subst (λ r. Recorded goal r next entries) runs recorded))

module _ {B I R : Type 0} (recorder : Recorder B I R) (goal : I) where
  -- a recorder that has seen nothing, and records
  pub nothing_seen : {F : Type 0} → records recorder ≡ true → entries_of recorder ≡ [] → next_of recorder ≡ root_place
      → HasSeen {F = F} recorder goal None
  nothing_seen recording empty at =
      record { recording = recording; recorded = recorded_along refl (sym at) (sym empty) Nothing }

module _ {B F I R : Type 0} (old new : Recorder B I R) (goal : I) (same : records new ≡ records old) where
  -- a run was started
  pub start_seen : (frames : Option (List (RecordedFrame F I R))) (frame : RecordedFrame F I R) (asked : I)
      → next_of new ≡ next_of old → frame.run ≡ new_record asked (next_of old)
      → entries_of new ≡ with_entry old (Some (entry_of_run (new_record asked (next_of old))))
      → (frames ≡ None → goal ≡ asked) → HasSeen old goal frames
      → HasSeen new goal (Some (frame ∷ frames_in frames))
  start_seen frames frame asked next run entries first seen = record {
    recording = same ∙ seen.recording;
    recorded =
        recorded_along
        (ap (λ runs. Some (new_record asked (next_of old) ∷ runs)) (sym (runs_in frames))
        ∙ ap (λ r. Some (r ∷ runs_of (frames_in frames))) (sym run))
        (sym next)
        (sym (entries ∙ with_entry-recording old (Some (entry_of_run (new_record asked (next_of old)))) seen.recording))
        (Started asked seen.recorded (λ none. first (none_if frames none)));
  }

  -- the newest frame made a step
  pub step_seen : (before after : RecordedFrame F I R) (below : List (RecordedFrame F I R)) (reply : Reply R)
      (request : Request I R) → next_of new ≡ place_after before.run (next_of old) request
      → after.run ≡ record_after before.run request
      → (records old ≡ true → entries_of new
      ≡ and_entry (and_entry (entries_of old) (entry_of_reply before.run before.run.request reply))
      (entry_of_request before.run request))
      → HasSeen old goal (Some (before ∷ below)) → HasSeen new goal (Some (left_open request (after ∷ below)))
  step_seen before after below reply request next run entries seen = record {
    recording = same ∙ seen.recording;
    recorded =
        recorded_along
        (ap (λ r. Some (left_open request (r ∷ runs_of below))) (sym run)
        ∙ ap Some (sym (runs_left request after below)))
        (sym next) (sym (entries seen.recording)) (Stepped reply request seen.recorded);
  }

module _ {I R : Type 0} (goal : I) where
  abbrev first_entry : Entry I R
  first_entry = let run : RunRecord I R = new_record goal root_place in entry_of_run run

  -- the entries begin with the goal's first run
  abbrev Begins : List (Entry I R) → Type 0
  Begins entries = (rest : List (Entry I R)) × (entries ≡ first_entry ∷ rest)

  -- they end with the end of a run of level 0
  abbrev Ends : List (Entry I R) → Type 0
  Ends entries = (front : List (Entry I R)) × (r : R) × (entries ≡ front ++ record { level = 1; part = RunEnd r } ∷ [])

  abbrev oldest : RunRecord I R → List (RunRecord I R) → RunRecord I R
  oldest run [] = run
  oldest run (next ∷ below) = oldest next below

  -- what is so wherever the recording stands: the oldest run that is open has level 0
  abbrev Stands : Option (List (RunRecord I R)) → Place → List (Entry I R) → Type 0
  Stands None next entries = (next ≡ root_place) × (entries ≡ [])
  Stands (Some []) next entries = Begins entries × (next.level ≡ 0) × Ends entries
  Stands (Some (run ∷ below)) next entries = Begins entries × ((oldest run below).place.level ≡ 0)

  begins_on : (entries more : List (Entry I R)) → Begins entries → Begins (entries ++ more)
  begins_on entries more begins = (begins.0 ++ more, ap (λ es. es ++ more) begins.1)

  begins_and : (entries : List (Entry I R)) (entry : Option (Entry I R)) → Begins entries
      → Begins (and_entry entries entry)
  begins_and entries None begins = begins
  begins_and entries (Some entry) begins = begins_on entries (entry ∷ []) begins

  begins_after : (run : RunRecord I R) (entries : List (Entry I R)) (reply : Reply R) (request : Request I R)
      → Begins entries
      → Begins (and_entry (and_entry entries (entry_of_reply run run.request reply)) (entry_of_request run request))
  begins_after run entries reply request begins =
      let noted = entry_of_reply run run.request reply in
      begins_and (and_entry entries noted) (entry_of_request run request) (begins_and entries noted begins)

  still_at : (run after : RunRecord I R) (below : List (RunRecord I R)) → after.place.level ≡ run.place.level
      → (oldest run below).place.level ≡ 0 → (oldest after below).place.level ≡ 0
  still_at run after [] same at = same ∙ at
  still_at run after (next ∷ below) same at = at

  started : (runs : Option (List (RunRecord I R))) (next : Place) (entries : List (Entry I R)) (asked : I)
      → Stands runs next entries → (runs ≡ None → goal ≡ asked)
      → Stands (Some (new_record asked next ∷ frames_in runs)) next
      (entries ++ entry_of_run (new_record asked next) ∷ [])
  started None next entries asked stands first =
      let entry : I → Place → Entry I R = λ g p. let run : RunRecord I R = new_record g p in entry_of_run run in (
        (
          [],
          ap (λ es. es ++ entry asked next ∷ []) stands.1 ∙ ap (λ p. entry asked p ∷ []) stands.0
              ∙ ap (λ g. entry g root_place ∷ []) (sym (first refl)),
        ),
        ap (λ p. p.level) stands.0,
      )
  started (Some []) next entries asked stands first = (begins_on entries _ stands.0, stands.1)
  started (Some (run ∷ below)) next entries asked stands first = (begins_on entries _ stands.0, stands.1)

  stepped : (run : RunRecord I R) (below : List (RunRecord I R)) (next : Place) (entries : List (Entry I R))
      (reply : Reply R) (request : Request I R) → Stands (Some (run ∷ below)) next entries
      → Stands (Some (left_open request (record_after run request ∷ below))) (place_after run next request)
      (and_entry (and_entry entries (entry_of_reply run run.request reply)) (entry_of_request run request))
  stepped run [] next entries reply (Done r) stands =
      let noted = and_entry entries (entry_of_reply run run.request reply) in (
        begins_after run entries reply (Done r) stands.0,
        stands.1,
        (noted, r, ap (λ level. noted ++ record { level = one_more level; part = RunEnd r } ∷ []) stands.1),
      )
  stepped run (other ∷ below) next entries reply (Done r) stands =
      (begins_after run entries reply (Done r) stands.0, stands.1)
  stepped run below next entries reply (Evaluate kind asked) stands =
      (begins_after run entries reply (Evaluate kind asked) stands.0, still_at run _ below refl stands.1)
  stepped run below next entries reply EnterCandidate stands =
      (begins_after run entries reply EnterCandidate stands.0, still_at run _ below refl stands.1)
  stepped run below next entries reply FinishCandidate stands =
      (begins_after run entries reply FinishCandidate stands.0, still_at run _ below refl stands.1)
  stepped run below next entries reply (Ignore number) stands =
      (begins_after run entries reply (Ignore number) stands.0, still_at run _ below refl stands.1)

  stands_so : (runs : Option (List (RunRecord I R))) (next : Place) (entries : List (Entry I R))
      → Recorded goal runs next entries → Stands runs next entries
  stands_so _ _ _ Nothing = (refl, refl)
  stands_so _ _ _ (Started {runs} {next} {entries} asked recorded first) =
      started runs next entries asked (stands_so runs next entries recorded) first
  stands_so _ _ _ (Stepped {run} {below} {next} {entries} reply request recorded) =
      stepped run below next entries reply request (stands_so (Some (run ∷ below)) next entries recorded)

  get_end : (front : List (Entry I R)) (entry : Entry I R)
      → slice_get (front ++ entry ∷ []) (length (front ++ entry ∷ []) - 1) ≡ Some entry
  get_end [] entry = refl
  get_end (first ∷ []) entry = refl
  get_end (first ∷ second ∷ front) entry =
      ap (slice_get (first ∷ second ∷ front ++ entry ∷ []))
      {y = suc (length (second ∷ front ++ entry ∷ []) - 1)} (omega arith) ∙ get_end (second ∷ front) entry

  -- once no run is left open, the entries are whole
  pub recorded_is_whole : (next : Place) (entries : List (Entry I R)) → Recorded goal (Some []) next entries
      → (same : I → I → Bool) → same goal goal ≡ true → is_whole same goal entries ≡ true
  recorded_is_whole next entries recorded same self =
      let stands = stands_so (Some []) next entries recorded in
      let begins : option_map_or (is_first same goal) (slice_get entries 0) false ≡ true =
      ap (λ es. option_map_or (is_first same goal) (slice_get es 0) false) stands.0.1 ∙ ap (λ b. b && true) self in
      let ends : option_map_or is_last (slice_get entries (length entries - 1)) false ≡ true =
      ap (λ es. option_map_or is_last (slice_get es (length es - 1)) false) stands.2.2
      ∙ ap (λ e. option_map_or is_last e false) (get_end stands.2.0 _) in
      ap (λ b. b && option_map_or is_last (slice_get entries (length entries - 1)) false) begins ∙ ends
