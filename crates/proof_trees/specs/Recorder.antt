-- What a recorder has recorded, and what each call adds.
use Rattle.std.specs.Prelude.{◌≡◌, Bool, if◌then◌else◌, List, [], ◌∷◌, ◌++◌, Option, None, Some}
use Rattle.proof_trees.specs.declared.entry.Entry.{Entry}
use Rattle.proof_trees.specs.declared.recorder.Recorder.{Recorder}
use Rattle.proof_trees.specs.declared.run_record.Place.{Place}

-- the second list begins with the first one
abbrev pub IsPrefix : {A : Type 0} → List A → List A → Type 0
IsPrefix {A} old new = (more : List A) × (new ≡ old ++ more)

-- the entries with one more, if there is one
abbrev pub and_entry : {A : Type 0} → List A → Option A → List A
and_entry entries None = entries
and_entry entries (Some entry) = entries ++ entry ∷ []

module _ {B I R : Type 0} where
  -- the frames' own builder
  abbrev pub inner_of : Recorder B I R → B
  inner_of recorder = recorder.inner

  -- entries are recorded
  abbrev pub records : Recorder B I R → Bool
  records recorder = recorder.is_recording

  -- the entries so far
  abbrev pub entries_of : Recorder B I R → List (Entry I R)
  entries_of recorder = recorder.entries.items

  -- where the next run that starts stands
  abbrev pub next_of : Recorder B I R → Place
  next_of recorder = recorder.next

  -- the same if entries are recorded
  abbrev pub with_entry : Recorder B I R → Option (Entry I R) → List (Entry I R)
  with_entry recorder entry =
      if recorder.is_recording then and_entry (entries_of recorder) entry else entries_of recorder

  -- the frames' own builder stays, and whether entries are recorded; and the entries that there were come first
  pub record Keeps (old new : Recorder B I R) : Type 0 where
    pub inner : inner_of new ≡ inner_of old
    pub records : records new ≡ records old
    pub first : IsPrefix (entries_of old) (entries_of new)
