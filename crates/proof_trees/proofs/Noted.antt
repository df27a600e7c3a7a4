-- What two notes of a recorder come to.
use Rattle.std.proofs.Common.{◌≡◌, ◌∙◌, List, ◌++◌, Option, append_assoc, ap, if◌then◌else◌, true}
use Rattle.proof_trees.specs.Recorder.{and_entry, entries_of, IsPrefix, records, with_entry}
use Rattle.proof_trees.specs.declared.entry.Entry.{Entry}
use Rattle.proof_trees.specs.declared.recorder.Recorder.{Recorder}

pub IsPrefix-trans : {A : Type 0} (old mid new : List A) → IsPrefix old mid → IsPrefix mid new → IsPrefix old new
IsPrefix-trans old mid new first second =
    (first.0 ++ second.0, second.1 ∙ ap (λ entries. entries ++ second.0) first.1 ∙ append_assoc old first.0 second.0)

-- where entries are recorded, one more is there
pub with_entry-recording : {B I R : Type 0} (recorder : Recorder B I R) (entry : Option (Entry I R))
    → records recorder ≡ true → with_entry recorder entry ≡ and_entry (entries_of recorder) entry
with_entry-recording recorder entry recording =
    ap (λ b. if b then and_entry (entries_of recorder) entry else entries_of recorder) recording

-- and after a second note another one
pub two_noted : {B I R : Type 0} (old mid new : Recorder B I R) (first second : Option (Entry I R)) →
    records mid ≡ records old → entries_of mid ≡ with_entry old first →
    entries_of new ≡ with_entry mid second → records old ≡ true →
    entries_of new ≡ and_entry (and_entry (entries_of old) first) second
two_noted old mid new first second same one two recording =
    two ∙ with_entry-recording mid second (same ∙ recording)
    ∙ ap (λ entries. and_entry entries second) (one ∙ with_entry-recording old first recording)
