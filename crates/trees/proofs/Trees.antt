-- What is shown of one question more.
use Rattle.std.proofs.Common.{◌≡◌, ◌∙◌, ℕ, Bool, List, [], ◌∷◌, ◌++◌, Option, None, Some, Result, Err, Ok, OnOk, true}
use Rattle.std.proofs.Common.{ap, append_assoc, arith, eq-eqb, refl, sym}
use Rattle.std.proofs.lemmas.List.{append-nil}
use Rattle.std.proofs.lemmas.List.Elements.{All-push}
use Rattle.std.specs.Io.KnownBytes.{Appends}
use Rattle.answer_lines.specs.Trees.{answer_words}
use Rattle.line_texts.specs.Writing.{Passes}
use Rattle.proof_trees.proofs.Recorded.{nothing_seen, recorded_is_whole}
use Rattle.trees.specs.Below.{Answer, Builder, CxOf, DelegateOf, entries_of, Entry, Fault, Goal, HasSeen, inner_of}
use Rattle.trees.specs.Below.{is_whole, name_or_none, next_of, number_of, Outcome, Recorder, Rules, started_in}
use Rattle.trees.specs.Below.{text_of, words_of}
use Rattle.trees.specs.Shown.{AreWorkedOut, IsFresh, IsRecorded, IsWorkedOut, same_goal, SeesRecords, ShownQuestion}
use Rattle.trees.specs.Shown.{tree_words}

-- all of it was written, so nothing waits
pub all_passed : (old new : Option (List ℕ)) (bytes : List ℕ) → Appends old new bytes → Passes old new bytes []
all_passed old new bytes written = record { bytes = bytes; written = written; others = sym (append-nil bytes) }

-- what was appended to an emptied text is all of it
pub emptied : (empty new words : List ℕ) → empty ≡ [] → new ≡ empty ++ words → new ≡ words
emptied empty new words none appended = appended ∙ ap (λ l. l ++ words) none

module _ {D C V F A T : Type 0} (G : DelegateOf D C V (Recorder Builder Goal Outcome) F Goal Outcome A T)
    (X : CxOf C Goal Outcome A T) (same : Goal → Goal → Bool) (same_result : Outcome → Outcome → Bool) (cx : C) where
  pub none_worked_out : AreWorkedOut G X same same_result cx []
  none_worked_out = λ k d below. absurd (omega arith)

  pub one_worked_out : (last : ShownQuestion) → IsWorkedOut G X same same_result cx last → (all : List ShownQuestion)
      → AreWorkedOut G X same same_result cx all → AreWorkedOut G X same same_result cx (all ++ last ∷ [])
  one_worked_out last one all so_far = All-push (IsWorkedOut G X same same_result cx) all last so_far one

-- the lines of a tree, piece by piece
module _ (rules : Rules) (goal : Goal) (recorder : Recorder Builder Goal Outcome)
    (came : Result (Answer Outcome) (Fault Goal Outcome)) where
  same_words : (entries : List (Entry Goal Outcome)) (started : ℕ) → entries ≡ entries_of recorder →
      started ≡ started_in (inner_of recorder) →
      text_of (words_of rules) entries ++ name_or_none rules goal ++ answer_words came started
      ≡ tree_words rules goal (record { recorder = recorder; came = came })
  same_words entries started e s =
      ap (λ es. text_of (words_of rules) es ++ name_or_none rules goal ++ answer_words came started) e
      ∙ ap (λ n. text_of (words_of rules) (entries_of recorder) ++ name_or_none rules goal ++ answer_words came n) s

  pub tree_written : (entries : List (Entry Goal Outcome)) (started : ℕ) (old first second new : List ℕ) →
      entries ≡ entries_of recorder → started ≡ started_in (inner_of recorder) →
      first ≡ old ++ text_of (words_of rules) entries → second ≡ first ++ name_or_none rules goal →
      new ≡ second ++ answer_words came started →
      new ≡ old ++ tree_words rules goal (record { recorder = recorder; came = came })
  tree_written entries started old first second new e s is_first is_second is_new =
      let lines = text_of (words_of rules) entries in
      let name = name_or_none rules goal in
      let with_name : second ≡ old ++ (lines ++ name) =
      is_second ∙ ap (λ l. l ++ name) is_first ∙ append_assoc old lines name in
      is_new ∙ ap (λ l. l ++ answer_words came started) with_name
      ∙ append_assoc old (lines ++ name) (answer_words came started)
      ∙ ap (λ l. old ++ l) (same_words entries started e s)

-- what recording delegates see is what is recorded
pub sees_records : {F : Type 0} → SeesRecords (HasSeen {B = Builder} {F = F} {I = Goal} {R = Outcome})
sees_records {F} = record {
  at_first = λ recorder goal fresh. nothing_seen recorder goal fresh.recording fresh.no_entries fresh.at_root;
  at_last = λ recorder goal seen. seen.recorded;
}

module _ {F : Type 0} (sees : Recorder Builder Goal Outcome → Goal → Option (List F) → Type 0)
    (records : SeesRecords sees) (goal : Goal) (fresh last : Recorder Builder Goal Outcome)
    (is_fresh : IsFresh fresh) where
  -- what was recorded of a goal that was answered
  pub came_recorded : {A E : Type 0} (came : Result A E)
      → (sees fresh goal None → OnOk came (sees last goal (Some []))) → OnOk came (IsRecorded goal last)
  came_recorded (Ok answer) seen = records.at_last last goal (seen (records.at_first fresh goal is_fresh))
  came_recorded (Err fault) seen = tt

-- and that it is whole
pub came_whole : {A E : Type 0} (goal : Goal) (last : Recorder Builder Goal Outcome) (came : Result A E)
    → OnOk came (IsRecorded goal last) → OnOk came (is_whole same_goal goal (entries_of last) ≡ true)
came_whole goal last (Ok answer) recorded =
    let same = eq-eqb (number_of goal) (number_of goal) refl in
    recorded_is_whole goal (next_of last) (entries_of last) recorded same_goal same
came_whole goal last (Err fault) recorded = tt
