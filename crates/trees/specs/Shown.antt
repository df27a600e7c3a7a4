-- What is shown of questions.
use Rattle.std.specs.Prelude.{◌≡◌, ℕ, ◌+◌, ◌≤◌, nat_eq, max, All, Bool, true, false, List, [], ◌++◌, is_ok}
use Rattle.std.specs.Prelude.{Option, None, Some, Result, IfOk, IfErr, OnOk}
use Rattle.answer_lines.specs.Trees.{answer_words}
use Rattle.line_texts.specs.Questions as asked
use Rattle.trees.specs.Below.{Answer, Builder, Cache, CxOf, DelegateOf, entries_of, Fault, frames_within, Goal, Graph}
use Rattle.trees.specs.Below.{HasRun, inner_of, IsCaused, IsPlainTo, IsPlainValue, IsProved, IsRefuted, is_whole}
use Rattle.trees.specs.Below.{Memory, name_or_none, next_of, number_of, Outcome, questions_of, Recorded, Recorder}
use Rattle.trees.specs.Below.{records, root_place, Rules, started_in, text_of, words_of}

-- what was recorded of a question, and the answer or the fault that it came to
pub record Tree : Type 0 where
  pub recorder : Recorder Builder Goal Outcome
  pub came : Result (Answer Outcome) (Fault Goal Outcome)

-- a question, by its depth and its goal, with its tree
abbrev pub ShownQuestion : Type 0
ShownQuestion = asked.AnsweredQuestion (ℕ × Goal) Tree

-- no fault was met
abbrev pub is_fine : Tree → Bool
is_fine tree = is_ok tree.came

-- two goals are the same
abbrev pub same_goal : Goal → Goal → Bool
same_goal a b = nat_eq (number_of a) (number_of b)

-- the lines of all that was recorded, and the line of what the goal came to, with the number of
-- frames that were counted
abbrev pub tree_words : Rules → Goal → Tree → List ℕ
tree_words rules goal tree =
    text_of (words_of rules) (entries_of tree.recorder) ++ name_or_none rules goal
    ++ answer_words tree.came (started_in (inner_of tree.recorder))

-- those of a question
abbrev pub words_shown : Rules → ShownQuestion → List ℕ
words_shown rules shown = tree_words rules shown.question.1 shown.came

-- the recorder has seen nothing, and records what it will see
pub record IsFresh (recorder : Recorder Builder Goal Outcome) : Type 0 where
  pub recording : records recorder ≡ true
  pub no_entries : entries_of recorder ≡ []
  pub at_root : next_of recorder ≡ root_place
  pub no_frames : started_in (inner_of recorder) ≡ 0

-- The entries were recorded of a call that works the goal out, of which no run is open any longer: each comes from the
-- start of a run, or from a step of the newest run that was open.
abbrev pub IsRecorded : Goal → Recorder Builder Goal Outcome → Type 0
IsRecorded goal recorder = Recorded goal (Some []) (next_of recorder) (entries_of recorder)

-- What a delegate's builder sees of a call is what is recorded of it: a fresh one has seen that no run was started, and
-- where one has seen that no run is open any longer, its entries were recorded so.
pub record SeesRecords {F : Type 0} (sees : Recorder Builder Goal Outcome → Goal → Option (List F) → Type 0) :
    Type 0 where
  pub at_first : (recorder : Recorder Builder Goal Outcome) (goal : Goal) → IsFresh recorder → sees recorder goal None
  pub at_last : (recorder : Recorder Builder Goal Outcome) (goal : Goal)
      → sees recorder goal (Some []) → IsRecorded goal recorder

module _ {D C V F A T : Type 0} (G : DelegateOf D C V (Recorder Builder Goal Outcome) F Goal Outcome A T)
    (X : CxOf C Goal Outcome A T) (same : Goal → Goal → Bool) (same_result : Outcome → Outcome → Bool) where
  -- The question's goal was worked out at its depth over an empty cache, before a fresh recorder. What it came to is
  -- what the search promises of such a call.
  pub record IsWorkedOut (cx : C) (shown : ShownQuestion) : Type 0 where
    pub fresh : Recorder Builder Goal Outcome
    pub is_fresh : IsFresh fresh
    -- Where the question was answered, its entries were recorded until no run was open any longer. So they begin with
    -- its goal's own first run, at level 0, and end with the end of a run of that level.
    pub recorded : OnOk shown.came.came (IsRecorded shown.question.1 shown.came.recorder)
    pub whole : OnOk shown.came.came (is_whole same_goal shown.question.1 (entries_of shown.came.recorder) ≡ true)
    -- The recorder is no more a no-op at the end than it was.
    pub records : G.noop shown.came.recorder ≡ G.noop fresh
    pub before : Cache C Goal Outcome T
    pub is_empty : before ≡ record { cx = cx; nodes = []; results = [] }
    pub after : Cache C Goal Outcome T
    pub same_context : after.cx ≡ before.cx
    -- The cache has the answer's proof graph if it is yes, and its refutation graph if it is no.
    pub proof : IfOk shown.came.came
        (λ answer. X.is_yes answer.result ≡ true → IsProved X after shown.question.1 answer.node)
    pub refutation : IfOk shown.came.came
        (λ answer. X.is_no answer.result ≡ true → IsRefuted X after shown.question.1 answer.node)
    -- A goal whose questions go no deeper than the depth, and that is orderly with all goals below
    -- it, has its plain value.
    pub plain : (n : ℕ) → IsPlainTo (G.script before.cx) n shown.question.1 → n ≤ shown.question.0
        → IfOk shown.came.came (λ answer. IsPlainValue (G.script before.cx) n shown.question.1 answer.result)
    pub plain_faults : (n : ℕ) → IsPlainTo (G.script before.cx) n shown.question.1 → n ≤ shown.question.0
        → IfErr shown.came.came (λ fault. fault ≡ Memory)
    -- A fault has its cause.
    pub faults : IfErr shown.came.came (IsCaused G X same after)
    -- The frames that were started are within a bound.
    pub frames : G.starts shown.came.recorder
        ≤ G.starts fresh + frames_within (max 1 G.FIXPOINT_STEP_LIMIT) (G.width before.cx) shown.question.0
    -- The call was made so, and left this graph: whether it met a limit, and what follows, are laws of calls.
    pub left : Graph
    pub ran : HasRun G X same same_result (record {
      goal = shown.question.1;
      noop = G.noop fresh;
      looks_up = false;
      before = record {
        graph = record { root_depth = shown.question.0; limits_met = false };
        cache = before;
        starts = G.starts fresh;
      };
      result = shown.came.came;
      after = record { graph = left; cache = after; starts = G.starts shown.came.recorder };
    })

  -- each of the questions was
  abbrev pub AreWorkedOut : C → List ShownQuestion → Type 0
  AreWorkedOut cx all = All (IsWorkedOut cx) all

  -- the question was worked out, its lines are the text, and `fine` says that it met no fault
  pub record IsTreeShown (cx : C) (rules : Rules) (question : ℕ × Goal) (fine : Bool) (text : List ℕ) : Type 0 where
    pub tree : Tree
    pub worked_out : IsWorkedOut cx (record { question = question; came = tree })
    pub is_text : text ≡ tree_words rules question.1 tree
    pub met_none : fine ≡ is_fine tree

  -- All questions were worked out in turn, and their lines were written; `all_fine` says that none met a fault.
  abbrev pub AreAllShown : C → Rules → (old new : Option (List ℕ)) → (all_fine : Bool) → Type 0
  AreAllShown cx rules = asked.AreAllTold (words_shown rules) is_fine (AreWorkedOut cx) (questions_of rules)

  -- the first questions were worked out in turn, and a beginning of their lines was written
  abbrev pub AreFirstShown : C → Rules → (old new : Option (List ℕ)) → Type 0
  AreFirstShown cx rules = asked.AreFirstTold (words_shown rules) is_fine (AreWorkedOut cx) (questions_of rules)
