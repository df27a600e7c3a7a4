-- The lines that tell what questions came to.
use Rattle.std.specs.Prelude.{ℕ, List, ◌++◌, codes, true, Option, Some, None, Result, Ok, Err}
use Rattle.answer_lines.specs.Faults.{fault_word_of}
use Rattle.delegate_parts.specs.declared.outcome.Outcome.{Outcome}
use Rattle.delegate_parts.specs.declared.outcome.Outcome.TheVariants.{Maybe, No, Overflow, Yes}
use Rattle.line_texts.specs.Questions as asked
use Rattle.path_kinds.specs.declared.path.PathKind.{PathKind}
use Rattle.path_kinds.specs.declared.path.PathKind.TheVariants.{Coinductive, ForcedAmbiguity, Inductive, Unknown}
use Rattle.search_context.specs.declared.context.Fault.{Fault}
use Rattle.watched_runs.specs.declared.watch.Cause.{Cause}
use Rattle.watched_runs.specs.declared.watch.Cause.TheVariants.{Cycle, Depth, Known, Runs}

-- a cycle by forced ambiguity is a goal whose candidates are not known
abbrev pub cycle_words : PathKind → List ℕ
cycle_words Inductive = codes " (cycle)\n"
cycle_words Coinductive = codes " (cycle)\n"
cycle_words Unknown = codes " (cycle)\n"
cycle_words ForcedAmbiguity = codes " (goals)\n"

-- Why a question came to maybe, if that is seen. A goal that was known, and of which nothing is noted, came to maybe
-- with a cycle that it was part of.
abbrev pub cause_words : Option Cause → List ℕ
cause_words None = codes "\n"
cause_words (Some (Depth or_runs)) = codes " (depth)\n"
cause_words (Some Runs) = codes " (runs)\n"
cause_words (Some (Cycle kind)) = cycle_words kind
cause_words (Some Known) = codes " (cycle)\n"

-- what follows the name of a goal: what it came to
abbrev pub came_words : Result Outcome (Fault ℕ Outcome) → Option Cause → List ℕ
came_words (Ok Yes) cause = codes " yes\n"
came_words (Ok No) cause = codes " no\n"
came_words (Ok Maybe) cause = codes " maybe" ++ cause_words cause
came_words (Ok Overflow) cause = codes " maybe" ++ cause_words cause
came_words (Err fault) cause = codes " fault " ++ fault_word_of fault ++ codes "\n"

-- what a goal is called, and why it came to maybe, if it did
pub record Naming : Type 0 where
  pub name : List ℕ
  pub cause : Option Cause

-- the line of a question that came to this
abbrev pub line_of : asked.AnsweredQuestion (Result Outcome (Fault ℕ Outcome)) Naming → List ℕ
line_of told = told.came.name ++ came_words told.question told.came.cause

-- What each question came to is told on a line of its own, in order, behind some name; and all lines were written.
abbrev pub AreAllTold : List (Result Outcome (Fault ℕ Outcome)) → (old new : Option (List ℕ)) → Type 0
AreAllTold all old new = asked.AreAllTold line_of (λ _. true) (λ _. Unit {0}) all old new true
