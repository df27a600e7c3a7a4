-- Where a frame of the rule table stands. `rules_of` gives the rules that a lender lends.
use Rattle.std.specs.Prelude.{ℕ, List}
use Rattle.candidate_lists.specs.Standing as lists
use Rattle.candidate_lists.specs.declared.frame.CandidateFrame.{CandidateFrame}
use Rattle.rule_tables.specs.Below.{Request, Reply, Outcome}
use Rattle.rule_tables.specs.Candidate.{Candidate}
use Rattle.rule_tables.specs.declared.rules.Goal.{Goal}
use Rattle.rule_tables.specs.declared.rules.Rules.{Rules}
use Rattle.rule_tables.specs.declared.delegate.Table.{Table}
use Rattle.rule_tables.specs.Rules.{candidates_of, question_of}
use Rattle.rule_tables.specs.Frame.{script_of}

abbrev pub candidates_in : {T : Type 0} → (T → Rules) → Table T → Goal → List Candidate
candidates_in rules_of table goal = candidates_of (rules_of table.lender) goal

abbrev pub table_script : {T : Type 0} → (T → Rules) → Table T → Goal → List (Reply Outcome) → Request Goal Outcome
table_script rules_of cx goal = script_of (candidates_of (rules_of cx.lender) goal)

abbrev pub FrameStands : {T : Type 0} → (T → Rules) → CandidateFrame (Table T) Goal → Table T
    → Goal → List (Reply Outcome) → Type 0
FrameStands rules_of = lists.Stands question_of (candidates_in rules_of)

abbrev pub frame_left : {T : Type 0} → (T → Rules) → CandidateFrame (Table T) Goal → ℕ
frame_left rules_of = lists.frame_left (candidates_in rules_of)
