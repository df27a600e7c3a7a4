use Rattle.std.proofs.Common.{take}
use Rattle.trait_goals.specs.Trying.{Extends}
use Rattle.trait_pages.specs.Asked.{AreGoalsOf}
use Rattle.trait_pages.proofs.reading.all_goals.Given as goal

-- the first questions have their goals
abbrev pub invariant-loop-question : goal.invariant-loop-question
invariant-loop-question l = record {
  kept : Extends l.fn.goals l.goals;
  are : AreGoalsOf l.fn.goals.made l.goals (take l.question-index l.questions) l.asked.items;
}
