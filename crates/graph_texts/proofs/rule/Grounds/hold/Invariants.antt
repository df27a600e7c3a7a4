use Rattle.std.proofs.Common.{All, take}
use Rattle.graph_texts.specs.Grounds.{IsAsked}
use Rattle.graph_texts.proofs.rule.Grounds.hold.Given as goal

-- each question so far is asked
abbrev pub invariant-loop-asking : goal.invariant-loop-asking
invariant-loop-asking l = All (IsAsked l.self) (take l.asking-index l.questions)
