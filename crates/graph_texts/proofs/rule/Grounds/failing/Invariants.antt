use Rattle.std.proofs.Common.{All, take}
use Rattle.graph_texts.specs.Grounds.{IsAsked}
use Rattle.graph_texts.proofs.rule.Grounds.failing.Given as goal

-- no question so far is asked
abbrev pub invariant-loop-asking : goal.invariant-loop-asking
invariant-loop-asking l = All (λ asking. ¬ IsAsked l.self asking) (take l.asking-index l.questions)
