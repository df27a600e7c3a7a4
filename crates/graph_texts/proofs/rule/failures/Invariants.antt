use Rattle.std.proofs.Common.{take}
use Rattle.std.specs.List.{AllZip}
use Rattle.graph_texts.specs.Grounds.{FailsAt}
use Rattle.graph_texts.proofs.rule.failures.Given as goal

-- a question is named for each rule so far
abbrev pub invariant-loop-place : goal.invariant-loop-place
invariant-loop-place l = AllZip (FailsAt l.grounds) (take l.place l.candidates) l.named.items
