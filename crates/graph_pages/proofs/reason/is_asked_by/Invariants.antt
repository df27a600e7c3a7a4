use Rattle.std.proofs.Common.{All, Contains, take}
use Rattle.rule_tables.specs.Candidate.{Candidate}
use Rattle.graph_pages.proofs.reason.is_asked_by.Given as goal

-- no rule so far has the question
abbrev pub invariant-loop-place : goal.invariant-loop-place
invariant-loop-place l = All (λ (rule : Candidate). ¬ Contains rule.questions l.asking) (take l.place l.candidates)
