use Rattle.graph_pages.specs.Below.{verdicts}
use Rattle.graph_pages.specs.Told.{AreJudged}
use Rattle.graph_pages.proofs.program.checking.check_claims.Given as goal

-- the claims so far are judged
abbrev pub invariant-loop-claim : goal.invariant-loop-claim
invariant-loop-claim g l =
    let contents = g.W.Write.contents in
    AreJudged (verdicts g.X.Cx) (g.D.Delegate.script l.cx) l.rules l.yielded l.none_refused
    (contents l.fn.out) (contents l.out)
