use Rattle.std.proofs.Common.{◌&&◌, [], ap, refl}
use Rattle.graph_pages.specs.Below.{verdicts}
use Rattle.graph_pages.proofs.Judging.{judged_more, none_judged}
use Rattle.graph_pages.proofs.program.checking.check_claims.Goals as goal

pub loop-claim-init : goal.loop-claim-init
loop-claim-init g c = none_judged (verdicts g.X.Cx) (g.D.Delegate.script c.args.cx) c.args.rules.now [] _ refl

pub loop-claim-preserved : goal.loop-claim-preserved
loop-claim-preserved g c =
    judged_more (verdicts g.X.Cx) (g.D.Delegate.script c.args.cx) c.args.rules.now _ _ _ _ _ _ _ _
    c.loop-claim.invariant c.in_ok-said.ensures c.in_ok-tell.ensures
    (ap (λ b. c.loop-claim.none_refused && b) c.is_no_refusal-none_refused.ensures)
