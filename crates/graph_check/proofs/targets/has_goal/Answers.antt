use Rattle.std.proofs.Common.{length, refl}
use Rattle.std.proofs.lemmas.Bool.{false≢true}
use Rattle.std.proofs.lemmas.Option.{slice_get_read}
use Rattle.graph_check.proofs.Places.{goal_is_tested, no_goal_at}
use Rattle.graph_check.proofs.targets.has_goal.Goals as goal

pub returns-in-Some : goal.returns-in-Some
returns-in-Some g c =
    let nodes = c.args.nodes.now in
    let found = c.in-Some.ensures.lookup in
    let there = slice_get_read nodes (length nodes) c.args.place c.in-Some.node.now refl found.3.0 found.1 in
    goal_is_tested nodes g.X.Input.PartialEq.eq g.met.X.Input.Eq.laws g.met.X.Cx.same_input
    c.args.place c.in-Some.node.now c.args.goal c.eq.result there c.eq.ensures

pub returns-in-None : goal.returns-in-None
returns-in-None g c = (
  λ h. absurd (false≢true h),
  λ h. absurd (no_goal_at c.args.nodes.now c.args.place c.args.goal c.in-None.ensures.lookup.3 h),
)
