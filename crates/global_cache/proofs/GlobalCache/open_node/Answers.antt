use Rattle.std.proofs.Common.{is_ok, sym, subst}
use Rattle.global_cache.specs.Below.{Grown, verdicts, KeepsNodes, KeepsGoals, shapes_of}
use Rattle.global_cache.specs.Words.{IsSoundCache}
use Rattle.graph_nodes.proofs.NodeLists.{KeepsNodes-appended, KeepsGoals-appended, Grown-appended}
use Rattle.graph_nodes.proofs.Slots.{is_appended}
use Rattle.global_cache.proofs.Slots.{nodes_pushed, cache_pushed}
use Rattle.global_cache.proofs.Sound.{IsSoundCache-appended}
use Rattle.global_cache.proofs.GlobalCache.open_node.Goals as goal

pub invariant_of-self-2 : goal.invariant_of-self-2
invariant_of-self-2 g c =
    let is = is_appended c.push.result c.self.inside.nodes c.push.new.self c.args.input
    c.push.ensures.pushed c.push.ensures.refused in
    subst (IsSoundCache g.D.Cx.Input.PartialEq.eq (verdicts g.D.Cx.Cx) g.D.Delegate.script)
    (sym (cache_pushed c.self.inside.cx c.self.inside.nodes c.self.inside.results c.args.self.now c.self.view_is
    (is_ok c.push.result) c.args.input c.push.new.self is))
    (IsSoundCache-appended g.D.Cx.Input.PartialEq.eq (verdicts g.D.Cx.Cx) g.D.Delegate.script c.args.self.now
    (subst (IsSoundCache g.D.Cx.Input.PartialEq.eq (verdicts g.D.Cx.Cx) g.D.Delegate.script) c.self.view_is
    c.self.invariant) (is_ok c.push.result) c.args.input)

pub returns-clause-kept : goal.returns-clause-kept
returns-clause-kept g c =
    let is = is_appended c.push.result c.self.inside.nodes c.push.new.self c.args.input
    c.push.ensures.pushed c.push.ensures.refused in
    subst (KeepsNodes c.args.self.now.nodes) (sym (nodes_pushed c.self.inside.cx c.self.inside.nodes
    c.self.inside.results c.args.self.now c.self.view_is (is_ok c.push.result) c.args.input c.push.new.self is))
    (KeepsNodes-appended (is_ok c.push.result) c.args.self.now.nodes c.args.input)

pub returns-clause-goals : goal.returns-clause-goals
returns-clause-goals g c =
    let is = is_appended c.push.result c.self.inside.nodes c.push.new.self c.args.input
    c.push.ensures.pushed c.push.ensures.refused in
    subst (KeepsGoals c.args.self.now.nodes) (sym (nodes_pushed c.self.inside.cx c.self.inside.nodes
    c.self.inside.results c.args.self.now c.self.view_is (is_ok c.push.result) c.args.input c.push.new.self is))
    (KeepsGoals-appended (is_ok c.push.result) c.args.self.now.nodes c.args.input)

pub returns-clause-grown : goal.returns-clause-grown
returns-clause-grown g c =
    let is = is_appended c.push.result c.self.inside.nodes c.push.new.self c.args.input
    c.push.ensures.pushed c.push.ensures.refused in
    subst (λ more. Grown (shapes_of (verdicts g.D.Cx.Cx) c.args.self.now.nodes) (shapes_of (verdicts g.D.Cx.Cx) more))
    (sym (nodes_pushed c.self.inside.cx c.self.inside.nodes c.self.inside.results c.args.self.now c.self.view_is
    (is_ok c.push.result) c.args.input c.push.new.self is))
    (Grown-appended (verdicts g.D.Cx.Cx) (is_ok c.push.result) c.args.self.now.nodes c.args.input)
