use Rattle.std.proofs.Common.{sym, subst}
use Rattle.global_cache.specs.Below.{Grown, verdicts, KeepsFinished, KeepsGoals, open_goal, shapes_of}
use Rattle.global_cache.specs.Words.{IsSoundCache}
use Rattle.graph_nodes.proofs.Finished.{KeepsFinished-ended}
use Rattle.graph_nodes.proofs.NodeLists.{KeepsGoals-ended, Grown-ended}
use Rattle.graph_nodes.proofs.Slots.{some_and}
use Rattle.global_cache.proofs.Slots.{nodes_ended, cache_ended, open_there}
use Rattle.global_cache.proofs.Sound.{IsSoundCache-ended}
use Rattle.global_cache.proofs.GlobalCache.finish_node.Goals as goal

pub finish-requires : goal.finish-requires
finish-requires g c = record {
  is_open = open_there c.self.inside.cx c.self.inside.nodes c.self.inside.results c.args.self.now c.self.view_is
      c.args.node.0 (record { replies = c.args.replies.items; edges = c.args.edges.items; outcome = c.args.outcome })
      c.requires.is_open;
}

pub invariant_of-self : goal.invariant_of-self
invariant_of-self g c =
    subst (IsSoundCache g.D.Cx.Input.PartialEq.eq (verdicts g.D.Cx.Cx) g.D.Delegate.script)
    (sym (cache_ended c.self.inside.cx c.self.inside.nodes c.self.inside.results c.args.self.now c.self.view_is
    c.args.node.0 _ c.finish.new.self c.finish.ensures))
    (IsSoundCache-ended g.D.Cx.Input.PartialEq.eq (verdicts g.D.Cx.Cx) g.D.Delegate.script c.args.self.now
    (subst (IsSoundCache g.D.Cx.Input.PartialEq.eq (verdicts g.D.Cx.Cx) g.D.Delegate.script)
    c.self.view_is c.self.invariant) c.args.node.0 _
    (some_and _ (open_goal c.args.self.now.nodes c.args.node.0) c.requires.is_open c.requires.is_run))

pub returns-clause-ended : goal.returns-clause-ended
returns-clause-ended g c = cache_ended c.self.inside.cx c.self.inside.nodes c.self.inside.results c.args.self.now
    c.self.view_is c.args.node.0 _ c.finish.new.self c.finish.ensures

pub returns-clause-kept : goal.returns-clause-kept
returns-clause-kept g c =
    subst (KeepsFinished c.args.self.now.nodes) (sym (nodes_ended c.self.inside.cx c.self.inside.nodes
    c.self.inside.results c.args.self.now c.self.view_is c.args.node.0 _ c.finish.new.self c.finish.ensures))
    (KeepsFinished-ended c.args.self.now.nodes c.args.node.0 _ _
    (some_and _ (open_goal c.args.self.now.nodes c.args.node.0) c.requires.is_open c.requires.is_run))

pub returns-clause-goals : goal.returns-clause-goals
returns-clause-goals g c =
    subst (KeepsGoals c.args.self.now.nodes) (sym (nodes_ended c.self.inside.cx c.self.inside.nodes
    c.self.inside.results c.args.self.now c.self.view_is c.args.node.0 _ c.finish.new.self c.finish.ensures))
    (KeepsGoals-ended c.args.self.now.nodes c.args.node.0 _ _
    (some_and _ (open_goal c.args.self.now.nodes c.args.node.0) c.requires.is_open c.requires.is_run))

pub returns-clause-grown : goal.returns-clause-grown
returns-clause-grown g c =
    subst (λ more. Grown (shapes_of (verdicts g.D.Cx.Cx) c.args.self.now.nodes) (shapes_of (verdicts g.D.Cx.Cx) more))
    (sym (nodes_ended c.self.inside.cx c.self.inside.nodes c.self.inside.results c.args.self.now c.self.view_is
    c.args.node.0 _ c.finish.new.self c.finish.ensures))
    (Grown-ended c.args.self.now.nodes c.args.node.0 _ _
    (some_and _ (open_goal c.args.self.now.nodes c.args.node.0) c.requires.is_open c.requires.is_run)
    (verdicts g.D.Cx.Cx))
