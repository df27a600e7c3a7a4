use Rattle.std.proofs.Common.{slice_get, sym, ap, subst, ◌∙◌}
use Rattle.std.specs.Option.{IfSome}
use Rattle.search_rules.specs.Below.{open_goal, with_run, IsRun, KeepsFinished, edges_of, verdicts}
use Rattle.graph_nodes.proofs.Finished.{KeepsFinished-ended}
use Rattle.graph_nodes.proofs.NodeLists.{others_are}
use Rattle.graph_nodes.proofs.Slots.{if_some_and, is_some_and}
use Rattle.search_rules.proofs.justified.Finishing.{open_for_run}
use Rattle.search_rules.proofs.nodes.finish_by.Goals as goal

pub finish_node-requires-clause-is_open : goal.finish_node-requires-clause-is_open
finish_node-requires-clause-is_open g c =
    is_some_and
    (λ goal. IsRun (verdicts g.D.Cx.Cx) (g.D.Delegate.script c.args.cache.now.cx goal) c.args.cache.now.nodes (record {
      replies = c.args.told.now.replies;
      edges = edges_of c.args.told.now c.args.verdict;
      outcome = c.args.outcome;
    })) (open_goal c.args.cache.now.nodes c.args.node.0)
    (open_for_run (verdicts g.D.Cx.Cx) (g.D.Delegate.script c.args.cache.now.cx) c.args.cache.now.nodes c.args.node
    c.args.told.now c.args.outcome c.requires.ends c.requires.placed c.args.verdict c.requires.yes c.requires.no
    c.requires.definite)

pub finish_node-requires-clause-is_run : goal.finish_node-requires-clause-is_run
finish_node-requires-clause-is_run g c =
    subst (λ replies. IfSome (open_goal c.args.cache.now.nodes c.args.node.0)
    (λ goal. IsRun (verdicts g.D.Cx.Cx) (g.D.Delegate.script c.args.cache.now.cx goal) c.args.cache.now.nodes (record {
      replies = replies;
      edges = c.in_ok-edges.edges.items;
      outcome = c.args.outcome;
    }))) (sym c.in_ok-replies.ensures)
    (subst (λ edges. IfSome (open_goal c.args.cache.now.nodes c.args.node.0)
    (λ goal. IsRun (verdicts g.D.Cx.Cx) (g.D.Delegate.script c.args.cache.now.cx goal) c.args.cache.now.nodes (record {
      replies = c.args.told.now.replies;
      edges = edges;
      outcome = c.args.outcome;
    }))) (sym c.in_ok-edges.ensures)
    (if_some_and
    (λ goal. IsRun (verdicts g.D.Cx.Cx) (g.D.Delegate.script c.args.cache.now.cx goal) c.args.cache.now.nodes (record {
      replies = c.args.told.now.replies;
      edges = edges_of c.args.told.now c.args.verdict;
      outcome = c.args.outcome;
    })) (open_goal c.args.cache.now.nodes c.args.node.0)
    (open_for_run (verdicts g.D.Cx.Cx) (g.D.Delegate.script c.args.cache.now.cx) c.args.cache.now.nodes c.args.node
    c.args.told.now c.args.outcome c.requires.ends c.requires.placed c.args.verdict c.requires.yes c.requires.no
    c.requires.definite)))

pub returns-clause-ended : goal.returns-clause-ended
returns-clause-ended g c =
    ap (λ cache. cache.nodes) c.finish_node.ensures.ended
    ∙ ap (λ replies. with_run c.args.cache.now.nodes c.args.node.0 (record {
      replies = replies;
      edges = c.in_ok-edges.edges.items;
      outcome = c.args.outcome;
    })) c.in_ok-replies.ensures
    ∙ ap (λ edges. with_run c.args.cache.now.nodes c.args.node.0 (record {
      replies = c.args.told.now.replies;
      edges = edges;
      outcome = c.args.outcome;
    })) c.in_ok-edges.ensures

pub returns-clause-kept : goal.returns-clause-kept
returns-clause-kept g c =
    subst (KeepsFinished c.args.cache.now.nodes) (sym (ap (λ cache. cache.nodes) c.finish_node.ensures.ended))
    (KeepsFinished-ended c.args.cache.now.nodes c.args.node.0 _
    (λ goal. IsRun (verdicts g.D.Cx.Cx) (g.D.Delegate.script c.args.cache.now.cx goal) c.args.cache.now.nodes (record {
      replies = c.args.told.now.replies;
      edges = edges_of c.args.told.now c.args.verdict;
      outcome = c.args.outcome;
    })) (open_for_run (verdicts g.D.Cx.Cx) (g.D.Delegate.script c.args.cache.now.cx) c.args.cache.now.nodes c.args.node
    c.args.told.now c.args.outcome c.requires.ends c.requires.placed c.args.verdict c.requires.yes c.requires.no
    c.requires.definite))

pub returns-clause-others : goal.returns-clause-others
returns-clause-others g c = λ at other.
    ap (λ cache. slice_get cache.nodes at) c.finish_node.ensures.ended
    ∙ others_are c.args.cache.now.nodes c.args.node.0 _
    (λ goal. IsRun (verdicts g.D.Cx.Cx) (g.D.Delegate.script c.args.cache.now.cx goal) c.args.cache.now.nodes (record {
      replies = c.args.told.now.replies;
      edges = edges_of c.args.told.now c.args.verdict;
      outcome = c.args.outcome;
    })) (open_for_run (verdicts g.D.Cx.Cx) (g.D.Delegate.script c.args.cache.now.cx) c.args.cache.now.nodes c.args.node
    c.args.told.now c.args.outcome c.requires.ends c.requires.placed c.args.verdict
    c.requires.yes c.requires.no c.requires.definite) at other
