use Rattle.search_rules.specs.Below.{verdicts}
use Rattle.search_rules.proofs.justified.Finishing.{again, definite_result, left_open}
use Rattle.search_rules.proofs.records.LeanNodes.{ends_by, node_by, placed_by}
use Rattle.run_records.proofs.Verdicts.{fails_at}
use Rattle.search_rules.proofs.nodes.result_node.Goals as goal

pub returns-in-Neither-clause-has_node : goal.returns-in-Neither-clause-has_node
returns-in-Neither-clause-has_node g c = left_open (verdicts g.D.Cx.Cx) c.args.cache.now.nodes
    c.args.state.now.provisional_result c.args.own_node c.args.state.now.node c.args.progress.now c.args.outcome
    c.sort-verdict.result c.sort-verdict.ensures.yes c.sort-verdict.ensures.no c.in-Neither.is

pub returns-then-says_again-clause-has_node : goal.returns-then-says_again-clause-has_node
returns-then-says_again-clause-has_node g c =
    again (verdicts g.D.Cx.Cx) c.args.cache.now.nodes c.args.state.now.provisional_result c.args.own_node
    c.args.state.now.node c.args.progress.now c.args.outcome c.sort-verdict.result c.sort-verdict.ensures.yes
    c.sort-verdict.ensures.no c.in_default.not-Neither (c.says_again.ensures.0 c.if-says_again.true)

pub finish_by-requires-clause-ends : goal.finish_by-requires-clause-ends
finish_by-requires-clause-ends g c = ends_by (verdicts g.D.Cx.Cx) (g.D.Delegate.script c.args.cache.now.cx)
    c.args.cache.now.nodes c.args.own_node c.args.input c.requires.of_goal c.args.progress.now c.args.outcome
    c.sort-verdict.result c.record_for_node-by.result.now c.record_for_node-by.ensures

pub finish_by-requires-clause-placed : goal.finish_by-requires-clause-placed
finish_by-requires-clause-placed g c =
    placed_by (verdicts g.D.Cx.Cx) (g.D.Delegate.script c.args.cache.now.cx) c.args.cache.now.nodes c.args.own_node
    c.args.input c.requires.of_goal c.args.progress.now c.args.outcome c.sort-verdict.result
    c.record_for_node-by.result.now c.record_for_node-by.ensures
    (c.requires.placed (definite_result (verdicts g.D.Cx.Cx) c.args.cache.now.nodes c.args.state.now.provisional_result
    c.args.own_node c.args.state.now.node c.args.progress.now c.args.outcome c.sort-verdict.result
    c.sort-verdict.ensures.yes c.sort-verdict.ensures.no c.in_default.not-Neither))

pub finish_by-requires-clause-definite : goal.finish_by-requires-clause-definite
finish_by-requires-clause-definite g c = c.in_default.not-Neither

pub returns-clause-has_node : goal.returns-clause-has_node
returns-clause-has_node g c =
    node_by (verdicts g.D.Cx.Cx) (g.D.Delegate.script c.args.cache.now.cx) c.args.cache.now.nodes c.args.own_node
    c.args.input c.requires.of_goal c.args.progress.now c.args.outcome c.sort-verdict.result
    c.record_for_node-by.result.now c.record_for_node-by.ensures c.sort-verdict.ensures.yes
    c.sort-verdict.ensures.no c.in_default.not-Neither
    (c.requires.ends (definite_result (verdicts g.D.Cx.Cx) c.args.cache.now.nodes c.args.state.now.provisional_result
    c.args.own_node c.args.state.now.node c.args.progress.now c.args.outcome c.sort-verdict.result
    c.sort-verdict.ensures.yes c.sort-verdict.ensures.no c.in_default.not-Neither))
    c.args.state.now.provisional_result c.args.state.now.node
    (λ repeats. fails_at c.if-says_again.false (c.says_again.ensures.1 repeats))
    c.finish_by.new.cache.nodes c.in_ok-finish_by.ensures.ended
