use Rattle.std.proofs.Common.{◌≡◌, rules, sym, subst}
use Rattle.services.specs.Below.{graph_nodes_of, No, Yes}
use Rattle.services.specs.Running.{CanRun}
use Rattle.services.proofs.Runs.{runs_at_node, stuck_at_node}
use Rattle.services.proofs.answer.can_run.Goals as goal

pub returns-clause-yes : goal.returns-clause-yes
returns-clause-yes g c = λ e.
    let is : c.verdict.result ≡ Yes = cc in
    let cache = c.evaluate_goal-answer.new.cache in
    let shown = c.in_ok-answer.ensures.yes (c.verdict.ensures.yes.0 is) in
    let same : cache.cx.0.0.lender ≡ c.args.services =
    let made = c.new-cache.ensures in let kept = c.in_ok-answer.ensures.same_context in search rules in
    subst (λ lent. CanRun (g.S.Lends.lent_by lent).items c.args.number) same
    (runs_at_node (g.S.Lends.lent_by cache.cx.0.0.lender).items
    (graph_nodes_of cache.nodes) c.args.number _ shown.graph)

pub returns-clause-no : goal.returns-clause-no
returns-clause-no g c = λ e can.
    let is : c.verdict.result ≡ No = cc in
    let cache = c.evaluate_goal-answer.new.cache in
    let shown = c.in_ok-answer.ensures.no (c.verdict.ensures.no.0 is) in
    let same : cache.cx.0.0.lender ≡ c.args.services =
    let made = c.new-cache.ensures in let kept = c.in_ok-answer.ensures.same_context in search rules in
    stuck_at_node (g.S.Lends.lent_by cache.cx.0.0.lender).items
    (graph_nodes_of cache.nodes) c.args.number _ shown.graph
    (subst (λ lent. CanRun (g.S.Lends.lent_by lent).items c.args.number) (sym same) can)
