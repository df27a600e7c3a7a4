use Rattle.std.proofs.Common.{◌≡◌, ◌≤◌, ◌∙◌, ap, subst, sym}
use Rattle.delegate_parts.specs.Builder.{started_in}
use Rattle.graph_pages.specs.Checked.{reason_of}
use Rattle.shown_graphs.proofs.Right.{faults_told, graph_under, plain_told, reason_told}
use Rattle.shown_graphs.proofs.answer.ask.Goals as goal
use Rattle.shown_graphs.specs.Below.{IsPlainValue, verdicts}
use Rattle.watched_runs.specs.Reasons.{was_run}
use Rattle.watched_runs.specs.Watch.{inner_of}

pub returns-clause-right : goal.returns-clause-right
returns-clause-right g c =
    let call = c.evaluate_goal-came.ensures in
    let depth : c.new-graph.result.root_depth ≡ c.args.depth = ap (λ graph. graph.root_depth) c.new-graph.ensures in
    record {
      graph = graph_under (verdicts g.X.Cx) g.D.Delegate.script _ _ call.same_context c.args.goal c.told.result
          (c.told.ensures.graph call.has_graph);
      plain = λ n to within. plain_told c.evaluate_goal-came.result c.told.result
          (λ outcome. IsPlainValue (g.D.Delegate.script c.args.cache.now.cx) n c.args.goal outcome) c.told.ensures.same
          (call.plain n to (subst (λ d. n ≤ d) (sym depth) within));
      plain_faults = λ n to within. faults_told c.evaluate_goal-came.result c.told.result c.told.ensures.same
          (call.plain_faults n to (subst (λ d. n ≤ d) (sym depth) within));
    }

pub returns-clause-reason : goal.returns-clause-reason
returns-clause-reason g c =
    let call = c.evaluate_goal-came in
    record {
      begun = c.new-graph.result;
      is_begun = c.new-graph.ensures;
      came = call.result;
      left = call.new.self;
      counted = g.D.Delegate.starts (inner_of call.new.inspect);
      is_counted = ap g.D.Delegate.starts (sym c.reason_noted-reason.ensures.same);
      ran = call.ensures.ran;
      is_told = c.told.ensures.same;
      reason = reason_told (reason_of c.told.result) call.result c.reason_noted-reason.result _ _ _ _
          c.told.ensures.reason c.reason_noted-reason.ensures.reason
          (ap (λ before. was_run before (inner_of call.new.inspect)) c.started-before.ensures
          ∙ ap (was_run (started_in (inner_of c.args.watcher.now))) (sym c.reason_noted-reason.ensures.same))
          c.limits_met.ensures;
    }
