use Rattle.std.proofs.Common.{◌≡◌, ◌∙◌, false, true, ap, sym, arith, refl, subst}
use Rattle.answer_lines.specs.declared.goals.Check.TheVariants.{Accepted}
use Rattle.table_runs.proofs.Answered.{call_told, IfSome-weaker, result_of, paid}
use Rattle.table_runs.specs.Below.{Goal, Hit, Outcome}
use Rattle.table_runs.proofs.Right.{right_outcome}
use Rattle.table_runs.specs.Right.{AreShown, IsRightOutcome, SomeGraphShows}
use Rattle.table_runs.proofs.program.questions.ask.Goals as goal

pub returns-clause-answered : goal.returns-clause-answered
returns-clause-answered g c = λ starts.
    let depth : c.renew.new.self.root_depth ≡ c.args.depth = ap (λ graph. graph.root_depth) c.renew.ensures in
    let unmet : c.renew.new.self.limits_met ≡ false = ap (λ graph. graph.limits_met) c.renew.ensures in
    let counted : c.started.result ≡ g.D.Delegate.starts c.evaluate_goal.new.inspect =
    c.started.ensures ∙ sym (starts c.evaluate_goal.new.inspect).0 in
    let none : g.D.Delegate.starts c.new-builder.result ≡ 0 =
    (starts c.new-builder.result).0 ∙ c.new-builder.ensures.started in
    let is_noop : g.D.Delegate.noop c.new-builder.result ≡ true =
    (starts c.new-builder.result).1 ∙ c.new-builder.ensures.noop in
    let frames = rw depth at c.in_ok-answer.ensures.frames in
    record {
      plain = rw depth at c.in_ok-answer.ensures.plain;
      plain_faults = λ n is within. tt;
      graph = (c.in_ok-answer.answer.node, c.in_ok-answer.ensures.has_graph);
      checked = c.in_ok-check.ensures.checked c.in_ok-answer.ensures.has_graph;
      stored = λ unscoped. IfSome-weaker _ _ (λ (hit : Hit Goal Outcome g.row.X-DepNodeIndex.Denot).
          (c.in_ok-answer.answer.result ≡ hit.result) × (c.started.result ≡ 0)) (λ hit all. (
            result_of _ _ c.in_ok-answer.answer (record { result = hit.result; node = hit.node }) all.0 refl refl,
            counted ∙ all.1 ∙ none,
          )) (rw depth at (c.in_ok-answer.ensures.stored is_noop unscoped));
      frames = omega (arith, frames, counted, none);
      limits = c.evaluate_goal.new.self.limits_met;
      ran = (
        c.in_ok-answer.answer.node,
        call_told g.D.Delegate g.X.Cx _ _ c.args.goal c.args.depth c.args.cache.now c.evaluate_goal.new.cache _ _
            c.evaluate_goal.new.self _ _ _ c.in_ok-answer.answer
            is_noop c.renew.ensures none counted c.in_ok-answer.ensures.ran,
      );
      decisive = λ is all met. c.in_ok-answer.ensures.decisive is all met;
      price = λ counts without met. paid _ _ _ _ _ _ _ _ depth none counted
          (c.price.ensures _ c.evaluate_goal.ensures.ran counts without unmet met);
      faults = tt;
      same_context = c.evaluate_goal.ensures.same_context;
      kept_results = c.evaluate_goal.ensures.keeps.results;
      kept = c.evaluate_goal.ensures.keeps.finished;
    }

pub returns-clause-right : goal.returns-clause-right
returns-clause-right g c =
    subst (λ cx. IsRightOutcome g.X.Cx cx c.args.goal c.in_ok-answer.answer.result) c.evaluate_goal.ensures.same_context
    (right_outcome g.X.Cx c.evaluate_goal.new.cache c.args.goal c.in_ok-answer.answer
    c.in_ok-answer.ensures.yes c.in_ok-answer.ensures.no)

pub returns-clause-shown : goal.returns-clause-shown
returns-clause-shown g c =
    subst (λ cx. AreShown g.X.Cx cx c.args.shown.now → c.in_ok-check.check ≡ Accepted →
    SomeGraphShows g.X.Cx cx c.args.goal c.in_ok-answer.answer.result)
    c.evaluate_goal.ensures.same_context c.in_ok-check.ensures.shown

pub returns-clause-remembered : goal.returns-clause-remembered
returns-clause-remembered g c =
    subst (λ cx. AreShown g.X.Cx cx c.args.shown.now → AreShown g.X.Cx cx c.check_answer.new.shown)
    c.evaluate_goal.ensures.same_context c.check_answer.ensures.remembered

pub returns-in_err-check-clause-remembered : goal.returns-in_err-check-clause-remembered
returns-in_err-check-clause-remembered g c =
    subst (λ cx. AreShown g.X.Cx cx c.args.shown.now → AreShown g.X.Cx cx c.check_answer.new.shown)
    c.evaluate_goal.ensures.same_context c.check_answer.ensures.remembered
