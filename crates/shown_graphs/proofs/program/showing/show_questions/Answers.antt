use Rattle.std.proofs.Common.{◌&&◌, ◌∙◌, ap, arith, refl}
use Rattle.shown_graphs.proofs.Asking.{all_shown, asked_more, none_asked}
use Rattle.shown_graphs.proofs.Right.{right_under}
use Rattle.shown_graphs.proofs.program.showing.show_questions.Goals as goal
use Rattle.shown_graphs.specs.Below.{verdicts}

pub loop-done-init : goal.loop-done-init
loop-done-init g c = record {
  same_context = ap (λ cache. cache.cx) c.new-cache.ensures;
  asked = none_asked (verdicts g.X.Cx) (g.D.Delegate.script c.args.cx) c.args.shown.rules.now c.args.page _;
}

pub loop-done-preserved : goal.loop-done-preserved
loop-done-preserved g c =
    let right = right_under (verdicts g.X.Cx) g.D.Delegate.script _ _
    c.loop-done.invariant.same_context _ _ c.ask-came.ensures.right in
    record {
      same_context = c.ask-came.ensures.same_context ∙ c.loop-done.invariant.same_context;
      asked = asked_more (verdicts g.X.Cx) (g.D.Delegate.script c.args.cx) c.args.shown.rules.now c.args.page
          c.loop-done.page c.add.new.self c.pass_on.new.self _ _ _ c.questions-questions.result.now
          c.loop-done.done _ _ c.ask-came.result _ _
          c.loop-done-test.true c.loop-done.invariant.asked refl right
          (ap (λ b. c.loop-done.all_fine && b) c.is_fine-all_fine.ensures)
          c.in_ok-add.ensures.added c.in_ok-pass_on.ensures;
    }

pub returns-clause-shown : goal.returns-clause-shown
returns-clause-shown g c =
    all_shown (verdicts g.X.Cx) (g.D.Delegate.script c.args.cx) c.args.shown.rules.now c.args.page
    c.loop-done.page _ _ _
    c.questions-questions.result.now c.loop-done.done _ c.questions-questions.ensures (omega arith)
    c.loop-done.invariant.asked c.in_ok-finish.ensures.written
