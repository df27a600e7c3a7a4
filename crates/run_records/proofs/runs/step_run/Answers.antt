use Rattle.std.proofs.Common.{◌∙◌, refl, sym, ap}
use Rattle.run_records.specs.Words.{received, requested, fault_of, RunOutOfOrder}
use Rattle.run_records.proofs.Options.{none_is}
use Rattle.run_records.proofs.runs.step_run.Goals as goal

pub returns-in-Some-clause-fault : goal.returns-in-Some-clause-fault
returns-in-Some-clause-fault g c =
    let after = c.in_ok-receive.ensures
    ∙ ap (λ p. received p c.args.received.reply c.sort_of-verdict.result c.args.received.node) c.lend_lists.ensures in
    RunOutOfOrder c.step.new.frame c.sort_of-verdict.result c.in_ok-request.request c.in-Some.number
    c.sort_of-verdict.ensures c.in_ok-request.ensures.request
    (sym (ap (λ p. fault_of p c.in_ok-request.request) after) ∙ sym c.order_fault.ensures ∙ c.in-Some.is) refl

pub returns-clause-stepped : goal.returns-clause-stepped
returns-clause-stepped g c =
    let after = c.in_ok-receive.ensures
    ∙ ap (λ p. received p c.args.received.reply c.sort_of-verdict.result c.args.received.node) c.lend_lists.ensures in
    record {
      frame = c.step.new.frame;
      verdict = c.sort_of-verdict.result;
      is = ap (λ p. record c.args.run.now { frame = c.step.new.frame; progress = p })
          (c.note_request.ensures ∙ ap (λ p. requested p c.in_ok-request.request) after);
      is_verdict = c.sort_of-verdict.ensures;
      in_order = sym (ap (λ p. fault_of p c.in_ok-request.request) after) ∙ sym c.order_fault.ensures
          ∙ none_is c.order_fault.result c.in_default.not-Some;
      falls = c.in_ok-request.ensures.falls;
      steps = c.in_ok-request.ensures.request;
    }

pub returns-clause-seen : goal.returns-clause-seen
returns-clause-seen g c below = record {
  at = λ root seen. c.in_ok-request.ensures.seen c.in_ok-request.request refl root below seen;
}
