use Rattle.std.proofs.Common.{arith, ◌≤◌, ◌+◌, length, reverse, take, sym, subst, ◌∙◌}
use Rattle.graph_check.specs.Words.{has_sort}
use Rattle.graph_check.proofs.Elements.{none_ok, read_at, taken_last}
use Rattle.graph_check.proofs.Replaying.{replays_nothing, replays_more, fitting_next, stops_unfit, stops_disorderly}
use Rattle.graph_check.proofs.Replaying.{run_is_legal, is_run_if, run_is_done, run_has_edges}
use Rattle.graph_check.proofs.replay.is_run.Goals as goal
use Rattle.graph_check.proofs.replay.is_run.Goals.{then-is_done, else-is_done}
use Rattle.graph_check.specs.Below.{verdicts}

pub loop-reply-init : goal.loop-reply-init
loop-reply-init g c = record {
  replays = rw c.new-run.ensures (replays_nothing (has_sort (verdicts g.D.Cx.Cx) c.args.sort)
      (g.D.Delegate.script c.args.cx c.args.node.now.input));
  stands = c.in_ok-frame.ensures.frame;
  starts = c.start.ensures.at_most;
  same_noop = c.start.ensures.same_noop;
}

pub loop-reply-preserved : goal.loop-reply-preserved
loop-reply-preserved g c =
    let kept = c.loop-reply.invariant in
    let at = read_at c.deref-reply-items.ensures.value c.loop-reply-test.true c.reply-item.is in
    let fits = c.fits.ensures.0 c.if-not-fits.false in
    let stepped = c.in_ok-request.ensures.request c.args.cx c.args.node.now.input
    (reverse (take c.loop-reply.reply-index c.args.node.now.replies.items)) kept.stands
    (fitting_next {test = has_sort (verdicts g.D.Cx.Cx) c.args.sort}
    {script = g.D.Delegate.script c.args.cx c.args.node.now.input} at kept.replays fits) in
    record {
      replays =
          replays_more {test = has_sort (verdicts g.D.Cx.Cx) c.args.sort}
          {script = g.D.Delegate.script c.args.cx c.args.node.now.input} at kept.replays fits c.is_answer_of_sort.result
          c.in_ok-receive.ensures c.is_answer_of_sort.ensures stepped.0
          c.is_in_order.result c.is_in_order.ensures c.if-not-is_in_order.false
          c.note_request.new.self c.note_request.ensures;
      stands = rw (taken_last c.args.node.now.replies.items c.loop-reply.reply-index c.reply-item.result at) stepped.1;
      starts = subst (λ n. n ≤ g.D.Delegate.starts c.args.inspect.now + 1) (sym c.step.ensures.same_starts) kept.starts;
      same_noop = c.step.ensures.same_noop ∙ kept.same_noop;
    }

pub returns-then-not-fits-clause-exact : goal.returns-then-not-fits-clause-exact
returns-then-not-fits-clause-exact g c =
    let at = read_at c.deref-reply-items.ensures.value c.loop-reply-test.true c.reply-item.is in (
      λ never. cc,
      λ run. absurd (stops_unfit {test = has_sort (verdicts g.D.Cx.Cx) c.args.sort}
          {script = g.D.Delegate.script c.args.cx c.args.node.now.input} at c.loop-reply.invariant.replays
          (λ fits. let says = c.fits.ensures.1 fits in cc)
          (run_is_legal {test = has_sort (verdicts g.D.Cx.Cx) c.args.sort}
          {script = g.D.Delegate.script c.args.cx c.args.node.now.input} run)),
    )

pub returns-then-not-is_in_order-clause-exact : goal.returns-then-not-is_in_order-clause-exact
returns-then-not-is_in_order-clause-exact g c =
    let kept = c.loop-reply.invariant in
    let at = read_at c.deref-reply-items.ensures.value c.loop-reply-test.true c.reply-item.is in
    let fits = c.fits.ensures.0 c.if-not-fits.false in
    let stepped = c.in_ok-request.ensures.request c.args.cx c.args.node.now.input
    (reverse (take c.loop-reply.reply-index c.args.node.now.replies.items)) kept.stands
    (fitting_next {test = has_sort (verdicts g.D.Cx.Cx) c.args.sort}
    {script = g.D.Delegate.script c.args.cx c.args.node.now.input} at kept.replays fits) in (
      λ never. cc,
      λ run.
          absurd (stops_disorderly {test = has_sort (verdicts g.D.Cx.Cx) c.args.sort}
          {script = g.D.Delegate.script c.args.cx c.args.node.now.input} at kept.replays fits c.is_answer_of_sort.result
          c.in_ok-receive.ensures c.is_answer_of_sort.ensures stepped.0
          c.is_in_order.result c.is_in_order.ensures c.if-not-is_in_order.true
          (run_is_legal {test = has_sort (verdicts g.D.Cx.Cx) c.args.sort}
          {script = g.D.Delegate.script c.args.cx c.args.node.now.input} run)),
    )

pub returns-clause-exact : goal.returns-clause-exact
returns-clause-exact g c =
    let node = c.args.node.now in
    let all : length node.replies.items ≤ c.loop-reply.reply-index =
    rw (← c.deref-reply-items.ensures.value) c.loop-reply-test.false in
    let sort = sym c.is_of_sort.ensures ∙ c.if-not-is_of_sort.false in
    let kept = c.loop-reply.invariant.replays in
    elim c.if-is_done.branch [
      | then-is_done w ↦ (
        λ holds.
            let edges = w.has_edges.ensures.0 (sym w.result-is ∙ holds) in
            is_run_if {test = has_sort (verdicts g.D.Cx.Cx) c.args.sort}
            {script = g.D.Delegate.script c.args.cx c.args.node.now.input} node c.loop-reply.reply-index all kept sort
            (c.is_done.ensures.0 w.if-is_done.true) (rw (← w.deref.ensures.value) edges),
        λ run. w.result-is ∙ w.has_edges.ensures.1
            (rw w.deref.ensures.value (run_has_edges {test = has_sort (verdicts g.D.Cx.Cx) c.args.sort}
            {script = g.D.Delegate.script c.args.cx c.args.node.now.input} node c.loop-reply.reply-index all kept run)),
      )
      | else-is_done w ↦ (
        λ holds. cc,
        λ run. w.result-is ∙ c.is_done.ensures.1 (run_is_done {test = has_sort (verdicts g.D.Cx.Cx) c.args.sort}
            {script = g.D.Delegate.script c.args.cx c.args.node.now.input} node c.loop-reply.reply-index all kept run),
      )
    ]

pub returns-then-not-is_of_sort-clause-exact : goal.returns-then-not-is_of_sort-clause-exact
returns-then-not-is_of_sort-clause-exact g c =
    (λ never. cc, λ run. sym c.if-not-is_of_sort.true ∙ c.is_of_sort.ensures ∙ run.sort)

pub returns-in_err-frame-clause-exact : goal.returns-in_err-frame-clause-exact
returns-in_err-frame-clause-exact g c = none_ok c.from_residual.result _ c.from_residual.ensures.0

pub returns-in_err-receive-clause-exact : goal.returns-in_err-receive-clause-exact
returns-in_err-receive-clause-exact g c =
    none_ok c.from_residual-in_err-receive.result _ c.from_residual-in_err-receive.ensures.0

pub returns-in_err-request-clause-exact : goal.returns-in_err-request-clause-exact
returns-in_err-request-clause-exact g c =
    none_ok c.from_residual-in_err-request.result _ c.from_residual-in_err-request.ensures.0

pub returns-in_err-frame-clause-frames : goal.returns-in_err-frame-clause-frames
returns-in_err-frame-clause-frames g c = c.start.ensures.at_most

pub returns-then-not-fits-clause-frames : goal.returns-then-not-fits-clause-frames
returns-then-not-fits-clause-frames g c = c.loop-reply.invariant.starts

pub returns-in_err-receive-clause-frames : goal.returns-in_err-receive-clause-frames
returns-in_err-receive-clause-frames g c = c.loop-reply.invariant.starts

pub returns-in_err-request-clause-frames : goal.returns-in_err-request-clause-frames
returns-in_err-request-clause-frames g c = subst (λ n. n ≤ g.D.Delegate.starts c.args.inspect.now + 1)
    (sym c.step.ensures.same_starts) c.loop-reply.invariant.starts

pub returns-then-not-is_in_order-clause-frames : goal.returns-then-not-is_in_order-clause-frames
returns-then-not-is_in_order-clause-frames g c = subst (λ n. n ≤ g.D.Delegate.starts c.args.inspect.now + 1)
    (sym c.step.ensures.same_starts) c.loop-reply.invariant.starts

pub returns-clause-frames : goal.returns-clause-frames
returns-clause-frames g c = c.loop-reply.invariant.starts

pub returns-in_err-frame-clause-same_noop : goal.returns-in_err-frame-clause-same_noop
returns-in_err-frame-clause-same_noop g c = c.start.ensures.same_noop

pub returns-then-not-fits-clause-same_noop : goal.returns-then-not-fits-clause-same_noop
returns-then-not-fits-clause-same_noop g c = c.loop-reply.invariant.same_noop

pub returns-in_err-receive-clause-same_noop : goal.returns-in_err-receive-clause-same_noop
returns-in_err-receive-clause-same_noop g c = c.loop-reply.invariant.same_noop

pub returns-in_err-request-clause-same_noop : goal.returns-in_err-request-clause-same_noop
returns-in_err-request-clause-same_noop g c = c.step.ensures.same_noop ∙ c.loop-reply.invariant.same_noop

pub returns-then-not-is_in_order-clause-same_noop : goal.returns-then-not-is_in_order-clause-same_noop
returns-then-not-is_in_order-clause-same_noop g c = c.step.ensures.same_noop ∙ c.loop-reply.invariant.same_noop

pub returns-clause-same_noop : goal.returns-clause-same_noop
returns-clause-same_noop g c = c.loop-reply.invariant.same_noop

pub loop-reply-smaller : goal.loop-reply-smaller
loop-reply-smaller g c = omega (arith, c.loop-reply-test.true)

pub offset_bounds-reply-items-reply-index : goal.offset_bounds-reply-items-reply-index
offset_bounds-reply-items-reply-index g c = c.loop-reply.auto.reply-index-end

pub bounds-reply-items-reply-index : goal.bounds-reply-items-reply-index
bounds-reply-items-reply-index g c = c.loop-reply-test.true
