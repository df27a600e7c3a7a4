use Rattle.std.proofs.Common.{arith, ◌≤◌, ◌+◌, length, ap, sym, subst, ◌∙◌}
use Rattle.graph_check.proofs.CountedQuestions.{IsLeft, all_asked, asks_another, asks_next, ends_early, passed_over}
use Rattle.graph_check.proofs.Elements.{read_at}
use Rattle.graph_check.proofs.replay.run_record.has_edges.Goals as goal
use Rattle.graph_check.proofs.replay.run_record.has_edges.Goals.{then-counts+in-Some+else-not-asks, else-counts}

pub loop-asked-init : goal.loop-asked-init
loop-asked-init g c = record { same = (λ all. all, λ all. all) }

pub offset_bounds-asked-items-asked-index : goal.offset_bounds-asked-items-asked-index
offset_bounds-asked-items-asked-index g c = c.loop-asked.auto.asked-index-end

pub bounds-asked-items-asked-index : goal.bounds-asked-items-asked-index
bounds-asked-items-asked-index g c = c.loop-asked-test.true

pub returns-in_default : goal.returns-in_default
returns-in_default g c =
    let at = read_at (c.deref-asked-items.ensures.value ∙ ap (λ p. p.asked) c.run.view_is)
    c.loop-asked-test.true c.asked-item.is in
    ends_early c.args.run.now c.asked-item.result at c.loop-asked.invariant c.counts.result c.counts.ensures
    c.if-counts.true c.in_default.ensures.cases

pub returns-then-not-asks : goal.returns-then-not-asks
returns-then-not-asks g c =
    let at = read_at (c.deref-asked-items.ensures.value ∙ ap (λ p. p.asked) c.run.view_is)
    c.loop-asked-test.true c.asked-item.is in
    asks_another c.args.run.now c.asked-item.result at c.loop-asked.invariant c.counts.result c.counts.ensures
    c.if-counts.true c.in-Some.edge.now c.in-Some.later.now c.in-Some.ensures.cases.0
    c.asks.result c.asks.ensures.1 c.if-not-asks.true

pub loop-asked-smaller : goal.loop-asked-smaller
loop-asked-smaller g c = omega (arith, c.loop-asked-test.true)

pub loop-asked-preserved : goal.loop-asked-preserved
loop-asked-preserved g c =
    let at = read_at (c.deref-asked-items.ensures.value ∙ ap (λ p. p.asked) c.run.view_is)
    c.loop-asked-test.true c.asked-item.is in
    elim c.if-counts.branch [
      | then-counts+in-Some+else-not-asks w ↦
          subst (λ left. IsLeft c.args.run.now c.args.edges.now left.now (c.loop-asked.asked-index + 1)) (sym w.left-is)
          (asks_next c.args.run.now c.asked-item.result at c.loop-asked.invariant c.counts.result c.counts.ensures
          w.if-counts.true w.in-Some.edge.now w.in-Some.later.now w.in-Some.ensures.cases.0
          (w.asks.ensures.0 w.if-not-asks.false))
      | else-counts w ↦
          subst (λ left. IsLeft c.args.run.now c.args.edges.now left.now (c.loop-asked.asked-index + 1)) (sym w.left-is)
          (passed_over c.args.run.now c.asked-item.result at c.loop-asked.invariant
          c.counts.result c.counts.ensures w.if-counts.false)
    ]

pub returns : goal.returns
returns g c =
    all_asked c.args.run.now c.args.edges.now c.loop-asked.left.now c.loop-asked.asked-index c.loop-asked.invariant
    (subst (λ list. length list ≤ c.loop-asked.asked-index)
    (c.deref-asked-items.ensures.value ∙ ap (λ p. p.asked) c.run.view_is) c.loop-asked-test.false)
    c.is_empty.result c.is_empty.ensures
