use Rattle.std.proofs.Common.{arith, ◌+◌, ◌∙◌, Some, ap, sym, subst₂}
use Rattle.std.proofs.lemmas.Option.{slice_get-get_or}
use Rattle.graph_nodes.proofs.KeptNodes.{IsMoved, all_moved, none_moved, next_moved, not_moved}
use Rattle.graph_nodes.proofs.marking.keep_marked.Goals as goal
use Rattle.graph_nodes.proofs.marking.keep_marked.Goals.{then-marked-place, else-marked-place}

pub loop-place-init : goal.loop-place-init
loop-place-init g c = none_moved c.args.items.now c.args.marked.now

pub loop-place-preserved : goal.loop-place-preserved
loop-place-preserved g c = elim c.if-marked-place.branch [
  | then-marked-place w ↦
      subst₂ (λ items count. IsMoved c.args.items.now items c.args.marked.now count (c.loop-place.place + 1))
      (sym w.items-is) (sym w.count-is)
      (next_moved c.args.items.now c.loop-place.items c.args.marked.now c.loop-place.count c.loop-place.place
      c.loop-place.invariant c.requires c.loop-place-test.true w.swap.new.self
      w.swap.ensures.by_index w.if-marked-place.true)
  | else-marked-place w ↦
      subst₂ (λ items count. IsMoved c.args.items.now items c.args.marked.now count (c.loop-place.place + 1))
      (sym w.items-is) (sym w.count-is)
      (not_moved c.args.items.now c.loop-place.items c.args.marked.now c.loop-place.count c.loop-place.place
      c.loop-place.invariant (slice_get-get_or c.args.marked.now c.loop-place.place _ c.loop-place-test.true
      ∙ ap Some w.if-marked-place.false))
]

pub returns-clause-within : goal.returns-clause-within
returns-clause-within g c = omega (arith, c.loop-place.invariant.behind, c.requires, c.loop-place.auto.place-end)

pub returns-clause-count : goal.returns-clause-count
returns-clause-count g c = (all_moved c.args.items.now c.loop-place.items c.args.marked.now c.loop-place.count
    c.loop-place.place c.loop-place.invariant c.loop-place-test.false).0

pub returns-clause-kept : goal.returns-clause-kept
returns-clause-kept g c = (all_moved c.args.items.now c.loop-place.items c.args.marked.now c.loop-place.count
    c.loop-place.place c.loop-place.invariant c.loop-place-test.false).1
