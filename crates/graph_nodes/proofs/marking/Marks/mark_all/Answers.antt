use Rattle.std.proofs.Common.{get_or, refl}
use Rattle.graph_nodes.specs.Words.{with_root}
use Rattle.graph_nodes.proofs.MarkedNodes.{all_followed, last_followed, next_followed, none_followed}
use Rattle.graph_nodes.proofs.MarkedNodes.{numbers_of, when_ok}
use Rattle.graph_nodes.proofs.marking.Marks.mark_all.Goals as goal

pub loop-root-init : goal.loop-root-init
loop-root-init g c = record {
  followed = none_followed c.args.held.now (numbers_of (with_root c.args.last c.args.roots.now))
      c.args.self.now.marked.items c.args.self.now.waiting.items c.requires.none;
  none_waits = c.requires.none.none_waits;
}

pub mark_from-requires : goal.mark_from-requires
mark_from-requires g c = record {
  rising = c.requires.rising;
  each = c.loop-root.invariant.followed.each;
  none_waits = c.loop-root.invariant.none_waits;
  closed = c.loop-root.invariant.followed.closed;
}

pub loop-root-preserved : goal.loop-root-preserved
loop-root-preserved g c = record {
  followed =
      next_followed c.args.held.now c.args.last c.args.roots.now c.loop-root.root-index
      (get_or c.args.roots.now c.loop-root.root-index (record { 0 = 0 })) (record { 0 = 0 }) c.loop-root-test.true refl
      c.loop-root.self.marked.items c.mark_from.new.self.marked.items c.loop-root.invariant.followed
      c.in_ok-mark_from.ensures.closed c.in_ok-mark_from.ensures.marks;
  none_waits = c.in_ok-mark_from.ensures.none_waits;
}

pub mark_from-requires-in-Some : goal.mark_from-requires-in-Some
mark_from-requires-in-Some g c = record {
  rising = c.requires.rising;
  each = c.loop-root.invariant.followed.each;
  none_waits = c.loop-root.invariant.none_waits;
  closed = c.loop-root.invariant.followed.closed;
}

pub returns-in-Some : goal.returns-in-Some
returns-in-Some g c =
    when_ok c.mark_from-in-Some.result
    (last_followed c.args.held.now c.args.roots.now c.loop-root.root-index c.loop-root-test.false
    c.loop-root.self.marked.items c.args.last c.in-Some.root c.in-Some.is c.loop-root.invariant.followed
    c.mark_from-in-Some.new.self.marked.items)
    c.mark_from-in-Some.ensures.closed c.mark_from-in-Some.ensures.marks

pub returns-in-None : goal.returns-in-None
returns-in-None g c = all_followed c.args.held.now c.args.roots.now c.loop-root.root-index c.loop-root-test.false
    c.loop-root.self.marked.items c.args.last c.in-None.is c.loop-root.invariant.followed
