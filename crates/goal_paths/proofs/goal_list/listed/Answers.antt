use Rattle.std.proofs.Common.{◌++◌, [], ◌∷◌, length, sym, ap, ◌∙◌, append_assoc, arith}
use Rattle.goal_paths.proofs.goal_list.listed.Goals as goal

pub loop-goal-init : goal.loop-goal-init
loop-goal-init g c = record {
  all = ap (λ goals. goals ++ c.into_iter-goal-iterator.result) c.in_ok-list.ensures.items;
  room = omega (
    arith,
    c.in_ok-list.ensures.len,
    c.in_ok-list.ensures.capacity,
    c.requires.count,
    ap length c.into_iter-goal-iterator.ensures.into_iter_gives,
  );
}

pub loop-goal-preserved : goal.loop-goal-preserved
loop-goal-preserved g c = record {
  all =
      ap (λ goals. goals ++ c.next.new.self) c.push_reserved.ensures.items
      ∙ append_assoc c.loop-goal.list.items (c.in-Some.goal ∷ []) c.next.new.self
      ∙ ap (λ goals. c.loop-goal.list.items ++ goals) (sym c.in-Some.ensures.steps)
      ∙ c.loop-goal.invariant.all;
  room = omega (
    arith,
    c.push_reserved.ensures.len,
    c.push_reserved.ensures.capacity,
    ap length c.in-Some.ensures.steps,
    c.loop-goal.invariant.room,
  );
}

pub push_reserved-requires : goal.push_reserved-requires
push_reserved-requires g c = omega (arith, ap length c.in-Some.ensures.steps, c.loop-goal.invariant.room)
