use Rattle.std.proofs.Common.{◌≡◌, ◌+◌, drop, get_or, sym, ap, ◌∙◌, subst, option_map}
use Rattle.open_goals.specs.Below.{StackDepth, at_depth, IsRising}
use Rattle.cycle_heads.proofs.HeadLists.{absent_later, next_entry, no_counts, rising_from}
use Rattle.goal_changes.specs.Words.{less_usages, CanIgnore, is_in_cycle}
use Rattle.open_goals.proofs.IgnoredHeads.{left_at, head_ignored, usages_ignored, cycle_stays, others_kept}
use Rattle.open_goals.proofs.IgnoredHeads.{first_counts, rest_counts}
use Rattle.open_goals.proofs.update.ignore_usages.Goals as goal

pub ignore_head-requires : goal.ignore_head-requires
ignore_head-requires g c = record {
  counted =
      let items = c.as_slice-head-items.result.now in
      let index = c.loop-head.head-index in
      let head = (get_or items index no_counts).0 in
      let usages = (get_or items index no_counts).1 in
      let rest = drop (index + 1) items in
      let more = next_entry items index no_counts c.loop-head-test.true in
      let i = c.loop-head.invariant in
      let all = subst IsRising (sym c.as_slice-head-items.ensures.usages) c.as_slice-head-items.ensures.rising in
      let once = absent_later head usages rest (subst IsRising more (rising_from items index all)) in
      first_counts c.args.parent head usages rest once c.loop-head.state
      (subst (λ l. CanIgnore c.args.parent l c.loop-head.state) more i.4);
}

pub loop-head-preserved : goal.loop-head-preserved
loop-head-preserved g c =
    let items = c.as_slice-head-items.result.now in
    let index = c.loop-head.head-index in
    let head = (get_or items index no_counts).0 in
    let usages = (get_or items index no_counts).1 in
    let rest = drop (index + 1) items in
    let more = next_entry items index no_counts c.loop-head-test.true in
    let i = c.loop-head.invariant in
    let all = subst IsRising (sym c.as_slice-head-items.ensures.usages) c.as_slice-head-items.ensures.rising in
    let rising = subst IsRising more (rising_from items index all) in
    let once = absent_later head usages rest rising in
    subst (λ s. (s ≡ record c.args.state.now { heads = s.heads; usages = s.usages })
    × (option_map (λ own. less_usages own (at_depth rest c.args.parent)) s.usages
    ≡ option_map (λ own. less_usages own (at_depth items c.args.parent)) c.args.state.now.usages)
    × ((depth : StackDepth) → left_at c.args.parent depth (at_depth s.heads depth) (at_depth rest depth)
    ≡ left_at c.args.parent depth (at_depth c.args.state.now.heads depth) (at_depth items depth))
    × (is_in_cycle s ≡ is_in_cycle c.args.state.now)
    × CanIgnore c.args.parent rest s
    ) (sym c.ignore_head.ensures) (
      others_kept c.args.parent head usages rest once c.loop-head.state c.args.state.now i.0,
      usages_ignored c.args.parent head usages rest once c.loop-head.state
          ∙ ap (λ l. option_map (λ own. less_usages own (at_depth l c.args.parent)) c.loop-head.state.usages) (sym more)
          ∙ i.1,
      λ depth. head_ignored c.args.parent head usages rest once c.loop-head.state depth
          ∙ ap (λ l. left_at c.args.parent depth (at_depth c.loop-head.state.heads depth) (at_depth l depth)) (sym more)
          ∙ i.2 depth,
      cycle_stays c.args.parent head usages rest once c.loop-head.state ∙ i.3,
      rest_counts c.args.parent head usages rest once c.loop-head.state
          (subst (λ l. CanIgnore c.args.parent l c.loop-head.state) more i.4),
    )
