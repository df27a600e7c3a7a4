use Rattle.std.proofs.Common.{◌≡◌, ◌||◌, ◌+◌, drop, get_or, sym, ap, ◌∙◌, subst, arith}
use Rattle.std.proofs.Math.ListN.{drop_of_length-le}
use Rattle.open_goals.specs.Below.{StackDepth, at_depth, IsRising}
use Rattle.cycle_heads.proofs.HeadLists.{absent_later, next_entry, no_head, rising_from}
use Rattle.goal_changes.specs.Words.{some_heads, usages_over, is_in_cycle}
use Rattle.open_goals.proofs.TakenHeads.{counted_over, head_over, head_taken, candidate_taken, usages_taken}
use Rattle.open_goals.proofs.TakenHeads.{cycle_taken, others_kept, all_taken}
use Rattle.open_goals.proofs.update.note_each_head.Goals as goal

pub loop-head-preserved : goal.loop-head-preserved
loop-head-preserved g c =
    let items = c.as_slice-head-items.result.now in
    let index = c.loop-head.head-index in
    let head = (get_or items index no_head).0 in
    let used = (get_or items index no_head).1 in
    let rest = drop (index + 1) items in
    let more = next_entry items index no_head c.loop-head-test.true in
    let i = c.loop-head.invariant in
    let all = subst IsRising (sym c.as_slice-head-items.ensures.heads) c.as_slice-head-items.ensures.rising in
    let rising = subst IsRising more (rising_from items index all) in
    let once = absent_later head used rest rising in
    subst (λ s. (s ≡ record c.args.state.now {
      heads = s.heads;
      usages = s.usages;
      candidate_usages = s.candidate_usages;
    })
    × (usages_over s.usages (at_depth rest c.args.parent)
    ≡ usages_over c.args.state.now.usages (at_depth items c.args.parent))
    × ((depth : StackDepth) → head_over c.args.parent c.args.step depth (at_depth s.heads depth) (at_depth rest depth)
    ≡ head_over c.args.parent c.args.step depth (at_depth c.args.state.now.heads depth) (at_depth items depth))
    × ((depth : StackDepth) → counted_over depth s.candidate_usages (at_depth rest depth)
    ≡ counted_over depth c.args.state.now.candidate_usages (at_depth items depth))
    × ((is_in_cycle s || some_heads rest) ≡ (is_in_cycle c.args.state.now || some_heads items))
    ) (sym c.in_ok-note_head_near.ensures) (
      others_kept c.args.parent c.args.step head used rest once c.loop-head.state c.args.state.now i.0,
      usages_taken c.args.parent c.args.step head used rest once c.loop-head.state
          ∙ ap (λ l. usages_over c.loop-head.state.usages (at_depth l c.args.parent)) (sym more) ∙ i.1,
      λ depth. head_taken c.args.parent c.args.step head used rest once c.loop-head.state depth
          ∙ ap (λ l. head_over c.args.parent c.args.step depth
          (at_depth c.loop-head.state.heads depth) (at_depth l depth)) (sym more)
          ∙ i.2 depth,
      λ depth. candidate_taken c.args.parent c.args.step head used rest once c.loop-head.state depth
          ∙ ap (λ l. counted_over depth c.loop-head.state.candidate_usages (at_depth l depth)) (sym more)
          ∙ i.3 depth,
      cycle_taken c.args.parent c.args.step head used rest once c.loop-head.state
          ∙ ap (λ l. is_in_cycle c.loop-head.state || some_heads l) (sym more) ∙ i.4,
    )

pub returns : goal.returns
returns g c =
    let i = c.loop-head.invariant in
    let items = c.as_slice-head-items.result.now in
    let none = drop_of_length-le items {i = c.loop-head.head-index} (omega (arith, c.loop-head-test.false)) in
    all_taken c.args.parent c.args.step c.args.heads.now items (drop c.loop-head.head-index items) c.args.state.now
    c.loop-head.state c.as_slice-head-items.ensures.heads none i.0 i.1 i.2 i.3 i.4
