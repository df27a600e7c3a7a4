use Rattle.std.proofs.Common.{◌≡◌, ◌+◌, drop, get_or, ap, sym, ◌∙◌, arith}
use Rattle.std.proofs.Math.ListN.{drop_of_length-le}
use Rattle.provisional_cache.specs.Below.{with_head, extended_by_each}
use Rattle.provisional_cache.specs.Words.{with_used}
use Rattle.cycle_heads.proofs.HeadLists.{next_entry, no_head}
use Rattle.provisional_cache.proofs.RebasedHeads.{used_within, lower_heads, some_heads}
use Rattle.provisional_cache.proofs.rebasing.replace_used.Goals as goal

pub remove_highest_cycle_head-requires : goal.remove_highest_cycle_head-requires
remove_highest_cycle_head-requires c = some_heads c.args.heads.now c.requires.some

pub loop-depth-preserved : goal.loop-depth-preserved
loop-depth-preserved c =
    let items = c.as_slice-depth-items.result.now in
    let index = c.loop-depth.depth-index in
    let head = get_or items index no_head in
    let inserted : c.insert_near.new.self
    ≡ with_head c.loop-depth.heads head.0 (extended_by_each c.args.to_done head.1.paths_to_head) head.1.usages =
    rw (← c.extend_with_paths-paths.ensures) c.in_ok-guess.ensures.ok in
    ap (with_used (drop (index + 1) items) c.args.to_done) inserted
    ∙ ap (λ rest. with_used rest c.args.to_done c.loop-depth.heads)
    (sym (next_entry items index no_head c.loop-depth-test.true))
    ∙ c.loop-depth.invariant

-- where all heads of the goal that is done were gone through, all are recorded
recorded : (c : goal.After-loop-depth)
    → c.loop-depth.heads ≡ with_used c.args.done.now c.args.to_done c.remove_highest_cycle_head.new.self
recorded c =
    let none = drop_of_length-le c.as_slice-depth-items.result.now {i = c.loop-depth.depth-index}
    (omega (arith, c.loop-depth-test.false)) in
    ap (λ rest. with_used rest c.args.to_done c.loop-depth.heads) (sym none)
    ∙ c.loop-depth.invariant
    ∙ ap (λ rest. with_used rest c.args.to_done c.remove_highest_cycle_head.new.self)
    c.as_slice-depth-items.ensures.heads

pub returns-clause-recorded : goal.returns-clause-recorded
returns-clause-recorded c =
    recorded c ∙ ap (with_used c.args.done.now c.args.to_done)
    (lower_heads c.args.heads.now _ c.remove_highest_cycle_head.result c.remove_highest_cycle_head.ensures.last)

pub returns-clause-within : goal.returns-clause-within
returns-clause-within c = λ size within on_stack.
    used_within size c.args.to_done c.args.heads.now _ c.loop-depth.heads
    c.args.done.now c.remove_highest_cycle_head.result
    c.remove_highest_cycle_head.ensures.last c.remove_highest_cycle_head.ensures.below (recorded c) within on_stack
