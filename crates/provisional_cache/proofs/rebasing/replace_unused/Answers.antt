use Rattle.std.proofs.Common.{rules, ◌≡◌, ◌+◌, drop, get_or, ap, sym, ◌∙◌, arith}
use Rattle.std.proofs.Math.ListN.{drop_of_length-le}
use Rattle.provisional_cache.specs.Below.{with_head, path_of_no_step, no_usages}
use Rattle.provisional_cache.specs.Words.{with_unused}
use Rattle.cycle_heads.proofs.Counts.{none_by_counts}
use Rattle.cycle_heads.proofs.HeadLists.{next_entry, no_head}
use Rattle.provisional_cache.proofs.RebasedHeads.{unused_within, lower_heads, some_heads}
use Rattle.provisional_cache.proofs.rebasing.replace_unused.Goals as goal

pub remove_highest_cycle_head-requires : goal.remove_highest_cycle_head-requires
remove_highest_cycle_head-requires c = some_heads c.args.heads.now c.requires.some

pub loop-depth-preserved : goal.loop-depth-preserved
loop-depth-preserved c =
    let items = c.as_slice-depth-items.result.now in
    let index = c.loop-depth.depth-index in
    let none : c.default.result ≡ no_usages =
    none_by_counts c.default.result (search rules) (search rules) (search rules) (search rules) in
    let inserted =
    c.in_ok-guess.ensures.ok ∙ ap (with_head c.loop-depth.heads (get_or items index no_head).0 path_of_no_step) none in
    ap (with_unused (drop (index + 1) items)) inserted
    ∙ ap (λ rest. with_unused rest c.loop-depth.heads) (sym (next_entry items index no_head c.loop-depth-test.true))
    ∙ c.loop-depth.invariant

-- where all heads of the goal that is done were gone through, all are recorded
recorded : (c : goal.After-loop-depth)
    → c.loop-depth.heads ≡ with_unused c.args.done.now c.remove_highest_cycle_head.new.self
recorded c =
    let none = drop_of_length-le c.as_slice-depth-items.result.now {i = c.loop-depth.depth-index}
    (omega (arith, c.loop-depth-test.false)) in
    ap (λ rest. with_unused rest c.loop-depth.heads) (sym none)
    ∙ c.loop-depth.invariant
    ∙ ap (λ rest. with_unused rest c.remove_highest_cycle_head.new.self) c.as_slice-depth-items.ensures.heads

pub returns-clause-recorded : goal.returns-clause-recorded
returns-clause-recorded c =
    recorded c ∙ ap (with_unused c.args.done.now)
    (lower_heads c.args.heads.now _ c.remove_highest_cycle_head.result c.remove_highest_cycle_head.ensures.last)

pub returns-clause-within : goal.returns-clause-within
returns-clause-within c = λ size within on_stack.
    unused_within size c.args.heads.now _ c.loop-depth.heads c.args.done.now c.remove_highest_cycle_head.result
    c.remove_highest_cycle_head.ensures.last c.remove_highest_cycle_head.ensures.below (recorded c) within on_stack
