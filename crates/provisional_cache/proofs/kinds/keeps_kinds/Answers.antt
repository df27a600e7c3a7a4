use Rattle.std.proofs.Common.{◌≡◌, ◌+◌, ◌∙◌, drop, get_or, sym, ap, arith}
use Rattle.std.proofs.Math.ListN.{drop_of_length-le}
use Rattle.cycle_heads.proofs.HeadLists.{next_entry, no_head}
use Rattle.provisional_cache.proofs.CycleKinds.{keep_from, keeps_from_head, first_fails, first_passes}
use Rattle.provisional_cache.proofs.kinds.keeps_kinds.Goals as goal

pub returns-then-not-keeps_kinds_from : goal.returns-then-not-keeps_kinds_from
returns-then-not-keeps_kinds_from g c =
    let stack = c.args.stack.now in
    let done = c.args.done.now in
    let items = c.as_slice-depth-items.result.now in
    let index = c.loop-depth.depth-index in
    let here = get_or items index no_head in
    let rest = drop (index + 1) items in
    let decided : c.keeps_kinds_from.result
    ≡ keeps_from_head stack done c.args.to_entry c.args.to_done (here.0, here.1) =
    rw (c.path_kind-from_head.ensures, c.step_kind_from_parent.ensures) at c.keeps_kinds_from.ensures in
    first_fails stack done c.args.to_entry c.args.to_done (here.0, here.1) (drop index items) rest
    (next_entry items index no_head c.loop-depth-test.true) c.keeps_kinds_from.result
    decided c.if-not-keeps_kinds_from.true
    ∙ c.loop-depth.invariant
    ∙ ap (keep_from stack done c.args.to_entry c.args.to_done) c.as_slice-depth-items.ensures.heads

pub loop-depth-preserved : goal.loop-depth-preserved
loop-depth-preserved g c =
    let stack = c.args.stack.now in
    let done = c.args.done.now in
    let items = c.as_slice-depth-items.result.now in
    let index = c.loop-depth.depth-index in
    let here = get_or items index no_head in
    let rest = drop (index + 1) items in
    let decided : c.keeps_kinds_from.result
    ≡ keeps_from_head stack done c.args.to_entry c.args.to_done (here.0, here.1) =
    rw (c.path_kind-from_head.ensures, c.step_kind_from_parent.ensures) at c.keeps_kinds_from.ensures in
    first_passes stack done c.args.to_entry c.args.to_done (here.0, here.1) (drop index items) rest
    (next_entry items index no_head c.loop-depth-test.true) c.keeps_kinds_from.result
    decided c.if-not-keeps_kinds_from.false
    ∙ c.loop-depth.invariant

pub returns : goal.returns
returns g c =
    let none = drop_of_length-le c.as_slice-depth-items.result.now {i = c.loop-depth.depth-index}
    (omega (arith, c.loop-depth-test.false)) in
    let kept = keep_from c.args.stack.now c.args.done.now c.args.to_entry c.args.to_done in
    ap kept (sym none) ∙ c.loop-depth.invariant ∙ ap kept c.as_slice-depth-items.ensures.heads
