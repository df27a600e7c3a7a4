use Rattle.std.proofs.Common.{◌-◌, arith, refl}
use Rattle.std.proofs.lemmas.Option.{get_or_from_slice_get}
use Rattle.rule_tables.proofs.Groups.{chain_open, left_more, left_none}
use Rattle.rule_tables.proofs.draft.groups.push_chain.Goals as goal

pub loop-number-init : goal.loop-number-init
loop-number-init c =
    (omega (arith, c.ranges.first.fits), λ chain h. record { left = chain; is_chain = h; whole = refl })

pub overflow_sub-rules : goal.overflow_sub-rules
overflow_sub-rules c =
    let w = c.loop-number.invariant.1 c.requires.chain.0 c.requires.chain.1 in
    (chain_open c.args.rules.now c.args.nexts.now c.loop-number.number w.left w.is_chain c.loop-number-test.true).within

pub bounds-rules-rules : goal.bounds-rules-rules
bounds-rules-rules c =
    let w = c.loop-number.invariant.1 c.requires.chain.0 c.requires.chain.1 in
    let o = (chain_open c.args.rules.now c.args.nexts.now c.loop-number.number w.left
    w.is_chain c.loop-number-test.true).within in
    omega (arith, o, c.loop-number-test.true)

pub offset_bounds-nexts-number : goal.offset_bounds-nexts-number
offset_bounds-nexts-number c = let l = c.loop-number.invariant.0 in omega arith

pub bounds-nexts-number : goal.bounds-nexts-number
bounds-nexts-number c =
    let w = c.loop-number.invariant.1 c.requires.chain.0 c.requires.chain.1 in
    let o = (chain_open c.args.rules.now c.args.nexts.now c.loop-number.number w.left
    w.is_chain c.loop-number-test.true).linked in
    omega (arith, o, c.loop-number-test.true)

pub loop-number-smaller : goal.loop-number-smaller
loop-number-smaller c =
    let w = c.loop-number.invariant.1 c.requires.chain.0 c.requires.chain.1 in
    let o =
    chain_open c.args.rules.now c.args.nexts.now c.loop-number.number w.left w.is_chain c.loop-number-test.true in
    let smaller = o.smaller in
    let is = get_or_from_slice_get c.args.nexts.now _ o.next 0 o.is_next in
    omega (arith, is, smaller)

pub loop-number-preserved : goal.loop-number-preserved
loop-number-preserved c = (
  omega (arith, c.type_inv.nexts (c.loop-number.number - 1)),
  λ chain h. left_more c.args.rules.now c.args.nexts.now c.loop-number.number _ _ c.loop-number.rows.items _ _
      c.loop-number-test.true (c.loop-number.invariant.1 chain h) refl c.in_ok-push.ensures.items,
)

pub returns : goal.returns
returns c = λ chain h. left_none c.args.rules.now c.args.nexts.now c.loop-number.number _ _
    (c.loop-number.invariant.1 chain h) c.loop-number-test.false
