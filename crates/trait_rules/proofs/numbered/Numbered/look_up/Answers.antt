use Rattle.std.proofs.Common.{arith}
use Rattle.trait_rules.proofs.Numbers.{at_end, grows_push, keeps_push, numbered_push}
use Rattle.trait_rules.proofs.numbered.Numbered.look_up.Goals as goal

pub invariant_of-self-2 : goal.invariant_of-self-2
invariant_of-self-2 g c =
    numbered_push g.K.PartialEq.eq g.met.K.Key.same_key g.met.K.Eq.laws.refl _ _ c.self.inside.keys.items _ c.args.key _
    c.self.invariant
    (λ n at. let there = (c.in_default.ensures n).1 (rw (← c.self.view_is) at) in cc)
    (omega (arith, c.len-number.ensures)) (rw (← c.in_ok-reserve.ensures.items) c.push_reserved.ensures.items)
    (λ q. c.in_ok-insert.ensures.updates.0 q)

pub returns-clause-number : goal.returns-clause-number
returns-clause-number g c =
    let last =
    at_end c.self.inside.keys.items c.args.key c.len-number.result (omega (arith, c.len-number.ensures)) in
    rw (c.push_reserved.ensures.items, c.in_ok-reserve.ensures.items) last

pub returns-clause-keeps : goal.returns-clause-keeps
returns-clause-keeps g c =
    keeps_push c.args.self.now c.push_reserved.new.self.items c.args.key
    (rw (← c.self.view_is, ← c.in_ok-reserve.ensures.items) c.push_reserved.ensures.items)

pub returns-clause-grows : goal.returns-clause-grows
returns-clause-grows g c =
    grows_push c.args.self.now c.push_reserved.new.self.items c.args.key
    (rw (← c.self.view_is, ← c.in_ok-reserve.ensures.items) c.push_reserved.ensures.items)
