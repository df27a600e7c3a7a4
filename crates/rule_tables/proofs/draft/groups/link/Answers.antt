use Rattle.std.proofs.Common.{◌≡◌, arith, length, refl, rules, subst}
use Rattle.rule_tables.specs.Groups.{AreLinked}
use Rattle.rule_tables.proofs.Groups.{linked_more}
use Rattle.rule_tables.proofs.draft.groups.link.Goals as goal

pub loop-behind-preserved : goal.loop-behind-preserved
loop-behind-preserved c =
    linked_more c.args.rules.now c.loop-behind.behind (length c.args.firsts.now.items) c.loop-behind.firsts.items
    c.loop-behind.nexts.items _ _ _ c.place-place.result c.index.result.now
    c.loop-behind.invariant c.loop-behind-test.true c.place-place.ensures (search rules)
    c.index.ensures c.in_ok-push.ensures.items refl

pub returns : goal.returns
returns c =
    let end : c.loop-behind.behind ≡ length c.args.rules.now =
    omega (arith, c.loop-behind-test.false, c.loop-behind.auto.behind-end) in
    subst (λ n. AreLinked c.args.rules.now n (length c.args.firsts.now.items) c.loop-behind.firsts.items
    c.loop-behind.nexts.items) end c.loop-behind.invariant
