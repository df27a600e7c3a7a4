use Rattle.std.proofs.Common.{◌≡◌, All, length, rules, subst, sym}
use Rattle.rule_tables.specs.DraftRule.{IsKnown}
use Rattle.rule_tables.specs.Groups.{AreLinked}
use Rattle.rule_tables.proofs.Groups.{linked_none}
use Rattle.rule_tables.proofs.draft.groups.linked.Goals as goal

pub link-requires-clause-known : goal.link-requires-clause-known
link-requires-clause-known c =
    let count : length c.in_ok-firsts.firsts.items ≡ c.args.goals = search rules in
    subst (λ n. All (IsKnown n) c.args.rules.now) (sym count) c.requires.known

pub link-requires-clause-unlinked : goal.link-requires-clause-unlinked
link-requires-clause-unlinked c =
    let count : length c.in_ok-firsts.firsts.items ≡ c.args.goals = search rules in
    subst (λ n. AreLinked c.args.rules.now 0 n c.in_ok-firsts.firsts.items c.in_ok-nexts.nexts.items) (sym count)
    (linked_none c.args.rules.now c.args.goals c.in_ok-firsts.firsts.items c.in_ok-nexts.nexts.items
    (c.in_ok-firsts.ensures.items_if_clones_equal (λ y e. e)) count c.in_ok-nexts.ensures.items)

pub returns : goal.returns
returns c =
    let count : length c.in_ok-firsts.firsts.items ≡ c.args.goals = search rules in
    subst (λ n. AreLinked c.args.rules.now (length c.args.rules.now) n c.link.new.firsts.items c.link.new.nexts.items)
    count c.in_ok-link.ensures
