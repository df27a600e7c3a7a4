use Rattle.std.proofs.Common.{◌≡◌, ◌∙◌, ◌++◌, ◌∷◌, [], arith, length, rules, ap, sym, subst, Some, slice_index_or}
use Rattle.std.specs.Prelude.{slice_get}
use Rattle.std.proofs.lemmas.Option.{slice_get-get_or}
use Rattle.rule_tables.specs.Groups.{AreGroups, IsChain}
use Rattle.rule_tables.specs.Words.{rules_of}
use Rattle.rule_tables.proofs.Groups.{chain_of, groups_more, groups_none}
use Rattle.rule_tables.proofs.draft.groups.group.Goals as goal

pub loop-first-init : goal.loop-first-init
loop-first-init c = groups_none c.args.rules.now c.push.new.self.items c.args.rows.now.items
    (c.in_ok-push.ensures.items ∙ ap (λ xs. xs ++ 0 ∷ []) c.requires.no_starts) c.requires.no_rows

pub push_chain-requires : goal.push_chain-requires
push_chain-requires c =
    let links = c.args.links.now in
    let index = c.loop-first.first-index in
    let firsts = c.deref-first-items.result.now in
    let first = slice_index_or firsts index 0 in
    let is : slice_get links.firsts.items index ≡ Some first = subst (λ xs. slice_get xs index ≡ Some first)
    c.deref-first-items.ensures.value (slice_get-get_or firsts index 0 c.loop-first-test.true) in
    record {
      chain = (
        rules_of index c.args.rules.now,
        subst (λ nexts. IsChain c.args.rules.now nexts first (rules_of index c.args.rules.now))
            (sym c.as_slice.ensures.value)
            (chain_of c.args.rules.now (length links.firsts.items) links.firsts.items
            links.nexts.items index first c.requires.linked is),
      );
    }

pub loop-first-preserved : goal.loop-first-preserved
loop-first-preserved c =
    let links = c.args.links.now in
    let index = c.loop-first.first-index in
    let firsts = c.deref-first-items.result.now in
    let first = slice_index_or firsts index 0 in
    let is : slice_get links.firsts.items index ≡ Some first = subst (λ xs. slice_get xs index ≡ Some first)
    c.deref-first-items.ensures.value (slice_get-get_or firsts index 0 c.loop-first-test.true) in
    let chain = subst (λ nexts. IsChain c.args.rules.now nexts first (rules_of index c.args.rules.now))
    (sym c.as_slice.ensures.value)
    (chain_of c.args.rules.now (length links.firsts.items) links.firsts.items links.nexts.items
    index first c.requires.linked is) in
    let size : c.len-in-loop-first.result ≡ length c.push_chain.new.rows.items = search rules in
    let tested : c.len.result ≡ length c.push_chain.new.rows.items = search rules in
    groups_more c.args.rules.now index c.loop-first.starts.items _ c.loop-first.rows.items
    c.push_chain.new.rows.items c.loop-first.invariant
    (c.in_ok-push_chain.ensures (rules_of index c.args.rules.now) chain)
    (c.in_ok-push-2.ensures.items ∙ ap (λ n. c.loop-first.starts.items ++ n ∷ []) size)
    (omega (arith, tested, c.if-len.false))

pub returns : goal.returns
returns c =
    let all = ap length c.deref-first-items.ensures.value in
    let end : c.loop-first.first-index ≡ length c.args.links.now.firsts.items =
    omega (arith, c.loop-first-test.false, c.loop-first.auto.first-index-end, all) in
    subst (λ n. AreGroups c.args.rules.now n c.loop-first.starts.items c.loop-first.rows.items)
    end c.loop-first.invariant
