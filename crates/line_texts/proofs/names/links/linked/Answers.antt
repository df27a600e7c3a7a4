use Rattle.std.proofs.Common.{◌≡◌, ◌+◌, ◌*◌, arith, length, refl, subst}
use Rattle.std.proofs.lemmas.Option.{slice_get_read}
use Rattle.line_texts.specs.Letters.{head_of}
use Rattle.line_texts.specs.Names.{AreLinked, LeadsTo}
use Rattle.line_texts.proofs.LinkLemmas.{linked_more}
use Rattle.line_texts.proofs.names.links.linked.Goals as goal

pub loop-number-preserved : goal.loop-number-preserved
loop-number-preserved c =
    let names = c.args.names.now in
    let key = c.index-names-number.result in
    let links = c.link.new.links.items in
    linked_more c.args.heads c.loop-number.links.items links names names key c.loop-number.number
    c.loop-number.invariant c.link.ensures.room (λ n name less at. at)
    (slice_get_read names (length names) c.loop-number.number key refl c.loop-number-test.true c.index-names-number.is)
    (subst (λ l. LeadsTo links (c.args.heads + 2 * c.loop-number.number) (head_of l c.args.heads) l)
    c.letters.ensures c.link.ensures.linked) c.link.ensures.kept

pub returns : goal.returns
returns c =
    let end : c.loop-number.number ≡ length c.args.names.now =
    omega (arith, c.loop-number-test.false, c.loop-number.auto.number-end) in
    subst (AreLinked c.args.heads c.loop-number.links.items c.args.names.now) end c.loop-number.invariant
