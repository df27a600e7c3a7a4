use Rattle.std.proofs.Common.{◌-◌, ◌<◌, arith, length, refl, subst, sym}
use Rattle.std.proofs.lemmas.Option.{slice_get_read}
use Rattle.rule_arrays.proofs.Finding.{IsFollowing, chain_followed, none_followed, one_followed}
use Rattle.rule_arrays.proofs.changes.found.Found.follow.Goals as goal

pub loop-at-init : goal.loop-at-init
loop-at-init c = subst (IsFollowing c.args.askers.now c.args.goal c.args.self.now c.args.self.now)
    (sym c.last_of-at.ensures)
    (none_followed c.args.askers.now c.args.goal c.args.self.now c.requires.chains c.requires.listed)

pub loop-at-preserved : goal.loop-at-preserved
loop-at-preserved c =
    let links = c.args.askers.now.links.items in
    let inside : c.loop-at.at - 1 < length links = omega (arith, c.loop-at-test.true, c.loop-at.invariant.within) in
    one_followed c.args.askers.now c.args.goal c.args.self.now c.loop-at.self c.note.new.self c.loop-at.at
    (c.loop-at.at - 1) c.index-link.result.now c.requires.chains c.loop-at.invariant
    (omega (arith, c.loop-at-test.true))
    (slice_get_read links (length links) (c.loop-at.at - 1) c.index-link.result.now refl inside c.index-link.ensures)
    c.in_ok-note.ensures

pub returns : goal.returns
returns c = chain_followed c.args.askers.now c.args.goal c.args.self.now c.loop-at.self c.loop-at.at
    (omega (arith, c.loop-at-test.false)) c.loop-at.invariant
