use Rattle.std.proofs.Common.{◌-◌, arith, inl, inr, subst, sym}
use Rattle.std.proofs.lemmas.Option.{slice_get_cases}
use Rattle.askers.proofs.Following.{IsFollowing, chain_followed, none_followed, one_followed}
use Rattle.askers.proofs.found.Found.follow.Goals as goal

pub loop-at-init : goal.loop-at-init
loop-at-init g c = subst (IsFollowing g.I.PartialEq.eq c.args.told.now c.args.goal c.args.self.now c.args.self.now)
    (sym c.last_of-at.ensures)
    (none_followed g.I.PartialEq.eq c.args.told.now c.args.goal c.requires.indexed c.args.self.now c.requires.listed)

pub follow_link-requires-clause-listed : goal.follow_link-requires-clause-listed
follow_link-requires-clause-listed g c = c.loop-at.invariant.listed

pub follow_link-requires-clause-within : goal.follow_link-requires-clause-within
follow_link-requires-clause-within g c = omega (arith, c.loop-at-test.true, c.loop-at.invariant.within)

pub loop-at-preserved : goal.loop-at-preserved
loop-at-preserved g c =
    let links = c.args.told.now.links.items in
    elim (slice_get_cases links (c.loop-at.at - 1)).1 [
      | inl it ↦ one_followed g.I.PartialEq.eq c.args.told.now c.args.goal c.requires.indexed c.args.self.now
          c.loop-at.self c.follow_link.new.self c.loop-at.at (c.loop-at.at - 1) c.in_ok-at.at it.0 c.loop-at.invariant
          (omega (arith, c.loop-at-test.true)) it.2 (c.in_ok-at.ensures.earlier it.0 it.2)
          c.in_ok-at.ensures.found
      | inr past ↦ absurd (omega (arith, past.0, c.loop-at-test.true, c.loop-at.invariant.within))
    ]

pub loop-at-smaller : goal.loop-at-smaller
loop-at-smaller g c =
    let links = c.args.told.now.links.items in
    elim (slice_get_cases links (c.loop-at.at - 1)).1 [
      | inl it ↦ omega (
        arith,
        c.loop-at-test.true,
        c.in_ok-at.ensures.earlier it.0 it.2,
        c.requires.indexed.index.back (c.loop-at.at - 1) it.0 it.2,
      )
      | inr past ↦ absurd (omega (arith, past.0, c.loop-at-test.true, c.loop-at.invariant.within))
    ]

pub returns : goal.returns
returns g c = chain_followed g.I.PartialEq.eq c.args.told.now c.args.goal c.requires.indexed c.args.self.now
    c.loop-at.self c.loop-at.at (omega (arith, c.loop-at-test.false)) c.loop-at.invariant
