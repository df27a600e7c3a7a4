use Rattle.std.proofs.Common.{arith, inl, inr}
use Rattle.std.proofs.lemmas.Option.{slice_get_cases}
use Rattle.askers.proofs.Again.{all_told_again, one_told_again}
use Rattle.askers.proofs.told.Told.shortened.Goals as goal

pub new-told-requires : goal.new-told-requires
new-told-requires g c = record { exact = c.requires.indexed.exact }

pub loop-place-init : goal.loop-place-init
loop-place-init g c = record { indexed = c.new-told.ensures.indexed; same_told = c.new-told.ensures.told }

pub tell_again-requires-clause-indexed : goal.tell_again-requires-clause-indexed
tell_again-requires-clause-indexed g c = c.loop-place.invariant.indexed

pub loop-place-preserved : goal.loop-place-preserved
loop-place-preserved g c =
    let links = c.args.self.now.links.items in
    elim (slice_get_cases links c.loop-place.place).1 [
      | inl it ↦ one_told_again g.I.PartialEq.eq c.args.self.now c.loop-place.told c.tell_again.new.other
          c.loop-place.place it.0 c.loop-place.invariant it.2 c.tell_again.ensures.indexed
          (c.in_ok-tell_again.ensures.told it.0 it.2)
      | inr past ↦ absurd (omega (arith, past.0, c.loop-place-test.true, c.len-place-end.ensures))
    ]

pub returns-clause-told : goal.returns-clause-told
returns-clause-told g c = all_told_again g.I.PartialEq.eq c.args.self.now c.loop-place.told c.loop-place.place
    (omega (arith, c.loop-place-test.false, c.len-place-end.ensures)) c.loop-place.invariant

pub returns-clause-indexed : goal.returns-clause-indexed
returns-clause-indexed g c = c.loop-place.invariant.indexed
