use Rattle.std.proofs.Common.{arith, refl, ap, set}
use Rattle.strong_components.specs.Words.{Closed}
use Rattle.strong_components.proofs.ClosingPlaces.{closes_none, closes_one, count, place_inside}
use Rattle.strong_components.proofs.search.Search.close_from.Goals as goal

pub places-init : goal.places-init
places-init c = record {
  within = c.requires.within;
  fewer = omega arith;
  closes = closes_none c.args.self.now c.requires.opened;
  same_number = refl;
}

pub index_mut-requires : goal.index_mut-requires
index_mut-requires c =
    let inside = place_inside c.args.self.now c.places.self _ c.in-Some.place c.requires.opened
    c.places.invariant.closes c.places.invariant.fewer c.in-Some.ensures.items in
    omega (arith, c.places.self.states.ok.0)

pub places-preserved : goal.places-preserved
places-preserved c =
    let one = c.in-Some.ensures.len in
    record {
      within = let n = count c.args.self.now c.places.self _ c.in-Some.place c.requires.opened c.places.invariant.closes
          c.places.invariant.fewer c.in-Some.ensures.items in omega arith;
      fewer = let n = count c.args.self.now c.places.self _ c.in-Some.place c.requires.opened c.places.invariant.closes
          c.places.invariant.fewer c.in-Some.ensures.items in omega arith;
      closes = closes_one c.args.self.now c.places.self c.pop.new.self.items c.in-Some.place c.requires.opened
          c.places.invariant.closes c.places.invariant.fewer c.in-Some.ensures.items _
          (ap (λ number. set c.places.self.states.items c.in-Some.place (Closed number)) c.places.invariant.same_number)
          refl refl refl refl;
      same_number = c.places.invariant.same_number;
    }
