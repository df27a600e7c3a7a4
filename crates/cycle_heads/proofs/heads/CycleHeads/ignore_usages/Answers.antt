use Rattle.std.proofs.Common.{refl, subst, sym, ap, ◌∙◌, IsOk, IsSome}
use Rattle.cycle_heads.specs.Words.{at_depth, place_of}
use Rattle.cycle_heads.proofs.Places.{place_is_ok}
use Rattle.cycle_heads.proofs.heads.CycleHeads.ignore_usages.Goals as goal

pub unwrap-requires : goal.unwrap-requires
unwrap-requires c =
    let place = c.place_of-place.ensures ∙ ap (λ heads. place_of heads c.args.head) c.as_slice.ensures.heads in
    let known = ap (λ heads. at_depth heads c.args.head) (sym c.as_slice-2.ensures.heads)
    ∙ sym c.at_place.ensures ∙ c.unwrap-known.ensures in
    subst IsOk (sym place)
    (place_is_ok c.args.head c.args.self.now c.as_slice.ensures.rising (subst IsSome (sym known) refl))
