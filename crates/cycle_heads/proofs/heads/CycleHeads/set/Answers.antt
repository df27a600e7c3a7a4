use Rattle.std.proofs.Common.{refl, subst, sym, ap, ◌∙◌, IsOk}
use Rattle.cycle_heads.specs.Words.{IsRising, place_of, replace_head}
use Rattle.cycle_heads.proofs.Places.{found_within, place_is_set, rising_kept, set_in_place}
use Rattle.cycle_heads.proofs.heads.CycleHeads.set.Goals as goal

pub set-requires : goal.set-requires
set-requires c =
    let found = ap (λ heads. place_of heads c.args.depth) c.self.view_is ∙ c.requires in
    found_within c.args.depth c.self.inside.heads c.args.index found

pub invariant_of-self : goal.invariant_of-self
invariant_of-self c =
    let found = ap (λ heads. place_of heads c.args.depth) c.self.view_is ∙ c.requires in
    subst IsRising (sym (c.set.ensures ∙ set_in_place c.args.depth c.args.head c.self.inside.heads c.args.index found))
    (rising_kept c.args.depth c.args.head c.self.inside.heads c.self.invariant)

pub returns : goal.returns
returns c =
    let found = ap (λ heads. place_of heads c.args.depth) c.self.view_is ∙ c.requires in
    c.set.ensures
    ∙ set_in_place c.args.depth c.args.head c.self.inside.heads c.args.index found
    ∙ place_is_set c.args.depth c.args.head c.self.inside.heads (subst IsOk (sym found) refl)
    ∙ ap (λ heads. replace_head heads c.args.depth c.args.head) c.self.view_is
