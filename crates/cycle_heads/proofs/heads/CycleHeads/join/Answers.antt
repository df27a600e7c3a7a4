use Rattle.std.proofs.Common.{subst, sym, ap, ◌≡◌, ◌<◌, ◌∙◌, get_or, length, set, List, arith, Ok, Some}
use Rattle.std.specs.BTreeMap.{insert_entry}
use Rattle.cycle_heads.specs.Words.{CycleHead, IsRising, StackDepth, at_depth, depth_cmp, joined_head}
use Rattle.cycle_heads.specs.Words.{no_usages, place_of}
use Rattle.cycle_heads.proofs.Places.{found_value, found_within, rising_kept, set_in_place}
use Rattle.cycle_heads.proofs.heads.CycleHeads.join.Goals as goal

found : (c : goal.After-as_slice) → place_of c.self.inside.heads c.args.depth ≡ Ok c.args.index
found c = ap (λ heads. place_of heads c.args.depth) c.self.view_is ∙ c.requires

within : (c : goal.After-as_slice) → c.args.index < length c.as_slice.result.now
within c = subst (λ heads. c.args.index < length heads) (sym c.as_slice.ensures)
    (found_within c.args.depth c.self.inside.heads c.args.index (found c))

pub bounds-as_slice-index : goal.bounds-as_slice-index
bounds-as_slice-index c = within c

pub offset_bounds-as_slice-index : goal.offset_bounds-as_slice-index
offset_bounds-as_slice-index c = omega (arith, within c, c.as_slice.type_inv.1)

pub set-requires : goal.set-requires
set-requires c = found_within c.args.depth c.self.inside.heads c.args.index
    (ap (λ heads. place_of heads c.args.depth) c.self.view_is ∙ c.requires)

-- the head that is written is the one of the depth, joined
module _ (c : goal.After-set) where
  abbrev known : CycleHead
  known = (get_or c.as_slice.result.now c.args.index
      (record { 0 = 0 }, record { paths_to_head = record { 0 = 0 }; usages = no_usages })).1

  abbrev joined : CycleHead
  joined = joined_head (Some known) c.args.paths c.args.usages

  joined_is : record { paths_to_head = c.insert.new.self; usages = c.add_usages_from_nested.new.self } ≡ joined
  joined_is =
      λ i. record { paths_to_head = record { 0 = c.insert.ensures tt i }; usages = c.add_usages_from_nested.ensures i }

  is_found : place_of c.self.inside.heads c.args.depth ≡ Ok c.args.index
  is_found = ap (λ heads. place_of heads c.args.depth) c.self.view_is ∙ c.requires

  is_joined : c.set.new.self ≡ insert_entry depth_cmp c.self.inside.heads c.args.depth joined
  is_joined = c.set.ensures ∙ (λ i. set c.self.inside.heads c.args.index (c.args.depth, joined_is i))
      ∙ set_in_place c.args.depth joined c.self.inside.heads c.args.index is_found

pub invariant_of-self : goal.invariant_of-self
invariant_of-self c =
    subst IsRising (sym (is_joined c)) (rising_kept c.args.depth (joined c) c.self.inside.heads c.self.invariant)

pub returns : goal.returns
returns c = is_joined c
    ∙ (λ i. insert_entry depth_cmp (c.self.view_is i) c.args.depth (joined_head (at_is i) c.args.paths c.args.usages))
  where
    at_is : Some (known c) ≡ at_depth c.args.self.now c.args.depth
    at_is = ap (λ (heads : List (StackDepth × CycleHead)). Some (get_or heads c.args.index (
      record { 0 = 0 },
      record { paths_to_head = record { 0 = 0 }; usages = no_usages },
    )).1) c.as_slice.ensures
        ∙ sym (found_value c.args.depth c.self.inside.heads c.args.index _ c.self.invariant (is_found c))
        ∙ ap (λ heads. at_depth heads c.args.depth) c.self.view_is
