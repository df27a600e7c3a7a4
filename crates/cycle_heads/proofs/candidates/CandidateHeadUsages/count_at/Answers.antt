use Rattle.std.proofs.Common.{subst, sym, ap, ◌≡◌, ◌<◌, ◌∙◌, get_or, length, set, List, arith, Ok, Some}
use Rattle.std.specs.BTreeMap.{insert_entry}
use Rattle.std.specs.Option.{unwrap_or}
use Rattle.cycle_heads.specs.Words.{HeadUsages, IsRising, StackDepth, at_depth, depth_cmp, no_usages}
use Rattle.cycle_heads.specs.Words.{place_of, with_nested}
use Rattle.cycle_heads.proofs.Places.{found_value, found_within, rising_kept, set_in_place}
use Rattle.cycle_heads.proofs.candidates.CandidateHeadUsages.count_at.Goals as goal

within : (c : goal.After-as_slice) → c.args.index < length c.as_slice.result.now
within c = subst (λ usages. c.args.index < length usages) (sym c.as_slice.ensures) (found_within c.args.head
    c.self.inside.usages c.args.index (ap (λ usages. place_of usages c.args.head) c.self.view_is ∙ c.requires))

pub bounds-as_slice-index : goal.bounds-as_slice-index
bounds-as_slice-index c = within c

pub offset_bounds-as_slice-index : goal.offset_bounds-as_slice-index
offset_bounds-as_slice-index c = omega (arith, within c, c.as_slice.type_inv.1)

pub set-requires : goal.set-requires
set-requires c = found_within c.args.head c.self.inside.usages c.args.index
    (ap (λ usages. place_of usages c.args.head) c.self.view_is ∙ c.requires)

-- the usages that are written are those of the head, with more
module _ (c : goal.After-set) where
  abbrev known : HeadUsages
  known = (get_or c.as_slice.result.now c.args.index (record { 0 = 0 }, no_usages)).1

  abbrev noted : HeadUsages
  noted = with_nested known c.args.usages

  is_found : place_of c.self.inside.usages c.args.head ≡ Ok c.args.index
  is_found = ap (λ usages. place_of usages c.args.head) c.self.view_is ∙ c.requires

  is_noted : c.set.new.self ≡ insert_entry depth_cmp c.self.inside.usages c.args.head noted
  is_noted =
      c.set.ensures ∙ (λ i. set c.self.inside.usages c.args.index (c.args.head, c.add_usages_from_nested.ensures i))
      ∙ set_in_place c.args.head noted c.self.inside.usages c.args.index is_found

pub invariant_of-self : goal.invariant_of-self
invariant_of-self c =
    subst IsRising (sym (is_noted c)) (rising_kept c.args.head (noted c) c.self.inside.usages c.self.invariant)

pub returns : goal.returns
returns c = is_noted c
    ∙ (λ i. insert_entry depth_cmp (c.self.view_is i) c.args.head
    (with_nested (unwrap_or (at_is i) no_usages) c.args.usages))
  where
    at_is : Some (known c) ≡ at_depth c.args.self.now c.args.head
    at_is = ap (λ (usages : List (StackDepth × HeadUsages)).
        Some (get_or usages c.args.index (record { 0 = 0 }, no_usages)).1) c.as_slice.ensures
        ∙ sym (found_value c.args.head c.self.inside.usages c.args.index _ c.self.invariant (is_found c))
        ∙ ap (λ usages. at_depth usages c.args.head) c.self.view_is
