use Rattle.std.proofs.Common.{subst, sym, ap, ◌∙◌}
use Rattle.std.specs.BTreeMap.{insert_entry}
use Rattle.cycle_heads.specs.Words.{CycleHead, IsRising, at_depth, depth_cmp, joined_head, place_of}
use Rattle.cycle_heads.proofs.Places.{gap_value, gap_within, inserted_in_gap, rising_kept}
use Rattle.cycle_heads.proofs.heads.CycleHeads.put_new.Goals as goal

pub insert-requires : goal.insert-requires
insert-requires c =
    let gap = ap (λ heads. place_of heads c.args.depth) c.self.view_is ∙ c.requires in
    gap_within c.args.depth c.self.inside.heads c.args.index gap

pub invariant_of-self-2 : goal.invariant_of-self-2
invariant_of-self-2 c =
    let new : CycleHead = record { paths_to_head = c.args.paths; usages = c.args.usages } in
    let gap = ap (λ heads. place_of heads c.args.depth) c.self.view_is ∙ c.requires in
    subst IsRising
    (sym (c.in_ok-insert.ensures.ok ∙ inserted_in_gap c.args.depth new c.self.inside.heads c.args.index gap))
    (rising_kept c.args.depth new c.self.inside.heads c.self.invariant)

pub returns-clause-ok : goal.returns-clause-ok
returns-clause-ok c =
    let new : CycleHead = record { paths_to_head = c.args.paths; usages = c.args.usages } in
    let gap = ap (λ heads. place_of heads c.args.depth) c.self.view_is ∙ c.requires in
    let absent = gap_value c.args.depth c.self.inside.heads c.args.index c.self.invariant gap in
    c.in_ok-insert.ensures.ok
    ∙ inserted_in_gap c.args.depth new c.self.inside.heads c.args.index gap
    ∙ (λ i. insert_entry depth_cmp c.self.inside.heads c.args.depth
    (joined_head (sym absent i) c.args.paths c.args.usages))
    ∙ (λ i. insert_entry depth_cmp (c.self.view_is i) c.args.depth
    (joined_head (at_depth (c.self.view_is i) c.args.depth) c.args.paths c.args.usages))
