use Rattle.std.proofs.Common.{subst, sym, ap, ◌∙◌, IsSome}
use Rattle.std.proofs.lemmas.Bool.{false≢true}
use Rattle.std.specs.BTreeMap.{insert_entry}
use Rattle.cycle_heads.specs.Words.{IsRising, at_depth, depth_cmp, place_of}
use Rattle.cycle_heads.proofs.Places.{found_within, gap_value, gap_within, inserted_in_gap, rising_kept, set_in_place}
use Rattle.cycle_heads.proofs.candidates.CandidateHeadUsages.put.Goals as goal

-- a known head
pub set-requires : goal.set-requires
set-requires c =
    let found = ap (λ usages. place_of usages c.args.head) c.self.view_is ∙ sym c.requires ∙ c.in-Ok.is in
    found_within c.args.head c.self.inside.usages c.in-Ok.index found

pub invariant_of-self : goal.invariant_of-self
invariant_of-self c =
    let found = ap (λ usages. place_of usages c.args.head) c.self.view_is ∙ sym c.requires ∙ c.in-Ok.is in
    subst IsRising
    (sym (c.set.ensures ∙ set_in_place c.args.head c.args.usages c.self.inside.usages c.in-Ok.index found))
    (rising_kept c.args.head c.args.usages c.self.inside.usages c.self.invariant)

pub returns-in-Ok-clause-ok : goal.returns-in-Ok-clause-ok
returns-in-Ok-clause-ok c =
    let found = ap (λ usages. place_of usages c.args.head) c.self.view_is ∙ sym c.requires ∙ c.in-Ok.is in
    c.set.ensures
    ∙ set_in_place c.args.head c.args.usages c.self.inside.usages c.in-Ok.index found
    ∙ ap (λ usages. insert_entry depth_cmp usages c.args.head c.args.usages) c.self.view_is

-- a new head
pub insert-requires : goal.insert-requires
insert-requires c =
    let gap = ap (λ usages. place_of usages c.args.head) c.self.view_is ∙ sym c.requires ∙ c.in-Err.is in
    gap_within c.args.head c.self.inside.usages c.in-Err.index gap

pub invariant_of-self-in-Continue-1 : goal.invariant_of-self-in-Continue-1
invariant_of-self-in-Continue-1 c =
    let gap = ap (λ usages. place_of usages c.args.head) c.self.view_is ∙ sym c.requires ∙ c.in-Err.is in
    subst IsRising (sym (c.in_ok-insert-in-Err.ensures.ok
    ∙ inserted_in_gap c.args.head c.args.usages c.self.inside.usages c.in-Err.index gap))
    (rising_kept c.args.head c.args.usages c.self.inside.usages c.self.invariant)

pub returns-in_err-insert-in-Err-clause-known : goal.returns-in_err-insert-in-Err-clause-known
returns-in_err-insert-in-Err-clause-known c =
    let gap = ap (λ usages. place_of usages c.args.head) c.self.view_is ∙ sym c.requires ∙ c.in-Err.is in
    let absent = gap_value c.args.head c.self.inside.usages c.in-Err.index c.self.invariant gap in
    λ known.
    absurd (false≢true (subst IsSome (ap (λ usages. at_depth usages c.args.head) (sym c.self.view_is) ∙ absent) known))

pub returns-in_ok-insert-in-Err-clause-ok : goal.returns-in_ok-insert-in-Err-clause-ok
returns-in_ok-insert-in-Err-clause-ok c =
    let gap = ap (λ usages. place_of usages c.args.head) c.self.view_is ∙ sym c.requires ∙ c.in-Err.is in
    c.in_ok-insert-in-Err.ensures.ok
    ∙ inserted_in_gap c.args.head c.args.usages c.self.inside.usages c.in-Err.index gap
    ∙ ap (λ usages. insert_entry depth_cmp usages c.args.head c.args.usages) c.self.view_is
