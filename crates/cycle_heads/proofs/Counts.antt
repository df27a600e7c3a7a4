-- Usages are told by their four counts.
use Rattle.std.proofs.Common.{◌≡◌, ◌≢◌, ◌≤◌, ◌↔◌, ℕ, ◌&&◌, ◌==◌, Bool, true, not, IsTrue, if◌then◌else◌, refl, sym, ◌∙◌}
use Rattle.std.proofs.Common.{ap, inl, inr, arith, ne_eqb}
use Rattle.std.proofs.lemmas.Grind.{common_steps}
use Rattle.std.proofs.lemmas.Bool.Decides.{eqb_tells, same_from_decides}
use Rattle.cycle_heads.specs.Words.{HeadUsages, count_of, usages_by, other_usages, no_usages, has_usages}
use Rattle.cycle_heads.specs.Below.{PathKind, Inductive, Unknown, Coinductive, ForcedAmbiguity, rank_of}
use Rattle.path_kinds.proofs.PathRanks.{each_kind, same_kind}

abbrev pub HasNone : HeadUsages → Type 0
HasNone usages = (kind : PathKind) → count_of usages kind ≡ 0

-- usages are none exactly if they equal the default ones
pub none_by_test : (usages zero : HeadUsages) (test : Bool)
    → zero.inductive ≡ 0 → zero.unknown ≡ 0 → zero.coinductive ≡ 0 → zero.forced_ambiguity ≡ 0
    → test ≡ ((usages.inductive == zero.inductive) && ((usages.unknown == zero.unknown)
    && ((usages.coinductive == zero.coinductive) && (usages.forced_ambiguity == zero.forced_ambiguity))))
    → IsTrue test ↔ HasNone usages
none_by_test usages zero test i u c f e = (
  λ h. each_kind (λ kind. count_of usages kind ≡ 0) (grind (arith, common_steps)) (grind (arith, common_steps))
      (grind (arith, common_steps)) (grind (arith, common_steps)),
  λ h. let hi : usages.inductive ≡ 0 = h Inductive in
      let hu : usages.unknown ≡ 0 = h Unknown in
      let hc : usages.coinductive ≡ 0 = h Coinductive in
      let hf : usages.forced_ambiguity ≡ 0 = h ForcedAmbiguity in
      grind (arith, common_steps),
)

pub count_of-usages_by : (count : PathKind → ℕ) (kind : PathKind) → count_of (usages_by count) kind ≡ count kind
count_of-usages_by count = each_kind (λ kind. count_of (usages_by count) kind ≡ count kind) refl refl refl refl

-- there are none by cycles of other kinds exactly if each other count is zero
pub none_of_others : (usages : HeadUsages) (kind : PathKind)
    → HasNone (other_usages usages kind) ↔ ((other : PathKind) → other ≢ kind → count_of usages other ≡ 0)
none_of_others usages kind =
    let count = λ (k : PathKind). if rank_of k == rank_of kind then 0 else count_of usages k in (
      λ h other apart. let e : rank_of other ≢ rank_of kind = λ same. apart (same_kind other kind same) in
          rw (ne_eqb _ _ e) at (sym (count_of-usages_by count other) ∙ h other),
      λ h k. count_of-usages_by count k ∙ elim (eqb_tells (rank_of k) (rank_of kind)) [
        | inl same ↦ rw same.0 refl
        | inr apart ↦ rw apart.0 (h k (λ e. apart.1 (ap rank_of e)))
      ],
    )

-- each count is at most the other, kind by kind
pub counts_within : (some more : HeadUsages) → some.inductive ≤ more.inductive → some.unknown ≤ more.unknown
    → some.coinductive ≤ more.coinductive → some.forced_ambiguity ≤ more.forced_ambiguity
    → (kind : PathKind) → count_of some kind ≤ count_of more kind
counts_within some more = each_kind (λ kind. count_of some kind ≤ count_of more kind)

none_tested : (i u c f : ℕ) → ((i == 0) && (u == 0) && (c == 0) && (f == 0)) ≡ true
    → (i ≡ 0) × (u ≡ 0) × (c ≡ 0) × (f ≡ 0)
none_tested i u c f test =
    (grind (arith, common_steps), grind (arith, common_steps), grind (arith, common_steps), grind (arith, common_steps))

-- where usages are none exactly if a test says so, there are some exactly if it doesn't
pub used_by_test : (usages : HeadUsages) (test : Bool)
    → (IsTrue test ↔ ((kind : PathKind) → count_of usages kind ≡ 0)) → not test ≡ has_usages usages
used_by_test usages test tells =
    ap not (same_from_decides test ((usages.inductive == 0) && (usages.unknown == 0) && (usages.coinductive == 0)
    && (usages.forced_ambiguity == 0)) tells (
      λ h. let each = none_tested usages.inductive usages.unknown usages.coinductive usages.forced_ambiguity h in
          each_kind (λ kind. count_of usages kind ≡ 0) each.0 each.1 each.2 each.3,
      λ none.
          let i : usages.inductive ≡ 0 = none Inductive in
          let u : usages.unknown ≡ 0 = none Unknown in
          let c : usages.coinductive ≡ 0 = none Coinductive in
          let f : usages.forced_ambiguity ≡ 0 = none ForcedAmbiguity in
          rw (i, u, c, f) refl,
    ))

-- a test of whether there were cycles of one kind alone tells whether there were others
pub others_by_test : (usages : HeadUsages) (kind : PathKind) (test : Bool)
    → (IsTrue test ↔ ((other : PathKind) → other ≢ kind → count_of usages other ≡ 0))
    → not test ≡ has_usages (other_usages usages kind)
others_by_test usages kind test tells =
    let others = none_of_others usages kind in
    used_by_test (other_usages usages kind) test (λ h. others.1 (tells.0 h), λ h. tells.1 (others.0 h))

-- usages without a count are none
pub none_by_counts : (usages : HeadUsages) → usages.inductive ≡ 0 → usages.unknown ≡ 0 → usages.coinductive ≡ 0
    → usages.forced_ambiguity ≡ 0 → usages ≡ no_usages
none_by_counts usages a b c d =
    λ i. record { inductive = a i; unknown = b i; coinductive = c i; forced_ambiguity = d i }
