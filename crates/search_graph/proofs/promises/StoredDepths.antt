-- How deep the goals are that stored results require, before and after a call.
use Rattle.std.proofs.Common.{◌≡◌, ◌⊎◌, ◌≤◌, ℕ, Bool, true, false, Option, None, Some, IsSomeAnd, refl, sym, subst, inl}
use Rattle.std.proofs.Common.{inr, arith}
use Rattle.std.proofs.lemmas.Bool.{eqb-true, eq-eqb}
use Rattle.std.proofs.Math.Dec.{eqb}
use Rattle.search_graph.specs.Below.{Place, RequireWithin, Store, stored_at, StoredResult, StoresWithin}

module _ {I R T : Type 0} where
  -- whether a stored result requires this depth
  abbrev requires : Option (StoredResult I R T) → ℕ → Bool
  requires None depth = false
  requires (Some s) depth = eqb s.required_depth depth

  requires_that : (o : Option (StoredResult I R T)) (depth : ℕ) → requires o depth ≡ true
      → IsSomeAnd o (λ s. s.required_depth ≡ depth)
  requires_that None depth is = absurd cc
  requires_that (Some s) depth is = eqb-true s.required_depth depth is

  requires_its_own : (o : Option (StoredResult I R T)) (s : StoredResult I R T) → o ≡ Some s
      → requires o s.required_depth ≡ true
  requires_its_own None s there = absurd cc
  requires_its_own (Some t) s there = eq-eqb t.required_depth s.required_depth (let same : t ≡ s = cc in rw same refl)

  module _ (same : I → I → Bool) where
    -- whether the result that is stored of the goal at the place requires this depth
    abbrev pub required_before : Store I (StoredResult I R T) → I → Place → ℕ → Bool
    required_before results goal place depth = requires (stored_at same results goal place) depth

    pub stood_before :
        (results : Store I (StoredResult I R T)) (goal : I) (place : Place) (s : StoredResult I R T)
        → stored_at same results goal place ≡ Some s → required_before results goal place s.required_depth ≡ true
    stood_before results goal place s there = requires_its_own (stored_at same results goal place) s there

    pub stores_within : (depth : ℕ) (old new : Store I (StoredResult I R T))
        → RequireWithin same depth (required_before old) new → StoresWithin same depth old new
    stores_within depth old new all = λ goal place s there. elim (all goal place s there) [
      | inl fits ↦ inl fits
      | inr stood ↦ inr (requires_that (stored_at same old goal place) s.required_depth stood)
    ]

    -- nothing is stored
    pub StoresWithin-same : (depth : ℕ) (results : Store I (StoredResult I R T))
        → StoresWithin same depth results results
    StoresWithin-same depth results =
        λ goal place s there. inr (subst (λ o. IsSomeAnd o (λ t. t.required_depth ≡ s.required_depth)) (sym there) refl)

    as_before : (depth most : ℕ) (old mid : Store I (StoredResult I R T)) (goal : I) (place : Place)
        (o : Option (StoredResult I R T)) → stored_at same mid goal place ≡ o → StoresWithin same most old mid
        → IsSomeAnd o (λ t. t.required_depth ≡ depth)
        → (depth ≤ most) ⊎ IsSomeAnd (stored_at same old goal place) (λ t. t.required_depth ≡ depth)
    as_before depth most old mid goal place None is first stood = absurd stood
    as_before depth most old mid goal place (Some t) is first stood =
        subst (λ d. (d ≤ most) ⊎ IsSomeAnd (stored_at same old goal place) (λ u. u.required_depth ≡ d))
        stood (first goal place t is)

    -- first by calls of at most one depth, then by one of another
    pub StoresWithin-then : (most depth : ℕ) (old mid new : Store I (StoredResult I R T)) → depth ≤ most
        → StoresWithin same most old mid → StoresWithin same depth mid new → StoresWithin same most old new
    StoresWithin-then most depth old mid new less first second =
        λ goal place s there. elim (second goal place s there) [
          | inl fits ↦ inl (omega (arith, fits, less))
          | inr stood ↦
              as_before s.required_depth most old mid goal place (stored_at same mid goal place) refl first stood
        ]
