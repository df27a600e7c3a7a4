-- Which pairs count.
use Rattle.std.proofs.Common.{◌≡◌, ◌∙◌, ◌+◌, ◌<◌, ℕ, zero, suc, Bool, true, false, cond, not, List, [], ◌∷◌, ◌++◌}
use Rattle.std.proofs.Common.{Contains, Option, Some, ap, ap₂, arith, filter, inl, inr, length, refl, slice_get}
use Rattle.std.proofs.Common.{subst, sym}
use Rattle.list_lemmas.proofs.Members.{contains_later, first_or_later}
use Rattle.askers.specs.Told.{counted, counts, counts_from}

counts_cleared : (b : Bool) (now was : Option ℕ) (place : ℕ) → counts_from now place ≡ false
    → counts_from (cond b now was) place ≡ cond b false (counts_from was place)
counts_cleared true now was place none = none
counts_cleared false now was place none = refl

module _ {I : Type 0} where
  cond_last : (b c : Bool) (p last : I × I) (rest : List (I × I))
      → cond b (p ∷ (rest ++ cond c (last ∷ []) [])) (rest ++ cond c (last ∷ []) [])
      ≡ cond b (p ∷ rest) rest ++ cond c (last ∷ []) []
  cond_last true c p last rest = refl
  cond_last false c p last rest = refl

  -- one more pair, which may count
  pub counted_more : (first : I → Option ℕ) (at end : ℕ) (pairs : List (I × I)) (last : I × I) → end ≡ at + length pairs
      → counted first at (pairs ++ last ∷ []) ≡ counted first at pairs ++ cond (counts first end last.0) (last ∷ []) []
  counted_more first at end [] last is_end =
      let same : at ≡ end = omega (arith, is_end) in
      ap (λ n. cond (counts first n last.0) (last ∷ []) []) same
  counted_more first at end (p ∷ pairs) last is_end =
      ap (λ r. cond (counts first at p.0) (p ∷ r) r)
      (counted_more first (at + 1) end pairs last (omega (arith, is_end)))
      ∙ cond_last (counts first at p.0) (counts first end last.0) p last (counted first (at + 1) pairs)

  -- places are told in another way, which makes no difference for these
  pub counted_same : (first second : I → Option ℕ) (at end : ℕ) (pairs : List (I × I)) → end ≡ at + length pairs
      → ((place : ℕ) (goal : I) → place < end → counts second place goal ≡ counts first place goal)
      → counted second at pairs ≡ counted first at pairs
  counted_same first second at end [] is_end alike = refl
  counted_same first second at end (p ∷ pairs) is_end alike =
      ap₂ (λ b r. cond b (p ∷ r) r) (alike at p.0 (omega (arith, is_end)))
      (counted_same first second (at + 1) end pairs (omega (arith, is_end)) alike)

  filter_head : (keeps : I × I → Bool) (p : I × I) (rest : List (I × I)) (b c : Bool) → keeps p ≡ not b
      → cond (cond b false c) (p ∷ filter keeps rest) (filter keeps rest) ≡ filter keeps (cond c (p ∷ rest) rest)
  filter_head keeps p rest true true is =
      sym (ap (λ b. cond b (p ∷ filter keeps rest) (filter keeps rest)) is)
  filter_head keeps p rest false true is =
      sym (ap (λ b. cond b (p ∷ filter keeps rest) (filter keeps rest)) is)
  filter_head keeps p rest true false is = refl
  filter_head keeps p rest false false is = refl

  -- of one goal none counts any more
  pub counted_cleared : (same : I → I → Bool) (first second : I → Option ℕ) (goal : I) (now : Option ℕ)
      (at end : ℕ) (pairs : List (I × I)) → end ≡ at + length pairs
      → ((other : I) → second other ≡ cond (same goal other) now (first other))
      → ((place : ℕ) → place < end → counts_from now place ≡ false)
      → counted second at pairs ≡ filter (λ pair. not (same goal pair.0)) (counted first at pairs)
  counted_cleared same first second goal now at end [] is_end is none = refl
  counted_cleared same first second goal now at end (p ∷ pairs) is_end is none =
      ap₂ (λ b r. cond b (p ∷ r) r)
      (ap (λ o. counts_from o at) (is p.0)
      ∙ counts_cleared (same goal p.0) now (first p.0) at (none at (omega (arith, is_end))))
      (counted_cleared same first second goal now (at + 1) end pairs (omega (arith, is_end)) is none)
      ∙ filter_head (λ pair. not (same goal pair.0)) p (counted first (at + 1) pairs) (same goal p.0)
      (counts first at p.0) refl

  -- a pair that counts stands at a place where it does
  pub record CountsAt (first : I → Option ℕ) (at : ℕ) (pairs : List (I × I)) (pair : I × I) : Type 0 where
    pub before : ℕ
    pub place : ℕ
    pub is_place : place ≡ at + before
    pub is_at : slice_get pairs before ≡ Some pair
    pub is_counted : counts first place pair.0 ≡ true

  counts_later : (first : I → Option ℕ) (at : ℕ) (p : I × I) (pairs : List (I × I)) (pair : I × I)
      → CountsAt first (at + 1) pairs pair → CountsAt first at (p ∷ pairs) pair
  counts_later first at p pairs pair it = record {
    before = suc it.before;
    place = it.place;
    is_place = omega (arith, it.is_place);
    is_at = it.is_at;
    is_counted = it.is_counted;
  }

  counts_here : (first : I → Option ℕ) (at : ℕ) (p : I × I) (pairs : List (I × I)) (pair : I × I) → p ≡ pair
      → counts first at p.0 ≡ true → CountsAt first at (p ∷ pairs) pair
  counts_here first at p pairs pair same is = record {
    before = 0;
    place = at;
    is_place = omega arith;
    is_at = ap Some same;
    is_counted = subst (λ x. counts first at x.0 ≡ true) same is;
  }

  counted_by : (first : I → Option ℕ) (at : ℕ) (p : I × I) (pairs : List (I × I)) (pair : I × I) (b : Bool)
      → counts first at p.0 ≡ b
      → (Contains (counted first (at + 1) pairs) pair → CountsAt first (at + 1) pairs pair)
      → Contains (cond b (p ∷ counted first (at + 1) pairs) (counted first (at + 1) pairs)) pair
      → CountsAt first at (p ∷ pairs) pair
  counted_by first at p pairs pair true is on has =
      elim (first_or_later p pair (counted first (at + 1) pairs) has) [
        | inl same ↦ counts_here first at p pairs pair same is
        | inr later ↦ counts_later first at p pairs pair (on later)
      ]
  counted_by first at p pairs pair false is on has = counts_later first at p pairs pair (on has)

  pub counted_at : (first : I → Option ℕ) (at : ℕ) (pairs : List (I × I)) (pair : I × I)
      → Contains (counted first at pairs) pair → CountsAt first at pairs pair
  counted_at first at [] pair has = absurd (omega (arith, has.1))
  counted_at first at (p ∷ pairs) pair has =
      counted_by first at p pairs pair (counts first at p.0) refl (counted_at first (at + 1) pairs pair) has

  cond_later : (b : Bool) (p pair : I × I) (rest : List (I × I)) → Contains rest pair
      → Contains (cond b (p ∷ rest) rest) pair
  cond_later true p pair rest has = contains_later pair p rest has
  cond_later false p pair rest has = has

  pub at_counted : (first : I → Option ℕ) (at place k : ℕ) (pairs : List (I × I)) (pair : I × I) → place ≡ at + k
      → slice_get pairs k ≡ Some pair → counts first place pair.0 ≡ true → Contains (counted first at pairs) pair
  at_counted first at place k [] pair is_place is is_counted = absurd cc
  at_counted first at place zero (p ∷ pairs) pair is_place is is_counted =
      let same : p ≡ pair = cc in
      let here : place ≡ at = omega (arith, is_place) in
      let counts_p : counts first at p.0 ≡ true =
      subst (λ n. counts first n p.0 ≡ true) here (subst (λ x. counts first place x.0 ≡ true) (sym same) is_counted) in
      subst (λ b. Contains (cond b (p ∷ counted first (at + 1) pairs) (counted first (at + 1) pairs)) pair)
      (sym counts_p) (0, omega arith, same)
  at_counted first at place (suc k) (p ∷ pairs) pair is_place is is_counted =
      cond_later (counts first at p.0) p pair (counted first (at + 1) pairs)
      (at_counted first (at + 1) place k pairs pair (omega (arith, is_place)) is is_counted)
