-- Where a type is below another and is a union, each of its alternatives is.
use Rattle.std.proofs.Common.{◌≡◌, ℕ, ◌⊎◌, inl, inr, List, [], ◌∷◌, ◌++◌, map, slice_get, Contains, Option, None, Some}
use Rattle.std.proofs.Common.{refl, sym, ap, subst, arith}
use Rattle.std.specs.List.{flat_map}
use Rattle.std.proofs.lemmas.List.Concat.{flat_map-cons}
use Rattle.std.proofs.lemmas.List.Elements.{Contains-append_left, Contains-append_right, Contains-append_cases}
use Rattle.list_lemmas.proofs.Members.{Contains-map, Contains-mapped, first_or_later}
use Rattle.type_order.specs.Fields.{Field}
use Rattle.type_order.specs.Subtypes.{Base, Bottom, Form, Function, IsBelow, IsRecord, IsSimulation, IsSupportedPair}
use Rattle.type_order.specs.Subtypes.{IsUnion, Record, Top, Union}
use Rattle.type_order.specs.Subtypes.IsSupportedPair.{BottomLeft, TopRight, SameWord, Functions, Records}
use Rattle.type_order.specs.Subtypes.IsSupportedPair.{EachLeft, SomeRight}
use Rattle.type_order.specs.Rule.{alternatives_in}

pub Contains-flat : {A B : Type 0} (f : A → List B) (xs : List A) (x : A) (y : B) → Contains xs x
    → Contains (f x) y → Contains (flat_map f xs) y
Contains-flat f [] x y h k = absurd (omega (arith, h.1))
Contains-flat f (z ∷ xs) x y h k =
    subst (λ ys. Contains ys y) (sym (flat_map-cons f z xs)) (elim (first_or_later z x xs h) [
      | inl same ↦ Contains-append_left (f z) (flat_map f xs) y (subst (λ t. Contains (f t) y) (sym same) k)
      | inr later ↦ Contains-append_right (f z) (flat_map f xs) y (Contains-flat f xs x y later k)
    ])

pub flat-Contains : {A B : Type 0} (f : A → List B) (xs : List A) (y : B) → Contains (flat_map f xs) y
    → (x : A) × Contains xs x × Contains (f x) y
flat-Contains f [] y h = absurd (omega (arith, h.1))
flat-Contains {A} f (z ∷ xs) y h =
    elim (Contains-append_cases (f z) (flat_map f xs) y (subst (λ ys. Contains ys y) (flat_map-cons f z xs) h)) [
      | inl now ↦ (z, (0, omega arith, refl), now)
      | inr later ↦ let w = flat-Contains f xs y later in (w.0, Contains-append_right (z ∷ []) xs w.0 w.1, w.2)
    ]

-- what has an alternative is a union
pub has_union : (o : Option Form) (x : ℕ) → Contains (alternatives_in o) x → IsUnion o (alternatives_in o)
has_union (Some (Union v)) x h = refl
has_union (Some (Base w)) x h = absurd (omega (arith, h.1))
has_union (Some Top) x h = absurd (omega (arith, h.1))
has_union (Some Bottom) x h = absurd (omega (arith, h.1))
has_union (Some (Function a b)) x h = absurd (omega (arith, h.1))
has_union (Some (Record v)) x h = absurd (omega (arith, h.1))
has_union None x h = absurd (omega (arith, h.1))

-- a union is nothing else
not_bottom : (o : Option Form) (xs : List ℕ) → IsUnion o xs → o ≡ Some Bottom → ⊥
not_bottom o xs u e = subst (λ p. IsUnion p xs) e u

not_base : (o : Option Form) (xs : List ℕ) (w : ℕ) → IsUnion o xs → o ≡ Some (Base w) → ⊥
not_base o xs w u e = subst (λ p. IsUnion p xs) e u

not_function : (o : Option Form) (xs : List ℕ) (a b : ℕ) → IsUnion o xs → o ≡ Some (Function a b) → ⊥
not_function o xs a b u e = subst (λ p. IsUnion p xs) e u

not_record : (o : Option Form) (xs : List ℕ) (fields : List Field) → IsUnion o xs → IsRecord o fields → ⊥
not_record (Some (Union v)) xs fields u e = e
not_record (Some (Base w)) xs fields u e = u
not_record (Some Top) xs fields u e = u
not_record (Some Bottom) xs fields u e = u
not_record (Some (Function a b)) xs fields u e = u
not_record (Some (Record v)) xs fields u e = u
not_record None xs fields u e = u

module _ (forms : List Form) where
  -- more pairs support as much
  pub supported_more : (some more : List (ℕ × ℕ)) → ((x y : ℕ) → Contains some (x, y) → Contains more (x, y))
      → (l r : ℕ) → IsSupportedPair forms some l r → IsSupportedPair forms more l r
  supported_more some more h l r (BottomLeft e) = BottomLeft e
  supported_more some more h l r (TopRight e) = TopRight e
  supported_more some more h l r (SameWord word e f) = SameWord word e f
  supported_more some more h l r (Functions a b c d e f p q) = Functions a b c d e f (h c a p) (h b d q)
  supported_more some more h l r (Records ls rs e f p) =
      Records ls rs e f (λ name y k. let w = p name y k in (w.0, w.1, h w.0 y w.2))
  supported_more some more h l r (EachLeft xs u p) = EachLeft xs u (λ x k. h x r (p x k))
  supported_more some more h l r (SomeRight ys u y k p) = SomeRight ys u y k (h l y p)

  -- the pairs of a pair whose left type is taken apart
  abbrev pub parted : ℕ × ℕ → List (ℕ × ℕ)
  parted p = map (λ x. (x, p.1)) (alternatives_in (slice_get forms p.0))

  -- the pairs, and theirs
  abbrev pub apart : List (ℕ × ℕ) → List (ℕ × ℕ)
  apart pairs = pairs ++ flat_map parted pairs

  pub apart_old : (pairs : List (ℕ × ℕ)) (l r : ℕ) → Contains pairs (l, r) → Contains (apart pairs) (l, r)
  apart_old pairs l r h = Contains-append_left pairs (flat_map parted pairs) (l, r) h

  pub apart_new : (pairs : List (ℕ × ℕ)) (l r x : ℕ) → Contains pairs (l, r)
      → Contains (alternatives_in (slice_get forms l)) x → Contains (apart pairs) (x, r)
  apart_new pairs l r x h k =
      Contains-append_right pairs (flat_map parted pairs) (x, r)
      (Contains-flat parted pairs (l, r) (x, r) h
      (Contains-mapped (λ y. (y, r)) (alternatives_in (slice_get forms l)) x k))

  -- a pair of a union, one of whose alternatives is the type
  pub record Whole (pairs : List (ℕ × ℕ)) (x r : ℕ) : Type 0 where
    pub whole : ℕ
    pub has_pair : Contains pairs (whole, r)
    pub is_part : Contains (alternatives_in (slice_get forms whole)) x

  pub apart_of : (pairs : List (ℕ × ℕ)) (x r : ℕ) → Contains (apart pairs) (x, r)
      → Contains pairs (x, r) ⊎ Whole pairs x r
  apart_of pairs x r h = elim (Contains-append_cases pairs (flat_map parted pairs) (x, r) h) [
    | inl old ↦ inl old
    | inr new ↦
        let w = flat-Contains parted pairs (x, r) new in
        let m = Contains-map (λ y. (y, w.0.1)) (alternatives_in (slice_get forms w.0.0)) (x, r) w.2 in
        let at : w.0.1 ≡ r = ap (λ p. p.1) m.2 in
        let is : m.0 ≡ x = ap (λ p. p.0) m.2 in
        inr (record {
          whole = w.0.0;
          has_pair = subst (λ t. Contains pairs (w.0.0, t)) at w.1;
          is_part = subst (Contains (alternatives_in (slice_get forms w.0.0))) is m.1;
        })
  ]

  module _ (pairs : List (ℕ × ℕ)) (simulation : IsSimulation forms pairs) where
    old_supported : (l r : ℕ) → IsSupportedPair forms pairs l r → IsSupportedPair forms (apart pairs) l r
    old_supported l r h = supported_more pairs (apart pairs) (apart_old pairs) l r h

    -- what supports the pair of a union supports that of its alternative
    part_supported : (s x r : ℕ) → Contains pairs (s, r) → Contains (alternatives_in (slice_get forms s)) x
        → IsSupportedPair forms pairs s r → IsSupportedPair forms (apart pairs) x r
    part_supported s x r h k (BottomLeft e) = absurd
        (not_bottom (slice_get forms s) (alternatives_in (slice_get forms s)) (has_union (slice_get forms s) x k) e)
    part_supported s x r h k (TopRight e) = TopRight e
    part_supported s x r h k (SameWord word e f) = absurd
        (not_base (slice_get forms s) (alternatives_in (slice_get forms s)) word (has_union (slice_get forms s) x k) e)
    part_supported s x r h k (Functions a b c d e f p q) = absurd (not_function (slice_get forms s)
        (alternatives_in (slice_get forms s)) a b (has_union (slice_get forms s) x k) e)
    part_supported s x r h k (Records ls rs e f p) = absurd
        (not_record (slice_get forms s) (alternatives_in (slice_get forms s)) ls (has_union (slice_get forms s) x k) e)
    part_supported s x r h k (EachLeft xs u p) =
        old_supported x r (simulation x r (p x (same_union (slice_get forms s) xs x u k)))
      where
        same_union : (o : Option Form) (xs : List ℕ) (x : ℕ) → IsUnion o xs
            → Contains (alternatives_in o) x → Contains xs x
        same_union (Some (Union v)) xs x u h = subst (λ ys. Contains ys x) u h
        same_union (Some (Base w)) xs x u h = absurd u
        same_union (Some Top) xs x u h = absurd u
        same_union (Some Bottom) xs x u h = absurd u
        same_union (Some (Function a b)) xs x u h = absurd u
        same_union (Some (Record v)) xs x u h = absurd u
        same_union None xs x u h = absurd u
    part_supported s x r h k (SomeRight ys u y is p) = SomeRight ys u y is (apart_new pairs s y x p k)

    apart_simulation : IsSimulation forms (apart pairs)
    apart_simulation l r h = elim (apart_of pairs l r h) [
      | inl old ↦ old_supported l r (simulation l r old)
      | inr w ↦ part_supported w.whole l r w.has_pair w.is_part (simulation w.whole r w.has_pair)
    ]

    -- so each alternative of a union is below what the union is below
    pub part_below : (s r x : ℕ) → Contains pairs (s, r)
        → Contains (alternatives_in (slice_get forms s)) x → IsBelow forms x r
    part_below s r x h k =
        record { pairs = apart pairs; is_simulation = apart_simulation; has_pair = apart_new pairs s r x h k }
