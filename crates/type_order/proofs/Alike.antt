-- Numbers of one form are below the same types, and above the same. So are two numbers that are not declared.
use Rattle.std.proofs.Common.{◌≡◌, ℕ, ◌≤◌, ◌<◌, ◌==◌, ◌↔◌, if◌then◌else◌, inl, inr, Bool, true, Result, Ok, Err, IfOk}
use Rattle.std.proofs.Common.{List, ◌++◌, map, length, min, slice_get, Contains, refl, sym, ap, ◌∙◌, subst, arith}
use Rattle.std.proofs.lemmas.Bool.{cases_Bool, eqb-true, eq-eqb}
use Rattle.std.proofs.lemmas.List.Elements.{Contains-append_left, Contains-append_right, Contains-append_cases}
use Rattle.std.proofs.lemmas.Option.{slice_get_cases, slice_get_past}
use Rattle.std.proofs.Math.Nat.{min-eq_left, min-eq_right}
use Rattle.list_lemmas.proofs.Members.{Contains-map, Contains-mapped}
use Rattle.type_order.specs.Subtypes.{Form, IsBelow, IsRecord, IsSimulation, IsSupportedPair, IsUnion}
use Rattle.type_order.specs.Subtypes.IsSupportedPair.{BottomLeft, TopRight, SameWord, Functions, Records}
use Rattle.type_order.specs.Subtypes.IsSupportedPair.{EachLeft, SomeRight}
use Rattle.type_order.proofs.Apart.{supported_more}

-- `put` gives each number one of the same form
module _ (forms : List Form) (put : ℕ → ℕ) (alike : (x : ℕ) → slice_get forms x ≡ slice_get forms (put x)) where
  -- the pairs, each of them also with another number on its left
  abbrev lefts : List (ℕ × ℕ) → List (ℕ × ℕ)
  lefts pairs = pairs ++ map (λ p. (put p.0, p.1)) pairs

  -- or on its right
  abbrev rights : List (ℕ × ℕ) → List (ℕ × ℕ)
  rights pairs = pairs ++ map (λ p. (p.0, put p.1)) pairs

  module _ (pairs : List (ℕ × ℕ)) where
    old_left : (x y : ℕ) → Contains pairs (x, y) → Contains (lefts pairs) (x, y)
    old_left x y h = Contains-append_left pairs (map (λ p. (put p.0, p.1)) pairs) (x, y) h

    new_left : (x y : ℕ) → Contains pairs (x, y) → Contains (lefts pairs) (put x, y)
    new_left x y h = Contains-append_right pairs (map (λ p. (put p.0, p.1)) pairs) (put x, y)
        (Contains-mapped (λ p. (put p.0, p.1)) pairs (x, y) h)

    old_right : (x y : ℕ) → Contains pairs (x, y) → Contains (rights pairs) (x, y)
    old_right x y h = Contains-append_left pairs (map (λ p. (p.0, put p.1)) pairs) (x, y) h

    new_right : (x y : ℕ) → Contains pairs (x, y) → Contains (rights pairs) (x, put y)
    new_right x y h = Contains-append_right pairs (map (λ p. (p.0, put p.1)) pairs) (x, put y)
        (Contains-mapped (λ p. (p.0, put p.1)) pairs (x, y) h)

    -- what supports a pair supports it with the other number
    left_supported : (x y : ℕ) → IsSupportedPair forms pairs x y → IsSupportedPair forms (lefts pairs) (put x) y
    left_supported x y (BottomLeft e) = BottomLeft (sym (alike x) ∙ e)
    left_supported x y (TopRight e) = TopRight e
    left_supported x y (SameWord word e f) = SameWord word (sym (alike x) ∙ e) f
    left_supported x y (Functions a b c d e f p q) =
        Functions a b c d (sym (alike x) ∙ e) f (old_left c a p) (old_left b d q)
    left_supported x y (Records ls rs e f p) = Records ls rs (subst (λ o. IsRecord o ls) (alike x) e) f
        (λ name z k. let w = p name z k in (w.0, w.1, old_left w.0 z w.2))
    left_supported x y (EachLeft xs u p) =
        EachLeft xs (subst (λ o. IsUnion o xs) (alike x) u) (λ z k. old_left z y (p z k))
    left_supported x y (SomeRight ys u z k p) = SomeRight ys u z k (new_left x z p)

    right_supported : (x y : ℕ) → IsSupportedPair forms pairs x y → IsSupportedPair forms (rights pairs) x (put y)
    right_supported x y (BottomLeft e) = BottomLeft e
    right_supported x y (TopRight e) = TopRight (sym (alike y) ∙ e)
    right_supported x y (SameWord word e f) = SameWord word e (sym (alike y) ∙ f)
    right_supported x y (Functions a b c d e f p q) =
        Functions a b c d e (sym (alike y) ∙ f) (old_right c a p) (old_right b d q)
    right_supported x y (Records ls rs e f p) = Records ls rs e (subst (λ o. IsRecord o rs) (alike y) f)
        (λ name z k. let w = p name z k in (w.0, w.1, old_right w.0 z w.2))
    right_supported x y (EachLeft xs u p) = EachLeft xs u (λ z k. new_right z y (p z k))
    right_supported x y (SomeRight ys u z k p) =
        SomeRight ys (subst (λ o. IsUnion o ys) (alike y) u) z k (old_right x z p)

    left_simulation : IsSimulation forms pairs → IsSimulation forms (lefts pairs)
    left_simulation simulation l r h = elim (Contains-append_cases pairs (map (λ p. (put p.0, p.1)) pairs) (l, r) h) [
      | inl old ↦ supported_more forms pairs (lefts pairs) old_left l r (simulation l r old)
      | inr new ↦
          let m = Contains-map (λ p. (put p.0, p.1)) pairs (l, r) new in
          subst (λ q. IsSupportedPair forms (lefts pairs) q.0 q.1) m.2
          (left_supported m.0.0 m.0.1 (simulation m.0.0 m.0.1 m.1))
    ]

    right_simulation : IsSimulation forms pairs → IsSimulation forms (rights pairs)
    right_simulation simulation l r h = elim (Contains-append_cases pairs (map (λ p. (p.0, put p.1)) pairs) (l, r) h) [
      | inl old ↦ supported_more forms pairs (rights pairs) old_right l r (simulation l r old)
      | inr new ↦
          let m = Contains-map (λ p. (p.0, put p.1)) pairs (l, r) new in
          subst (λ q. IsSupportedPair forms (rights pairs) q.0 q.1) m.2
          (right_supported m.0.0 m.0.1 (simulation m.0.0 m.0.1 m.1))
    ]

  left_below : (l r : ℕ) → IsBelow forms l r → IsBelow forms (put l) r
  left_below l r h = record {
    pairs = lefts h.pairs;
    is_simulation = left_simulation h.pairs h.is_simulation;
    has_pair = new_left h.pairs l r h.has_pair;
  }

  right_below : (l r : ℕ) → IsBelow forms l r → IsBelow forms l (put r)
  right_below l r h = record {
    pairs = rights h.pairs;
    is_simulation = right_simulation h.pairs h.is_simulation;
    has_pair = new_right h.pairs l r h.has_pair;
  }

module _ (forms : List Form) where
  -- the second number in place of the first
  abbrev swap : (a b : ℕ) → ℕ → ℕ
  swap a b x = if x == a then b else x

  swapped : (a b : ℕ) → swap a b a ≡ b
  swapped a b = rw (eq-eqb a a refl) refl

  swap_alike : (a b : ℕ) → slice_get forms a ≡ slice_get forms b → (x : ℕ)
      → slice_get forms x ≡ slice_get forms (swap a b x)
  swap_alike a b same x = elim (cases_Bool (x == a)) [
    | inl is ↦ rw is (ap (slice_get forms) (eqb-true x a is) ∙ same)
    | inr is ↦ rw is refl
  ]

  -- what is below is so by numbers of the same forms
  pub below_alike : (l m r n : ℕ) → slice_get forms l ≡ slice_get forms m → slice_get forms r ≡ slice_get forms n
      → IsBelow forms l r → IsBelow forms m n
  below_alike l m r n left right h =
      let first : IsBelow forms m r =
      subst (λ x. IsBelow forms x r) (swapped l m) (left_below forms (swap l m) (swap_alike l m left) l r h) in
      subst (λ x. IsBelow forms m x) (swapped r n) (right_below forms (swap r n) (swap_alike r n right) m r first)

-- beyond the end all numbers are alike
pub none_beyond : (forms : List Form) (x : ℕ) → slice_get forms x ≡ slice_get forms (min x (length forms))
none_beyond forms x = elim (slice_get_cases forms x).1 [
  | inl w ↦ let within : x < length forms = w.1 in let same : min x (length forms) ≡ x = min-eq_left (omega arith) in
      ap (slice_get forms) (sym same)
  | inr w ↦
      let past : length forms ≤ x = w.0 in
      let same : min x (length forms) ≡ length forms = min-eq_right past in
      w.1 ∙ sym (ap (slice_get forms) same ∙ slice_get_past forms (length forms) (omega arith))
]

-- whether a type is below another is known of two numbers where it is of the least of each and the number of types
pub known_of_all : {F : Type 0} (forms : List Form) (l r m n : ℕ) (result : Result Bool F)
    → m ≡ min l (length forms) → n ≡ min r (length forms)
    → IfOk result (λ answer. (answer ≡ true) ↔ IsBelow forms m n)
    → IfOk result (λ answer. (answer ≡ true) ↔ IsBelow forms l r)
known_of_all forms l r m n (Ok answer) left right known =
    let at_left : slice_get forms l ≡ slice_get forms m = none_beyond forms l ∙ sym (ap (slice_get forms) left) in
    let at_right : slice_get forms r ≡ slice_get forms n = none_beyond forms r ∙ sym (ap (slice_get forms) right) in (
      λ is. below_alike forms m l n r (sym at_left) (sym at_right) (known.0 is),
      λ below. known.1 (below_alike forms l m r n at_left at_right below),
    )
known_of_all forms l r m n (Err fault) left right known = tt
