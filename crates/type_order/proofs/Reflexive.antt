-- A declared type is below itself.
use Rattle.std.proofs.Common.{◌≡◌, ◌≢◌, ℕ, zero, suc, ◌<◌, ◌==◌, inl, inr, List, [], ◌∷◌, map, cond, length, slice_get}
use Rattle.std.proofs.Common.{Contains, Option, None, Some, refl, sym, ap, subst, ◌∙◌, arith}
use Rattle.std.specs.List.{find}
use Rattle.std.specs.Option.{option_map}
use Rattle.std.proofs.lemmas.Bool.{cases_Bool}
use Rattle.std.proofs.lemmas.Bool.Decides.{eqb_tells}
use Rattle.list_lemmas.proofs.Members.{contains_later, first_or_later}
use Rattle.type_order.specs.Fields.{Field, part_of}
use Rattle.type_order.specs.Order.{AreDeclared}
use Rattle.type_order.specs.Subtypes.{Base, Bottom, Form, Function, IsBelow, IsRecord, IsSimulation, IsSupportedPair}
use Rattle.type_order.specs.Subtypes.{IsUnion, Record, Top, Union}
use Rattle.type_order.specs.Subtypes.IsSupportedPair.{BottomLeft, TopRight, SameWord, Functions, Records}
use Rattle.type_order.specs.Subtypes.IsSupportedPair.{EachLeft, SomeRight}
use Rattle.type_order.specs.Rule.{alternatives_in}
use Rattle.type_order.proofs.Apart.{apart, apart_new, apart_of, apart_old, has_union}

-- each number below this one with itself
abbrev same_pairs : ℕ → List (ℕ × ℕ)
same_pairs zero = []
same_pairs (suc n) = (n, n) ∷ same_pairs n

in_same : (n m : ℕ) → m < n → Contains (same_pairs n) (m, m)
in_same zero m l = absurd (omega arith)
in_same (suc n) m l = elim (eqb_tells m n) [
  | inl w ↦ (0, omega arith, ap (λ k. (k, k)) (sym w.1))
  | inr w ↦ let ne : m ≢ n = w.1 in contains_later (m, m) (n, n) (same_pairs n) (in_same n m (omega arith))
]

same_of : (n a b : ℕ) → Contains (same_pairs n) (a, b) → (a ≡ b) × (a < n)
same_of zero a b h = absurd (omega (arith, h.1))
same_of (suc n) a b h = elim (first_or_later (n, n) (a, b) (same_pairs n) h) [
  | inl e ↦ let x : n ≡ a = ap (λ p. p.0) e in let y : n ≡ b = ap (λ p. p.1) e in (sym x ∙ y, omega arith)
  | inr later ↦ let w = same_of n a b later in let l = w.1 in (w.0, omega arith)
]

form_at : (forms : List Form) (n : ℕ) → n < length forms → (form : Form) × (slice_get forms n ≡ Some form)
form_at [] n l = absurd (omega arith)
form_at (f ∷ fs) zero l = (f, refl)
form_at (f ∷ fs) (suc n) l = form_at fs n (omega arith)

-- the type that is found is one of those of the fields
pub part_in : (fields : List Field) (name y : ℕ) → part_of fields name ≡ Some y
    → Contains (map (λ field. field.part) fields) y
part_in [] name y e = absurd cc
part_in (f ∷ fs) name y e = elim (cases_Bool (f.name == name)) [
  | inl is ↦
      let g : Some f.part ≡ Some y =
      subst (λ b. option_map (λ x. x.part) (cond b (Some f) (find (λ x. x.name == name) fs)) ≡ Some y) is e in
      (0, omega arith, cc)
  | inr is ↦ contains_later y f.part (map (λ field. field.part) fs) (part_in fs name y
      (subst (λ b. option_map (λ x. x.part) (cond b (Some f) (find (λ x. x.name == name) fs)) ≡ Some y) is e))
]

module _ (forms : List Form) (declared : AreDeclared forms) where
  -- each type with itself, and with the unions that it is an alternative of
  abbrev pairs : List (ℕ × ℕ)
  pairs = apart forms (same_pairs (length forms))

  there : (m : ℕ) → m < length forms → Contains pairs (m, m)
  there m l = apart_old forms (same_pairs (length forms)) m m (in_same (length forms) m l)

  same_supported : (a : ℕ) (form : Form) → a < length forms
      → slice_get forms a ≡ Some form → IsSupportedPair forms pairs a a
  same_supported a (Base w) l e = SameWord w e e
  same_supported a Top l e = TopRight e
  same_supported a Bottom l e = BottomLeft e
  same_supported a (Function x y) l e =
      Functions x y x y e e (there x (declared a (Function x y) e x (0, omega arith, refl)))
      (there y (declared a (Function x y) e y (1, omega arith, refl)))
  same_supported a (Record v) l e =
      let is : IsRecord (slice_get forms a) v.items = subst (λ o. IsRecord o v.items) (sym e) refl in
      Records v.items v.items is is (λ name y k. (y, k, there y (declared a (Record v) e y (part_in v.items name y k))))
  same_supported a (Union v) l e =
      EachLeft v.items (subst (λ o. IsUnion o v.items) (sym e) refl)
      (λ x k. apart_new forms (same_pairs (length forms)) a a x (in_same (length forms) a l)
      (subst (λ o. Contains (alternatives_in o) x) (sym e) k))

  alternative_declared : (s x : ℕ) (o : Option Form) → slice_get forms s ≡ o
      → Contains (alternatives_in o) x → x < length forms
  alternative_declared s x (Some (Union v)) e h = declared s (Union v) e x h
  alternative_declared s x (Some (Base w)) e h = absurd (omega (arith, h.1))
  alternative_declared s x (Some Top) e h = absurd (omega (arith, h.1))
  alternative_declared s x (Some Bottom) e h = absurd (omega (arith, h.1))
  alternative_declared s x (Some (Function a b)) e h = absurd (omega (arith, h.1))
  alternative_declared s x (Some (Record v)) e h = absurd (omega (arith, h.1))
  alternative_declared s x None e h = absurd (omega (arith, h.1))

  part_supported : (s x : ℕ) → Contains (alternatives_in (slice_get forms s)) x → IsSupportedPair forms pairs x s
  part_supported s x h =
      SomeRight (alternatives_in (slice_get forms s)) (has_union (slice_get forms s) x h) x h
      (there x (alternative_declared s x (slice_get forms s) refl h))

  is_simulation : IsSimulation forms pairs
  is_simulation l r h = elim (apart_of forms (same_pairs (length forms)) l r h) [
    | inl old ↦
        let w = same_of (length forms) l r old in
        let f = form_at forms l w.1 in
        subst (λ t. IsSupportedPair forms pairs l t) w.0 (same_supported l f.0 w.1 f.1)
    | inr w ↦
        let same = (same_of (length forms) w.whole r w.has_pair).0 in
        subst (λ t. IsSupportedPair forms pairs l t) same (part_supported w.whole l w.is_part)
  ]

  pub below_itself : (n : ℕ) → n < length forms → IsBelow forms n n
  below_itself n l = record { pairs = pairs; is_simulation = is_simulation; has_pair = there n l }
