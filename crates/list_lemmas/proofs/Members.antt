-- Members of lists: of a list with one more, of one that is mapped, and of one that is filtered.
use Rattle.std.proofs.Common.{◌≡◌, zero, suc, Bool, true, List, [], ◌∷◌, map, filter, Contains, ◌⊎◌, inl, inr, refl}
use Rattle.std.proofs.Common.{sym, ap, ◌∙◌, subst, arith}
use Rattle.std.proofs.lemmas.Bool.{cases_Bool}
use Rattle.std.proofs.lemmas.List.{get_or-map, length-map}
use Rattle.std.proofs.lemmas.List.Elements.{All-contains, All-contains_itself, All-filter, All-map}
use Rattle.std.proofs.lemmas.List.Elements.{All-weaker, filter_passes}

module _ {A : Type 0} where
  pub contains_later : (x first : A) (rest : List A) → Contains rest x → Contains (first ∷ rest) x
  contains_later x first rest (k, l, e) = (suc k, omega arith, e)

  pub first_or_later : (y x : A) (xs : List A) → Contains (y ∷ xs) x → (y ≡ x) ⊎ Contains xs x
  first_or_later y x xs (zero, l, e) = inl e
  first_or_later y x xs (suc k, l, e) = inr (k, omega arith, e)

  -- a filter leaves each member that passes,
  pub Contains-filtered : (p : A → Bool) (xs : List A) (x : A) → Contains xs x → p x ≡ true → Contains (filter p xs) x
  Contains-filtered p [] x (k, l, e) pass = absurd (omega arith)
  Contains-filtered p (y ∷ xs) x there pass = elim (first_or_later y x xs there) [
    | inl here ↦ let passes : p y ≡ true = subst (λ z. p z ≡ true) (sym here) pass in rw passes (0, omega arith, here)
    | inr later ↦ elim (cases_Bool (p y)) [
      | inl passes ↦ rw passes (contains_later x y (filter p xs) (Contains-filtered p xs x later pass))
      | inr fails ↦ rw fails (Contains-filtered p xs x later pass)
    ]
  ]

  -- and no others
  pub filtered_member : (p : A → Bool) (xs : List A) (x : A) → Contains (filter p xs) x → Contains xs x × (p x ≡ true)
  filtered_member p xs x there = (
    All-contains (Contains xs) (filter p xs) x (All-filter p (Contains xs) xs (All-contains_itself xs)) there,
    All-contains (λ y. p y ≡ true) (filter p xs) x (filter_passes p xs) there,
  )

module _ {A B : Type 0} (f : A → B) where
  pub Contains-mapped : (xs : List A) (x : A) → Contains xs x → Contains (map f xs) (f x)
  Contains-mapped xs x (k, l, e) = (k, omega (arith, length-map xs f), get_or-map f xs k x (f x) l ∙ ap f e)

  -- what a member of a mapped list comes from
  pub Contains-map : (xs : List A) (y : B) → Contains (map f xs) y → (x : A) × Contains xs x × (f x ≡ y)
  Contains-map xs y there =
      let P : B → Type 0 = λ y. (x : A) × Contains xs x × (f x ≡ y) in
      let all =
      All-map P f xs (All-weaker (Contains xs) (λ x. P (f x)) (λ x has. (x, has, refl)) xs (All-contains_itself xs)) in
      All-contains P (map f xs) y all there
