-- Values that are spelled one after the other.
use Rattle.std.proofs.Common.{◌≡◌, ◌∙◌, All, ap, List, [], ◌∷◌, ◌++◌, refl, sym, ℕ}
use Rattle.std.proofs.lemmas.List.Elements.{All-head, All-tail}
use Rattle.json.specs.Token.{Token, begin_array, end_array, key}
use Rattle.graph_data.specs.Ends.{Parts}
use Rattle.graph_data.specs.Data.{array_tokens, list_tokens, member_tokens, Spells, StandsFirst}

module _ {A : Type 0} (spelled : A → List Token → List Token) where
  -- where P holds, which value it is is told by its tokens
  abbrev pub Tells : (A → Type 0) → Type 0
  Tells P = (x y : A) (r s : List Token) → P x → P y → spelled x r ≡ spelled y s → x ≡ y

  pub list_tokens-push : (xs : List A) (x : A) (rest : List Token)
      → list_tokens spelled (xs ++ x ∷ []) rest ≡ list_tokens spelled xs (spelled x rest)
  list_tokens-push [] x rest = refl
  list_tokens-push (first ∷ xs) x rest = ap (spelled first) (list_tokens-push xs x rest)

  -- one value more of an array is read, which a member has
  pub array_more : (name : List ℕ) (xs ys : List A) (x : A) (whole left after : List Token) →
      whole ≡ key name ∷ begin_array ∷ list_tokens spelled xs left → left ≡ spelled x after → ys ≡ xs ++ x ∷ [] →
      whole ≡ key name ∷ begin_array ∷ list_tokens spelled ys after
  array_more name xs ys x whole left after so_far one same =
      so_far ∙ ap (λ ts. key name ∷ begin_array ∷ list_tokens spelled xs ts) one
      ∙ sym (ap (λ zs. key name ∷ begin_array ∷ list_tokens spelled zs after) same
      ∙ ap (λ ts. key name ∷ begin_array ∷ ts) (list_tokens-push xs x after))

  module _ (parts : Parts spelled) where
    pub array_told : (P : A → Type 0) → Tells P → (xs ys : List A) (r s : List Token) → All P xs → All P ys
        → list_tokens spelled xs (end_array ∷ r) ≡ list_tokens spelled ys (end_array ∷ s) → xs ≡ ys
    array_told P tells [] [] r s p q h = refl
    array_told P tells [] (y ∷ ys) r s p q h = absurd (parts.is_no_end y _ _ (sym h))
    array_told P tells (x ∷ xs) [] r s p q h = absurd (parts.is_no_end x _ _ h)
    array_told P tells (x ∷ xs) (y ∷ ys) r s p q h =
        ap (λ v. v ∷ xs) (tells x y _ _ (All-head P x xs p) (All-head P y ys q) h)
        ∙ ap (λ vs. y ∷ vs)
        (array_told P tells xs ys r s (All-tail P x xs p) (All-tail P y ys q) (parts.tail x y _ _ h))

    -- where the whole is an array, and more of it is left than its end, a value is left
    list_left : (P : A → Type 0) (xs ys : List A) (left rest : List Token) → All P ys → (StandsFirst end_array left → ⊥)
        → list_tokens spelled xs left ≡ list_tokens spelled ys (end_array ∷ rest) → Spells P spelled left
    list_left P [] [] left rest q no_end h = absurd (no_end (rest, h))
    list_left P [] (y ∷ ys) left rest q no_end h =
        record { value = y; is_right = All-head P y ys q; rest = _; are_its = h }
    list_left P (x ∷ xs) [] left rest q no_end h = absurd (parts.is_no_end x _ _ h)
    list_left P (x ∷ xs) (y ∷ ys) left rest q no_end h =
        list_left P xs ys left rest (All-tail P y ys q) no_end (parts.tail x y _ _ h)

    pub array_left : (name : List ℕ) (P : A → Type 0) (xs : List A) (whole left : List Token)
        → whole ≡ key name ∷ begin_array ∷ list_tokens spelled xs left → (StandsFirst end_array left → ⊥)
        → Spells (All P) (member_tokens name (array_tokens spelled)) whole → Spells P spelled left
    array_left name P xs whole left so_far no_end all =
        let same : key name ∷ begin_array ∷ list_tokens spelled xs left
        ≡ key name ∷ begin_array ∷ list_tokens spelled all.value (end_array ∷ all.rest) = sym so_far ∙ all.are_its in
        let same_rest : list_tokens spelled xs left ≡ list_tokens spelled all.value (end_array ∷ all.rest) = cc in
        list_left P xs all.value left all.rest all.is_right no_end same_rest
