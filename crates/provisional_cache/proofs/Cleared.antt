-- What is left of a map of lists where a closure filters each list and keeps those that aren't empty.
use Rattle.std.proofs.Common.{◌≡◌, ◌≢◌, ◌↔◌, Bool, true, false, cond, IsTrue, List, [], ◌∷◌, Some, None, refl, sym, ap}
use Rattle.std.proofs.Common.{◌∙◌, subst}
use Rattle.std.proofs.lemmas.Map.{lookup-none}
use Rattle.std.proofs.lemmas.Map.Entries.{none_past_head}
use Rattle.std.proofs.lemmas.Map.Keys.{IsDistinct-tail}
use Rattle.std.specs.Cmp.{IsEquivalence}
use Rattle.std.specs.Global.{Vec}
use Rattle.std.specs.List.{filter, IsDistinct}
use Rattle.std.specs.Map.{lookup, keys_of}
use Rattle.std.specs.Map.Calls.{RetainsPairs}
use Rattle.std.specs.Option.{option_map, unwrap_or, IfSome}
use Rattle.provisional_cache.specs.Words.{entries_at, lists_of}
use Rattle.provisional_cache.proofs.ProvisionalLists.{list_found}

-- a list that isn't said to be left is empty
none_left : {E : Type 0} (list : List E) → (IsTrue false ↔ (list ≢ [])) → list ≡ []
none_left [] left = refl
none_left (x ∷ xs) left = absurd (let wrong : false ≡ true = left.1 (λ none. cc) in cc)

module _ {I E F : Type 0} (T : F → I → Vec E → Bool → Vec E → F → Type 0) (keep : E → Bool) (f : F)
    (calls : (k : I) (v : Vec E) (b : Bool) (w : Vec E) (f' : F) → T f k v b w f'
    → (w.items ≡ filter keep v.items) × (IsTrue b ↔ (w.items ≢ [])) × (f' ≡ f)) where
  -- each list that is left has an element
  pub left_at : (test : I → Bool) (es kept : List (I × Vec E)) → RetainsPairs T f es kept
      → IfSome (lookup test (lists_of kept)) (λ list. list ≢ [])
  left_at test [] kept is = rw is tt
  left_at test (e ∷ es) kept (b, w, f', rest, call, later, is) =
      let did = calls e.0 e.1 b w f' call in
      let below : IfSome (lookup test (lists_of rest)) (λ list. list ≢ []) =
      left_at test es rest (subst (λ h. RetainsPairs T h es rest) did.2 later) in
      let P : Bool → Type 0 = λ b. (IsTrue b ↔ (w.items ≢ []))
      → IfSome (lookup test (lists_of (cond b ((e.0, w) ∷ rest) rest))) (λ list. list ≢ []) in
      let Q : Bool → Type 0 =
      λ here. w.items ≢ [] → IfSome (cond here (Some w.items) (lookup test (lists_of rest))) (λ list. list ≢ []) in
      let first : (here : Bool) → Q here = λ here. elim here as Q [ true ↦ λ some. some | false ↦ λ some. below ] in
      rw is ((elim b as P [
        | true ↦ λ left. first (test e.0) (left.0 refl)
        | false ↦ λ left. below
      ]) did.1)

  module _ {same : I → I → Bool} (laws : IsEquivalence same) where
    -- the list of each key is filtered
    pub others_at : (es kept : List (I × Vec E)) (input : I) → IsDistinct same (keys_of es) → RetainsPairs T f es kept
        → entries_at same (lists_of kept) input ≡ filter keep (entries_at same (lists_of es) input)
    others_at [] kept input distinct is = rw is refl
    others_at (e ∷ es) kept input distinct (b, w, f', rest, call, later, is) =
        let did = calls e.0 e.1 b w f' call in
        let below : entries_at same (lists_of rest) input ≡ filter keep (entries_at same (lists_of es) input) =
        others_at es rest input (IsDistinct-tail same e.0 (keys_of es) distinct)
        (subst (λ h. RetainsPairs T h es rest) did.2 later) in
        let P : Bool → Type 0 = λ b. (IsTrue b ↔ (w.items ≢ [])) → entries_at same
        (lists_of (cond b ((e.0, w) ∷ rest) rest)) input ≡ filter keep (entries_at same (lists_of (e ∷ es)) input) in
        let Q : Bool → Type 0 =
        λ here. same input e.0 ≡ here → (unwrap_or (cond here (Some w.items) (lookup (same input) (lists_of rest))) []
        ≡ filter keep (unwrap_or (cond here (Some e.1.items) (lookup (same input) (lists_of es))) [])) in
        let first : (here : Bool) → Q here = λ here. elim here as Q [ true ↦ λ _. did.0 | false ↦ λ _. below ] in
        let R : Bool → Type 0 = λ here. same input e.0 ≡ here → w.items ≡ [] → (entries_at same (lists_of rest) input
        ≡ filter keep (unwrap_or (cond here (Some e.1.items) (lookup (same input) (lists_of es))) [])) in
        let gone : (here : Bool) → R here = λ here. elim here as R [
          | true ↦ λ found none.
              let absent : lookup (same input) (lists_of es) ≡ None =
              list_found (same input) es ∙ ap (option_map (λ v. v.items))
              (lookup-none (same input) es (none_past_head laws input e es distinct found)) in
              below ∙ ap (λ list. filter keep (unwrap_or list [])) absent ∙ sym none ∙ did.0
          | false ↦ λ _ _. below
        ] in
        rw is ((elim b as P [
          | true ↦ λ left. first (same input e.0) refl
          | false ↦ λ left. gone (same input e.0) refl (none_left w.items left)
        ]) did.1)
