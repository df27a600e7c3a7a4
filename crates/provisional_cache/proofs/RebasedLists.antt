-- Lists that are changed where they stand, of which some elements are given up, and a map of such lists.
use Rattle.std.proofs.Common.{arith, ◌≡◌, ◌≢◌, ℕ, ◌+◌, ◌<◌, ◌≤◌, ◌==◌, Bool, true, false, cond, not, IsTrue, ◌↔◌, List}
use Rattle.std.proofs.Common.{[], ◌∷◌, ◌++◌, length, take, drop, get_or, slice_set, All, Option, Some, None, refl, sym}
use Rattle.std.proofs.Common.{ap, ◌∙◌, subst, append_assoc}
use Rattle.std.proofs.lemmas.Bool.{eqb-true}
use Rattle.std.proofs.Math.ListN.{drop_of_length-le}
use Rattle.std.proofs.lemmas.List.{append-nil, drop_more, drop-set-lt, take_all, take_more_set}
use Rattle.std.proofs.lemmas.List.Elements.{All-head, All-rest, All-tail, filter_map-append}
use Rattle.std.proofs.lemmas.Map.{lookup-none}
use Rattle.std.proofs.lemmas.Map.Entries.{none_past_head}
use Rattle.std.proofs.lemmas.Map.Keys.{IsDistinct-tail}
use Rattle.std.specs.Cmp.{IsEquivalence}
use Rattle.std.specs.Global.{Vec}
use Rattle.std.specs.List.{cons_option, filter_map, FoldsTo, IsDistinct}
use Rattle.std.specs.Map.{lookup, keys_of}
use Rattle.std.specs.Map.Calls.{CallableOnEachPair, RetainsPairs, SomeCallAtPair}
use Rattle.std.specs.Option.{option_map, unwrap_or, IfSome}
use Rattle.std.specs.Vec.{vec_len}
use Rattle.provisional_cache.specs.Words.{entries_at, IsLeft, lists_of}
use Rattle.provisional_cache.proofs.ProvisionalLists.{list_found}

option_first : {X : Type 0} (o : Option X) (xs : List X) → cons_option o [] ++ xs ≡ cons_option o xs
option_first None xs = refl
option_first (Some x) xs = refl

-- one element more becomes what it is to be
module _ {X Y : Type 0} (left becomes : X → Option Y) (xs : List X) (i : ℕ) (d y : X) (within : i < length xs) where
  rest_same : drop (i + 1) (slice_set xs i y) ≡ drop (i + 1) xs
  rest_same = drop-set-lt (i + 1) xs i y (omega arith)

  pub one_more : (all : List Y) → left y ≡ becomes (get_or xs i d)
      → filter_map left (take i xs) ++ filter_map becomes (drop i xs) ≡ all
      → filter_map left (take (i + 1) (slice_set xs i y)) ++ filter_map becomes (drop (i + 1) (slice_set xs i y)) ≡ all
  one_more all made so_far =
      let done = filter_map left (take i xs) in
      let rest = filter_map becomes (drop (i + 1) xs) in
      ap (λ l. filter_map left (take (i + 1) (slice_set xs i y)) ++ filter_map becomes l) rest_same
      ∙ ap (λ l. filter_map left l ++ rest) (take_more_set xs i y within)
      ∙ ap (λ l. l ++ rest) (filter_map-append left (take i xs) (y ∷ []))
      ∙ append_assoc done (cons_option (left y) []) rest
      ∙ ap (λ l. done ++ l) (option_first (left y) rest)
      ∙ ap (λ o. done ++ cons_option o rest) made
      ∙ ap (λ l. done ++ filter_map becomes l) (sym (drop_more xs i d within))
      ∙ so_far

  pub others_can : (P : X → Type 0) → All P (drop i xs) → All P (drop (i + 1) (slice_set xs i y))
  others_can P all = subst (All P) (sym rest_same)
      (All-rest P (get_or xs i d) (drop (i + 1) xs) (drop i xs) (drop_more xs i d within) all)

-- a list of which this was asked, and wasn't so, has an element
pub has_element : {E : Type 0} (list : Vec E) → false ≡ (vec_len list == 0) → list.items ≢ []
has_element list is none =
    let ok = list.ok in
    let none_left : vec_len list ≡ 0 = omega (arith, ap length none) in
    let empty : (vec_len list == 0) ≡ true = ap (λ n. n == 0) none_left in
    cc

-- all elements have become what they are to be
pub all_become : {X Y : Type 0} (left becomes : X → Option Y) (xs : List X) (i : ℕ) (all : List Y) → length xs ≤ i
    → filter_map left (take i xs) ++ filter_map becomes (drop i xs) ≡ all → filter_map left xs ≡ all
all_become left becomes xs i all end so_far =
    let done = filter_map left (take i xs) in
    ap (filter_map left) (sym (take_all i xs end))
    ∙ sym (append-nil done)
    ∙ ap (λ l. done ++ filter_map becomes l) (sym (drop_of_length-le xs {i = i} end))
    ∙ so_far

no_element : {E : Type 0} (list : List E) → length list ≡ 0 → list ≡ []
no_element [] none = refl
no_element (e ∷ es) none = absurd (omega arith)

-- so whether it has one is known
pub tells_element : {E : Type 0} (list : Vec E) (is_empty : Bool) → is_empty ≡ (vec_len list == 0)
    → IsTrue (not is_empty) ↔ (list.items ≢ [])
tells_element list true is =
    let ok = list.ok in
    let none : vec_len list ≡ 0 = eqb-true (vec_len list) 0 (sym is) in
    (λ no. absurd cc, λ some. absurd (some (no_element list.items (omega (arith, none)))))
tells_element list false is = (λ _. has_element list is, λ _. refl)

-- each list that is left has an element
pub left_have : {I E : Type 0} (test : I → Bool) (kept : List (I × Vec E)) → All (λ e. e.1.items ≢ []) kept
    → IfSome (lookup test (lists_of kept)) (λ list. list ≢ [])
left_have test [] all = tt
left_have {I} {E} test (e ∷ es) all =
    let P : I × Vec E → Type 0 = λ e. e.1.items ≢ [] in
    let Q : Bool → Type 0 =
    λ here. IfSome (cond here (Some e.1.items) (lookup test (lists_of es))) (λ list. list ≢ []) in
    elim (test e.0) as Q [ true ↦ All-head P e es all | false ↦ left_have test es (All-tail P e es all) ]

-- where no call changes the closure, it stays the same
same_closure : {F A : Type 0} (R : F → A → F → Type 0) (f : F) → ((x : A) (g : F) → R f x g → g ≡ f)
    → (xs : List A) (g : F) → FoldsTo R f xs g → g ≡ f
same_closure R f keeps [] g ran = sym ran
same_closure R f keeps (x ∷ xs) g (j, call, later) =
    same_closure R f keeps xs g (subst (λ h. FoldsTo R h xs g) (keeps x j call) later)

-- what holds of each entry of a map holds of one that stands in it
at_entry : {A : Type 0} (P : A → Type 0) (before after : List A) (x : A) (all : List A)
    → all ≡ before ++ x ∷ after → All P all → P x
at_entry P [] after x all is holds = All-head P x after (subst (All P) is holds)
at_entry P (b ∷ before) after x all is holds =
    at_entry P before after x (before ++ x ∷ after) refl (All-tail P b (before ++ x ∷ after) (subst (All P) is holds))

-- so where no call changes the closure, it may be called on each in turn if it may be called on each
pub callable_on_each : {F I V : Type 0} (T : F → I → V → Bool → V → F → Type 0)
    (may : F → I → V → Type 0) (f : F) (entries : List (I × V))
    → ((x : I × V) (g : F) → SomeCallAtPair T f x g → g ≡ f) → All (λ e. may f e.0 e.1) entries
    → CallableOnEachPair T may f entries
callable_on_each T may f entries keeps all = record {
  at = λ before after g k v is ran. subst (λ h. may h k v) (sym (same_closure (SomeCallAtPair T) f keeps before g ran))
      (at_entry (λ e. may f e.0 e.1) before after (k, v) entries is all);
}

module _ {I E F : Type 0} (T : F → I → Vec E → Bool → Vec E → F → Type 0) (becomes : I → E → Option E) (f : F)
    (calls : (k : I) (v : Vec E) (b : Bool) (w : Vec E) (f' : F) → T f k v b w f'
    → IsLeft b w.items (filter_map (becomes k) v.items) × (f' ≡ f)) where
  module _ {same : I → I → Bool} (laws : IsEquivalence same) (by_value : (x y : I) → IsTrue (same x y) → x ≡ y) where
    -- the list of each key becomes what is to be left of it
    pub becomes_at : (es kept : List (I × Vec E)) (input : I) → IsDistinct same (keys_of es)
        → RetainsPairs T f es kept → All (λ e. e.1.items ≢ []) kept
        → entries_at same (lists_of kept) input ≡ filter_map (becomes input) (entries_at same (lists_of es) input)
    becomes_at [] kept input distinct is all = rw is refl
    becomes_at (e ∷ es) kept input distinct (b, w, f', rest, call, later, is) all =
        let P : I × Vec E → Type 0 = λ e. e.1.items ≢ [] in
        let did = calls e.0 e.1 b w f' call in
        let below : All P rest → entries_at same (lists_of rest) input
        ≡ filter_map (becomes input) (entries_at same (lists_of es) input) = λ some.
        becomes_at es rest input (IsDistinct-tail same e.0 (keys_of es) distinct)
        (subst (λ h. RetainsPairs T h es rest) did.1 later) some in
        let all_at : List E = filter_map (becomes e.0) e.1.items in
        let here_as : same input e.0 ≡ true → all_at ≡ filter_map (becomes input) e.1.items =
        λ found. ap (λ k. filter_map (becomes k) e.1.items) (sym (by_value input e.0 found)) in
        let old : Bool → List E =
        λ here. unwrap_or (cond here (Some e.1.items) (lookup (same input) (lists_of es))) [] in
        let Q : Bool → Type 0 = λ here. same input e.0 ≡ here → w.items ≡ all_at → All P rest → (unwrap_or
        (cond here (Some w.items) (lookup (same input) (lists_of rest))) [] ≡ filter_map (becomes input) (old here)) in
        let first : (here : Bool) → Q here =
        λ here. elim here as Q [ true ↦ λ found left some. left ∙ here_as found | false ↦ λ _ _ some. below some ] in
        let R : Bool → Type 0 = λ here. same input e.0 ≡ here → all_at ≡ [] → All P rest
        → (entries_at same (lists_of rest) input ≡ filter_map (becomes input) (old here)) in
        let gone : (here : Bool) → R here = λ here. elim here as R [
          | true ↦ λ found none some.
              let absent : lookup (same input) (lists_of es) ≡ None =
              list_found (same input) es ∙ ap (option_map (λ v. v.items))
              (lookup-none (same input) es (none_past_head laws input e es distinct found)) in
              below some ∙ ap (λ list. filter_map (becomes input) (unwrap_or list [])) absent ∙ sym none ∙ here_as found
          | false ↦ λ _ _ some. below some
        ] in
        let S : Bool → Type 0 = λ b. IsLeft b w.items all_at → All P (cond b ((e.0, w) ∷ rest) rest)
        → entries_at same (lists_of (cond b ((e.0, w) ∷ rest) rest)) input
        ≡ filter_map (becomes input) (entries_at same (lists_of (e ∷ es)) input) in
        rw is ((elim b as S [
          | true ↦ λ left some. first (same input e.0) refl
              (left.left refl (All-head P (e.0, w) rest some)) (All-tail P (e.0, w) rest some)
          | false ↦ λ left some. gone (same input e.0) refl (left.gone refl) some
        ]) did.0 (subst (All P) is all))
