-- How the goals of a stack are found after one more goal, and after one less.
use Rattle.std.proofs.Common.{◌≡◌, ℕ, ◌+◌, ◌<◌, List, [], ◌∷◌, ◌++◌, length, map, take, drop, get_or, Bool, true, cond}
use Rattle.std.proofs.Common.{false, not, Option, Some, None, refl, sym, ap, ap₂, ◌∙◌, arith, subst}
use Rattle.std.specs.Prelude.{nat_lt}
use Rattle.std.specs.List.{IsDistinct, position, position_or_len}
use Rattle.std.specs.Cmp.{IsEquivalence}
use Rattle.std.proofs.lemmas.Grind.{common_steps}
use Rattle.std.proofs.lemmas.List.{length-map, length-take, take-append-drop, take_more}
use Rattle.std.proofs.lemmas.Map.Keys.{IsDistinct-push, IsDistinct-from_apart, apart_from_distinct}
use Rattle.std.proofs.Math.ListN.{length-append}
use Rattle.goal_paths.specs.Words.{IsIndex}
use Rattle.goal_paths.proofs.StackIndex.{IsIndex-pop, IsIndex-push, list_any_from_position, position_none_from_distinct}
use Rattle.search_stack.specs.Stack.{AreFound}

-- the first place of a list at which f of what stands there passes
position_or_len-map : {A B : Type 0} (p : B → Bool) (f : A → B) (xs : List A)
    → position_or_len p (map f xs) ≡ position_or_len (λ x. p (f x)) xs
position_or_len-map p f [] = refl
position_or_len-map p f (x ∷ xs) = ap (λ n. cond (not (p (f x))) (1 + n) 0) (position_or_len-map p f xs)

pub position-map : {A B : Type 0} (p : B → Bool) (f : A → B) (xs : List A)
    → position p (map f xs) ≡ position (λ x. p (f x)) xs
position-map p f xs =
    ap₂ (λ n size. cond (nat_lt n size) (Some n) None) (position_or_len-map p f xs) (length-map xs f)

module _ {I : Type 0} (eq : I → I → Bool) (laws : IsEquivalence eq) (exact : (a b : I) → eq a b ≡ true → a ≡ b) where
  distinct_front : (ks rest : List I) → IsDistinct eq (ks ++ rest) → IsDistinct eq ks
  distinct_front ks rest distinct = IsDistinct-from_apart eq ks (λ i j d before bound.
      let left : i < length ks = omega arith in
      let inside : j < length (ks ++ rest) = simp length-append (omega arith) in
      let apart : eq (get_or (ks ++ rest) i d) (get_or (ks ++ rest) j d) ≡ false =
      apart_from_distinct eq (ks ++ rest) i j d distinct before inside in
      grind (arith, common_steps))

  -- a map of the places of the first n inputs, after the next one was put in
  pub index_more : (depth depth' : I → Option ℕ) (inputs : List I) (k : I) (n : ℕ) → IsDistinct eq inputs
      → n < length inputs → k ≡ get_or inputs n k → IsIndex eq depth (take n inputs)
      → ((q : I) → depth' q ≡ cond (eq k q) (Some n) (depth q)) → IsIndex eq depth' (take (n + 1) inputs)
  index_more depth depth' inputs k n distinct below is index at =
      let more : take (n + 1) inputs ≡ take n inputs ++ k ∷ [] =
      take_more inputs n k below ∙ ap (λ x. take n inputs ++ x ∷ []) (sym is) in
      let apart : IsDistinct eq (take n inputs ++ k ∷ []) = subst (IsDistinct eq) more
      (distinct_front (take (n + 1) inputs) (drop (n + 1) inputs)
      (subst (IsDistinct eq) (sym (take-append-drop (n + 1) inputs)) distinct)) in
      let size : n ≡ length (take n inputs) = omega (arith, length-take n inputs, below) in
      IsIndex-push eq laws exact depth depth' (take n inputs) (take (n + 1) inputs) k n index
      (position_none_from_distinct eq laws exact _ (take n inputs) k refl apart) size more at

  pub found_push : (is_mapped : Bool) (depth depth' : I → Option ℕ) (ks all : List I) (k : I) (n : ℕ)
      → AreFound eq is_mapped depth ks → position (eq k) ks ≡ None → n ≡ length ks → all ≡ ks ++ k ∷ []
      → (is_mapped ≡ true → (q : I) → depth' q ≡ cond (eq k q) (Some n) (depth q)) → AreFound eq is_mapped depth' all
  found_push is_mapped depth depth' ks all k n found new is_length is_all at = record {
    distinct = subst (IsDistinct eq) (sym is_all)
        (IsDistinct-push laws ks k found.distinct (list_any_from_position (eq k) ks new));
    mapped = λ there.
        IsIndex-push eq laws exact depth depth' ks all k n (found.mapped there) new is_length is_all (at there);
  }

  pub found_pop : (is_mapped : Bool) (depth depth' : I → Option ℕ) (ks all : List I) (k : I)
      → AreFound eq is_mapped depth all → all ≡ ks ++ k ∷ []
      → (is_mapped ≡ true → (q : I) → depth' q ≡ cond (eq k q) None (depth q)) → AreFound eq is_mapped depth' ks
  found_pop is_mapped depth depth' ks all k found is_all at = record {
    distinct = distinct_front ks (k ∷ []) (subst (IsDistinct eq) is_all found.distinct);
    mapped = λ there. IsIndex-pop eq laws exact depth depth' ks all k (found.mapped there) is_all (at there);
  }
