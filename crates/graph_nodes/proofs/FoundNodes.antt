-- The numbers of the nodes that are found while a graph is copied: one more number, and edges whose targets get places.
use Rattle.std.proofs.Common.{◌≡◌, ℕ, zero, suc, ◌+◌, ◌<◌, List, [], ◌∷◌, ◌++◌, map, take, length, Some, Contains}
use Rattle.std.proofs.Common.{get_or, slice_get, slice_index, nat_eq, inl, inr, refl, sym, ◌∙◌, ap, ap₂, subst, arith}
use Rattle.std.specs.List.{position}
use Rattle.std.proofs.lemmas.List.{map-append, take_more}
use Rattle.std.proofs.lemmas.List.Quantifiers.{position-Some}
use Rattle.std.proofs.lemmas.Map.Views.{exact_unsigned_eq}
use Rattle.std.proofs.lemmas.Option.{slice_get-get_or, slice_get_within, get_or_from_slice_get}
use Rattle.list_lemmas.proofs.Lists.{get_left, get_cases, get_end}
use Rattle.list_lemmas.proofs.Members.{Contains-mapped}
use Rattle.graph_nodes.specs.Below.{Edge, original_edge}
use Rattle.graph_nodes.specs.Words.{Finds, ArePlaced}

-- a number stands at the place that is found for it
pub found_place : (numbers : List ℕ) (number place : ℕ) → position (nat_eq number) numbers ≡ Some place
    → slice_get numbers place ≡ Some number
found_place numbers number place is =
    let found = position-Some (nat_eq number) numbers place 0 is in
    slice_get-get_or numbers place 0 found.0 ∙ ap Some (sym (exact_unsigned_eq number (get_or numbers place 0) found.1))

-- the last number stands at the old length
pub last_place : (numbers more : List ℕ) (number place : ℕ) → more ≡ numbers ++ number ∷ [] → place ≡ length numbers
    → slice_get more place ≡ Some number
last_place numbers more number place is last = ap₂ slice_get is last ∙ get_end numbers number

-- nothing is found
pub Finds-nothing : (numbers targets : List ℕ) → Finds numbers numbers targets
Finds-nothing numbers targets = record { stays = λ at n h. h; only = λ at n h. inl h }

-- one number is found
pub Finds-push : (numbers more : List ℕ) (number : ℕ) → more ≡ numbers ++ number ∷ [] → Finds numbers more (number ∷ [])
Finds-push numbers more number is = record {
  stays = λ at n h. ap (λ l. slice_get l at) is ∙ get_left numbers (number ∷ []) at n h;
  only = λ at n h.
      elim (get_cases numbers number at n (ap (λ l. slice_get l at) (sym is) ∙ h)) [
        | inl old ↦ inl old
        | inr new ↦ inr (zero, omega arith, new.1)
      ];
}

pub only_number : (number n : ℕ) → Contains (number ∷ []) n → number ≡ n
only_number number n (zero, l, e) = e
only_number number n (suc k, l, e) = absurd (omega arith)

-- numbers are found, and then one of them
pub Finds-then : (old numbers more targets : List ℕ) (number : ℕ) → Contains targets number → Finds old numbers targets
    → Finds numbers more (number ∷ []) → Finds old more targets
Finds-then old numbers more targets number has first second = record {
  stays = λ at n h. second.stays at n (first.stays at n h);
  only = λ at n h. elim (second.only at n h) [
    | inl before ↦ first.only at n before
    | inr new ↦ inr (subst (Contains targets) (only_number number n new) has)
  ];
}

-- what was found has the same number
pub same_number : (numbers more : List ℕ) (at : ℕ)
    → ((i n : ℕ) → slice_get numbers i ≡ Some n → slice_get more i ≡ Some n) → at < length numbers
    → slice_index more at ≡ slice_index numbers at
same_number numbers more at stays l = get_or_from_slice_get more at (slice_index numbers at) 0
    (stays at (slice_index numbers at) (slice_get-get_or numbers at 0 l))

pub still_within : (numbers more : List ℕ) (at : ℕ)
    → ((i n : ℕ) → slice_get numbers i ≡ Some n → slice_get more i ≡ Some n) → at < length numbers → at < length more
still_within numbers more at stays l = slice_get_within more at (slice_index numbers at)
    (stays at (slice_index numbers at) (slice_get-get_or numbers at 0 l))

-- edges have the same originals while more is found
pub same_originals : {I : Type 0} (numbers more : List ℕ)
    → ((i n : ℕ) → slice_get numbers i ≡ Some n → slice_get more i ≡ Some n) → (edges : List (Edge I))
    → ((i : ℕ) (e : Edge I) → slice_get edges i ≡ Some e → e.target < length numbers)
    → map (original_edge (slice_index more)) edges ≡ map (original_edge (slice_index numbers)) edges
same_originals numbers more stays [] inside = refl
same_originals numbers more stays (e ∷ edges) inside =
    ap₂ (λ t rest. record { kind = e.kind; input = e.input; target = t } ∷ rest)
    (same_number numbers more e.target stays (inside zero e refl))
    (same_originals numbers more stays edges (λ i f h. inside (suc i) f h))

-- no edge is placed yet
pub none_placed : {I : Type 0} (numbers : List ℕ) (placed : List (Edge I)) → placed ≡ [] → ArePlaced numbers [] placed
none_placed numbers placed none =
    subst (ArePlaced numbers []) (sym none) (record { same = refl; inside = λ i e there. absurd cc })

-- one more edge is placed
pub ArePlaced-push : {I : Type 0} (numbers more : List ℕ) (edges placed : List (Edge I)) (e : Edge I) (target : ℕ)
    → ((i n : ℕ) → slice_get numbers i ≡ Some n → slice_get more i ≡ Some n)
    → slice_get more target ≡ Some e.target → ArePlaced numbers edges placed
    → ArePlaced more (edges ++ e ∷ []) (placed ++ record { kind = e.kind; input = e.input; target = target } ∷ [])
ArePlaced-push numbers more edges placed e target stays at h = record {
  same =
      map-append (original_edge (slice_index more)) placed
      (record { kind = e.kind; input = e.input; target = target } ∷ [])
      ∙ ap₂ (λ l t. l ++ record { kind = e.kind; input = e.input; target = t } ∷ [])
      (same_originals numbers more stays placed h.inside ∙ h.same)
      (get_or_from_slice_get more target e.target 0 at);
  inside = λ i f is. elim (get_cases placed (record { kind = e.kind; input = e.input; target = target }) i f is) [
    | inl old ↦ still_within numbers more f.target stays (h.inside i f old)
    | inr new ↦ subst (λ t. t < length more) (ap (λ x. x.target) new.1) (slice_get_within more target e.target at)
  ];
}

-- the target of an edge is among those of the edges
pub target_of : {I : Type 0} (edges : List (Edge I)) (i : ℕ) (e : Edge I) → i < length edges → e ≡ get_or edges i e
    → Contains (map (λ f. f.target) edges) e.target
target_of edges i e below is = Contains-mapped (λ f. f.target) edges e (i, below, sym is)

-- the next edge is placed
pub next_placed : {I : Type 0} (numbers more : List ℕ) (edges placed most : List (Edge I)) (i : ℕ) (e : Edge I)
    (target : ℕ) → i < length edges → e ≡ get_or edges i e
    → ((at n : ℕ) → slice_get numbers at ≡ Some n → slice_get more at ≡ Some n) → slice_get more target ≡ Some e.target
    → most ≡ placed ++ record { kind = e.kind; input = e.input; target = target } ∷ []
    → ArePlaced numbers (take i edges) placed → ArePlaced more (take (i + 1) edges) most
next_placed numbers more edges placed most i e target below is stays at is_most h =
    subst (ArePlaced more (take (i + 1) edges)) (sym is_most)
    (subst (λ l. ArePlaced more l (placed ++ record { kind = e.kind; input = e.input; target = target } ∷ []))
    (ap (λ f. take i edges ++ f ∷ []) is ∙ sym (take_more edges i e below))
    (ArePlaced-push numbers more (take i edges) placed e target stays at h))
