-- A copy of all that a node reaches, as it grows by one finished node after the other.
use Rattle.std.proofs.Common.{◌≡◌, ℕ, ◌<◌, ◌≤◌, true, false, List, [], ◌∷◌, ◌++◌, map, length, Option, None, Some}
use Rattle.std.proofs.Common.{option_map, slice_get, slice_index, get_or, nat_eq, Contains, inl, inr, refl, sym, ◌∙◌}
use Rattle.std.proofs.Common.{ap, subst, arith, length-append}
use Rattle.std.specs.List.{IsDistinct}
use Rattle.std.specs.Option.{IsSome, IsSomeAnd, is_some}
use Rattle.std.proofs.lemmas.Map.Keys.{apart_from_distinct}
use Rattle.std.proofs.lemmas.Bool.{cases_lt, cases_order}
use Rattle.std.proofs.lemmas.Bool.Decides.{nat_tests}
use Rattle.std.proofs.lemmas.Option.{slice_get_cases, slice_get-map, slice_get-get_or}
use Rattle.std.proofs.lemmas.Option.{slice_get_within, get_or_from_slice_get}
use Rattle.list_lemmas.proofs.Lists.{get_cases}
use Rattle.list_lemmas.proofs.Members.{Contains-map}
use Rattle.graph_nodes.specs.Below.{Edge, Node, HasEdge, IsWalk, IsReached, original_edge, goal_node_of, goal_nodes_of}
use Rattle.graph_nodes.specs.Words.{CacheNode, finished_node, graph_node_of, graph_nodes_of, Finds, IsWhole}
use Rattle.graph_nodes.specs.Words.{original_node, Copies, ended_node}
use Rattle.search_context.proofs.Copies.{item_at, node_with_edge}
use Rattle.graph_nodes.proofs.Finished.{found_finished}
use Rattle.graph_nodes.proofs.FoundNodes.{only_number, same_number, still_within, same_originals}
use Rattle.search_context.proofs.Graphs.{HasEdge-from, IsReached-step}
use Rattle.search_context.proofs.Pigeonhole.{pigeonhole}

past_end : {A : Type 0} (xs : List A) (at : ℕ) → slice_get xs at ≡ None → length xs ≤ at
past_end xs at e = elim (slice_get_cases xs at).1 [ inl there ↦ absurd (let some = there.2 in cc) | inr past ↦ past.0 ]

place_in : {A : Type 0} (xs : List A) (x : A) → Contains xs x → (at : ℕ) × (slice_get xs at ≡ Some x)
place_in xs x (k, l, e) = (k, slice_get-get_or xs k x l ∙ ap Some e)

pub is_some_at : {A : Type 0} (o : Option A) (x : A) → o ≡ Some x → IsSome o
is_some_at o x e = ap is_some e

-- numbers of which no two are the same stand at one place each
pub one_place : (numbers : List ℕ) → IsDistinct nat_eq numbers → (at other : ℕ) → at < length numbers
    → other < length numbers → slice_index numbers at ≡ slice_index numbers other → at ≡ other
one_place numbers distinct at other l r same = elim (cases_order at other) [
  | inl e ↦ e
  | inr h ↦ absurd (elim h [
    | inl less ↦ let apart : nat_eq (get_or numbers at 0) (get_or numbers other 0) ≡ false =
        apart_from_distinct nat_eq numbers at other 0 distinct less r in grind (arith, nat_tests)
    | inr more ↦ let apart : nat_eq (get_or numbers other 0) (get_or numbers at 0) ≡ false =
        apart_from_distinct nat_eq numbers other at 0 distinct more l in grind (arith, nat_tests)
  ])
]

module _ {I R : Type 0} (nodes : List (CacheNode I R)) (root : ℕ) where
  -- Some of what the root reaches is copied, in the order of finding, and what it leads to is found.
  pub record IsBegun (copy : List (Node I R)) (numbers : List ℕ) : Type 0 where
    pub within : length copy ≤ length numbers
    pub rooted : slice_get numbers 0 ≡ Some root
    pub same : (at : ℕ) (n : Node I R) → slice_get copy at ≡ Some n
        → finished_node nodes (slice_index numbers at) ≡ Some (original_node (slice_index numbers) n)
    pub inside : (at : ℕ) (n : Node I R) → slice_get copy at ≡ Some n → (i : ℕ) (e : Edge I)
        → slice_get n.edges.items i ≡ Some e → e.target < length numbers
    pub reached : (at n : ℕ) → slice_get numbers at ≡ Some n → IsReached (graph_nodes_of nodes) root n

  only_root : (numbers : List ℕ) → Finds [] numbers (root ∷ []) → (at n : ℕ) → slice_get numbers at ≡ Some n → root ≡ n
  only_root numbers finds at n is =
      elim (finds.only at n is) [ inl none ↦ absurd cc | inr only ↦ only_number root n only ]

  -- the root is found
  pub root_begins : (numbers : List ℕ) (place : ℕ) → slice_get numbers place ≡ Some root
      → Finds [] numbers (root ∷ []) → IsBegun [] numbers
  root_begins numbers place is finds =
      let first =
      item_at numbers 0 (let h : place < length numbers = slice_get_within numbers place root is in omega arith) in
      record {
        within = omega arith;
        rooted = first.1 ∙ ap Some (sym (only_root numbers finds 0 first.0 first.1));
        same = λ at n h. absurd cc;
        inside = λ at n h i e there. absurd cc;
        reached = λ at n h. subst (IsReached (graph_nodes_of nodes) root) (only_root numbers finds at n h) ([], refl);
      }

  module _ (copy : List (Node I R)) (numbers : List ℕ) (begun : IsBegun copy numbers) where
    finished_there : (number : ℕ) (f : Node I R) → finished_node nodes number ≡ Some (ended_node f) → (e : Edge I)
        → Contains f.edges.items e → HasEdge (graph_nodes_of nodes) number e
    finished_there number f is e has =
        HasEdge-from (graph_nodes_of nodes) number (graph_node_of (ended_node f)) e
        (slice_get-map graph_node_of nodes number
        ∙ ap (option_map graph_node_of) (found_finished (slice_get nodes number) (ended_node f) is)) has

    module _ (number : ℕ) (queued : slice_get numbers (length copy) ≡ Some number)
        (f n : Node I R) (finished : finished_node nodes number ≡ Some (ended_node f)) (more : List ℕ)
        (finds : Finds numbers more (map (λ e. e.target) f.edges.items))
        (is_same : ended_node f ≡ original_node (slice_index more) n)
        (is_inside : (i : ℕ) (e : Edge I) → slice_get n.edges.items i ≡ Some e → e.target < length more) where
      still : (at : ℕ) (m : Node I R) → slice_get copy at ≡ Some m
          → original_node (slice_index more) m ≡ original_node (slice_index numbers) m
      still at m is =
          ap (λ edges. record {
            goal = m.input;
            run = Some (record { replies = m.replies.items; edges = edges; outcome = m.result });
            gone = false;
          })
          (same_originals numbers more finds.stays m.edges.items (begun.inside at m is))

      next_same : (at : ℕ) (m : Node I R) → slice_get (copy ++ n ∷ []) at ≡ Some m
          → finished_node nodes (slice_index more at) ≡ Some (original_node (slice_index more) m)
      next_same at m is = elim (get_cases copy n at m is) [
        | inl old ↦
            let below : at < length copy = slice_get_within copy at m old in
            let l : at < length numbers = (let w = begun.within in omega arith) in
            ap (finished_node nodes) (same_number numbers more at finds.stays l)
            ∙ (begun.same at m old ∙ ap Some (sym (still at m old)))
        | inr new ↦
            ap (finished_node nodes) (ap (slice_index more) new.0
            ∙ get_or_from_slice_get more (length copy) number 0 (finds.stays (length copy) number queued))
            ∙ (finished ∙ ap Some (is_same ∙ ap (original_node (slice_index more)) new.1))
      ]

      next_inside : (at : ℕ) (m : Node I R) → slice_get (copy ++ n ∷ []) at ≡ Some m → (i : ℕ) (e : Edge I)
          → slice_get m.edges.items i ≡ Some e → e.target < length more
      next_inside at m is i e there = elim (get_cases copy n at m is) [
        | inl old ↦ still_within numbers more e.target finds.stays (begun.inside at m old i e there)
        | inr new ↦ is_inside i e (ap (λ x. slice_get x.edges.items i) new.1 ∙ there)
      ]

      next_reached : (at v : ℕ) → slice_get more at ≡ Some v → IsReached (graph_nodes_of nodes) root v
      next_reached at v is = elim (finds.only at v is) [
        | inl old ↦ begun.reached at v old
        | inr new ↦
            let w = Contains-map (λ (e : Edge I). e.target) f.edges.items v new in
            subst (IsReached (graph_nodes_of nodes) root) w.2
            (IsReached-step (graph_nodes_of nodes) root number w.0 (begun.reached (length copy) number queued)
            (finished_there number f finished w.0 w.1))
      ]

      -- the next node is copied
      pub next_begun : IsBegun (copy ++ n ∷ []) more
      next_begun = record {
        within = let l : length copy < length more =
            slice_get_within more (length copy) number (finds.stays (length copy) number queued) in
            simp length-append (omega arith);
        rooted = finds.stays 0 root begun.rooted;
        same = next_same;
        inside = next_inside;
        reached = next_reached;
      }

    finished_within : (at : ℕ) (o : Option (CacheNode I R)) → slice_get nodes at ≡ o
        → IsSome (elim o [ None ↦ None | Some m ↦ elim m.run [ None ↦ None | Some run ↦ Some m ] ]) → at < length nodes
    finished_within at None is finished = absurd cc
    finished_within at (Some m) is finished = slice_get_within nodes at m is

    number_below : (number : ℕ) → slice_get numbers (length copy) ≡ Some number → IsSome (finished_node nodes number)
        → (i : ℕ) → i ≤ length copy → slice_index numbers i < length nodes
    number_below number queued finished i l = elim (cases_order i (length copy)) [
      | inl e ↦
          let is : slice_index numbers i ≡ number =
          ap (slice_index numbers) e ∙ get_or_from_slice_get numbers (length copy) number 0 queued in
          finished_within (slice_index numbers i) (slice_get nodes (slice_index numbers i)) refl
          (subst (λ v. IsSome (finished_node nodes v)) (sym is) finished)
      | inr h ↦ elim h [
        | inl less ↦
            let m = item_at copy i less in
            finished_within (slice_index numbers i) (slice_get nodes (slice_index numbers i)) refl
            (is_some_at (finished_node nodes (slice_index numbers i))
            (original_node (slice_index numbers) m.0) (begun.same i m.0 m.1))
        | inr more ↦ absurd (omega arith)
      ]
    ]

    -- Each of the copied nodes is another one, so there are fewer of them than nodes while one is left.
    pub fewer_copied : IsDistinct nat_eq numbers → (number : ℕ) → slice_get numbers (length copy) ≡ Some number
        → IsSome (finished_node nodes number) → length copy < length nodes
    fewer_copied distinct number queued finished = elim (cases_lt (length copy) (length nodes)) [
      | inl less ↦ less
      | inr most ↦
          let l : length copy < length numbers = slice_get_within numbers (length copy) number queued in
          let w = pigeonhole (length nodes) (slice_index numbers)
          (λ i h. number_below number queued finished i (omega arith)) in
          let same : w.0 ≡ w.1 =
          one_place numbers distinct w.0 w.1 (omega (arith, w.2, w.3)) (omega (arith, w.3)) w.4 in
          absurd (omega (arith, w.2))
    ]

    -- what the root reaches isn't finished
    pub not_whole : (number : ℕ) → slice_get numbers (length copy) ≡ Some number
        → finished_node nodes number ≡ None → IsWhole nodes root → ⊥
    not_whole number queued none whole =
        let some : IsSome (finished_node nodes number) = whole number (begun.reached (length copy) number queued) in
        let no : false ≡ true = sym (ap is_some none) ∙ some in absurd cc

    has_place : (at : ℕ) (e : Edge I) → HasEdge (goal_nodes_of copy) at e → e.target < length numbers
    has_place at e has =
        let n = node_with_edge copy at e has in
        let w = place_in n.0.edges.items e n.2 in
        begun.inside at n.0 n.1 w.0 e w.1

    -- all that is found is copied
    pub copies : slice_get numbers (length copy) ≡ None → IsDistinct nat_eq numbers → Copies nodes root copy numbers
    copies none distinct =
        let most : length numbers ≤ length copy = past_end numbers (length copy) none in
        let each : length numbers ≡ length copy = (let w = begun.within in omega arith) in
        record {
          each = each;
          rooted = begun.rooted;
          same = begun.same;
          inside = λ at e has. let l : e.target < length numbers = has_place at e has in omega arith;
          reached = λ at l. let k : at < length numbers = omega arith in
              begun.reached at (slice_index numbers at) (slice_get-get_or numbers at 0 k);
          once = λ at other l r same. one_place numbers distinct at other (omega arith) (omega arith) same;
        }

-- all that the root of a copy reaches is finished
module _ {I R : Type 0} (nodes : List (CacheNode I R)) (root : ℕ) (copy : List (Node I R)) (numbers : List ℕ)
    (c : Copies nodes root copy numbers) where
  -- the node is one of the copied
  abbrev IsCopied : ℕ → Type 0
  IsCopied at = (place : ℕ) × (place < length copy) × (slice_index numbers place ≡ at)

  -- what a copied node stands for
  pub original_there : (place : ℕ) (n : Node I R) → slice_get copy place ≡ Some n
      → slice_get nodes (slice_index numbers place) ≡ Some (original_node (slice_index numbers) n)
  original_there place n is = found_finished (slice_get nodes (slice_index numbers place))
      (original_node (slice_index numbers) n) (c.same place n is)

  next_copied : (place : ℕ) (e : Edge I) → place < length copy
      → HasEdge (graph_nodes_of nodes) (slice_index numbers place) e → IsCopied e.target
  next_copied place e l has =
      let n = item_at copy place l in
      let there : slice_get (graph_nodes_of nodes) (slice_index numbers place)
      ≡ Some (graph_node_of (original_node (slice_index numbers) n.0)) =
      slice_get-map graph_node_of nodes (slice_index numbers place)
      ∙ ap (option_map graph_node_of) (original_there place n.0 n.1) in
      let inner : Contains (map (original_edge (slice_index numbers)) n.0.edges.items) e =
      subst (λ o. IsSomeAnd o (λ m. Contains m.edges e)) there has in
      let w = Contains-map (original_edge (slice_index numbers)) n.0.edges.items e inner in
      let copied : HasEdge (goal_nodes_of copy) place w.0 =
      HasEdge-from (goal_nodes_of copy) place (goal_node_of n.0) w.0
      (slice_get-map goal_node_of copy place ∙ ap (option_map goal_node_of) n.1) w.1 in
      (w.0.target, c.inside place w.0 copied, ap (λ x. x.target) w.2)

  walk_copied : (from to : ℕ) (walk : List (Edge I)) → IsCopied from
      → IsWalk (graph_nodes_of nodes) from walk to → IsCopied to
  walk_copied from to [] h w = subst IsCopied w h
  walk_copied from to (e ∷ walk) h w =
      walk_copied e.target to walk
      (next_copied h.0 e h.1 (subst (λ x. HasEdge (graph_nodes_of nodes) x e) (sym h.2) w.0)) w.1

  pub copy_is_whole : IsWhole nodes root
  copy_is_whole at w =
      let h = walk_copied root at w.0 (
        0,
        omega (arith, c.each, slice_get_within numbers 0 root c.rooted),
        get_or_from_slice_get numbers 0 root 0 c.rooted,
      ) w.1 in
      let n = item_at copy h.0 h.1 in
      subst (λ x. IsSome (finished_node nodes x)) h.2 (is_some_at (finished_node nodes (slice_index numbers h.0))
      (original_node (slice_index numbers) n.0) (c.same h.0 n.0 n.1))
