-- Newer nodes are let go, none of which was forgotten: what is left of the nodes that are shown.
use Rattle.std.proofs.Common.{◌≡◌, ℕ, ◌+◌, ◌<◌, ◌≤◌, Bool, true, false, not, List, ◌++◌, map, length, Option, Some}
use Rattle.std.proofs.Common.{drop, take, slice_get, sym, ◌∙◌, ap, ap₂, subst}
use Rattle.std.proofs.lemmas.List.Elements.{filter-append}
use Rattle.graph_nodes.specs.Below.{NodeId}
use Rattle.graph_nodes.specs.Words.{AreHeld, AreLive, AreMarked, CacheNode, Collected, Held, is_forgotten, IsSplit}
use Rattle.graph_nodes.specs.Words.{kept, nodes_of, shown, StayBefore}
use Rattle.graph_nodes.proofs.Filters.{filter_all, filter_from}
use Rattle.graph_nodes.proofs.LetGo.{are_collected, as_many, before_first, behind_first, earlier_stay, kept_from}
use Rattle.graph_nodes.proofs.LetGo.{later_is, whole}
use Rattle.graph_nodes.proofs.ShownNodes.{shown_are_held}

module _ {I R : Type 0} (same : I → I → Bool) (goals : List (I × ℕ)) (held : List (Held I R)) (first place : ℕ)
    (split : IsSplit held first place)
    (later : (i : ℕ) (h : Held I R) → slice_get held i ≡ Some h → first ≤ h.number → is_forgotten same goals h ≡ false)
    (first_goal : Option I) (next : ℕ) (nodes : List (CacheNode I R)) (are : AreHeld first_goal held next)
    (view : nodes_of first_goal (shown same goals held) next ≡ nodes)
    (roots : List NodeId) (marked : List Bool) (m : AreMarked (drop place held) (map (λ r. r.0) roots) marked)
    (left : List (Held I R)) (left_is : left ≡ take place held ++ kept marked (drop place held)) where
  front : List (Held I R)
  front = shown same goals (take place held)

  behind_is_shown : (i : ℕ) (h : Held I R) → slice_get (drop place held) i ≡ Some h
      → not (is_forgotten same goals h) ≡ true
  behind_is_shown i h is =
      ap not (later (length (take place held) + i) h (later_is held first place split i h is)
      (behind_first held first place split i h is))

  whole_is : shown same goals held ≡ front ++ drop place held
  unfolding front
  whole_is =
      ap (shown same goals) (sym (whole held first place split))
      ∙ filter-append (λ h. not (is_forgotten same goals h)) (take place held) (drop place held)
      ∙ ap (λ l. shown same goals (take place held) ++ l)
      (filter_all (λ h. not (is_forgotten same goals h)) (drop place held) behind_is_shown)

  left_shown : shown same goals left ≡ front ++ kept marked (drop place held)
  unfolding front
  left_shown =
      ap (shown same goals) left_is
      ∙ filter-append (λ h. not (is_forgotten same goals h)) (take place held) (kept marked (drop place held))
      ∙ ap (λ l. shown same goals (take place held) ++ l)
      (filter_all (λ h. not (is_forgotten same goals h)) (kept marked (drop place held))
      (λ i h is. let w = kept_from marked (drop place held) i h is in behind_is_shown w.0 h w.1))

  parts_are : AreHeld first_goal (front ++ drop place held) next
  parts_are = subst (λ l. AreHeld first_goal l next) whole_is (shown_are_held same goals first_goal held next are)

  parts_view : nodes_of first_goal (front ++ drop place held) next ≡ nodes
  parts_view = ap (λ l. nodes_of first_goal l next) (sym whole_is) ∙ view

  left_view : nodes_of first_goal (shown same goals left) next
      ≡ nodes_of first_goal (front ++ kept marked (drop place held)) next
  left_view = ap (λ l. nodes_of first_goal l next) left_shown

  front_before : (i : ℕ) (h : Held I R) → slice_get front i ≡ Some h → h.number < first
  unfolding front
  front_before i h is =
      let w = filter_from (λ k. not (is_forgotten same goals k)) (take place held) i h is in
      before_first held first place split w.0 h w.1

  pub shown_stay : (at : ℕ) → at < first
      → slice_get (nodes_of first_goal (shown same goals left) next) at ≡ slice_get nodes at
  shown_stay at lt =
      ap (λ l. slice_get l at) left_view
      ∙ (earlier_stay first_goal front (drop place held) next parts_are first front_before
      (behind_first held first place split) roots marked m at lt
      ∙ ap (λ l. slice_get l at) parts_view)

  pub shown_are_as_many : length (nodes_of first_goal (shown same goals left) next) ≡ length nodes
  shown_are_as_many =
      ap length left_view
      ∙ (as_many first_goal front (drop place held) next parts_are first front_before
      (behind_first held first place split) roots marked m
      ∙ ap length parts_view)

  pub shown_are_collected : StayBefore first nodes → (alive : ℕ → Bool) × AreLive nodes first roots alive
      × Collected alive nodes (nodes_of first_goal (shown same goals left) next)
  shown_are_collected stay =
      subst (λ old. (alive : ℕ → Bool) × AreLive old first roots alive
      × Collected alive old (nodes_of first_goal (shown same goals left) next)) parts_view
      (subst (λ new. (alive : ℕ → Bool)
      × AreLive (nodes_of first_goal (front ++ drop place held) next) first roots alive
      × Collected alive (nodes_of first_goal (front ++ drop place held) next) new) (sym left_view)
      (are_collected first_goal front (drop place held) next parts_are first front_before
      (behind_first held first place split) roots marked m
      (subst (StayBefore first) (sym parts_view) stay)))
