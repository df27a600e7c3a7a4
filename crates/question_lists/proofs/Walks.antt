-- Recursion along a graph. Take kinds of walks that two such walks in a row have, too, and that no closed walk has.
-- Then no place comes twice along such walks; so what holds of a place wherever it holds of all places to which such
-- walks lead from there, holds of each.
use Rattle.std.proofs.Common.{◌≡◌, ℕ, zero, suc, ◌+◌, ◌<◌, ◌⊎◌, inl, inr, Bool, true, false, if◌then◌else◌, nat_lt}
use Rattle.std.proofs.Common.{List, [], ◌∷◌, ◌++◌, length, get_or, refl, sym, ap, ◌∙◌, subst, arith}
use Rattle.std.proofs.lemmas.Option.{slice_get_within}
use Rattle.path_kinds.specs.Path.{rank_of}
use Rattle.path_kinds.proofs.PathRanks.{each_kind, greater_rank, same_kind}
use Rattle.search_context.proofs.Pigeonhole.{pigeonhole}
use Rattle.question_lists.specs.Below.{Coinductive, Edge, GraphNode, HasEdge, Inductive, IsGraph, IsReached, IsWalk}
use Rattle.question_lists.specs.Below.{PathKind, Question, greater_kind, walk_kind}
use Rattle.question_lists.specs.Derivations.{IsNotCoinductive, IsNotInductive}
use Rattle.question_lists.proofs.Reached.{node_at}

greater-twice : (a b c : PathKind) → greater_kind (greater_kind a b) c ≡ greater_kind a (greater_kind b c)
greater-twice a b c =
    same_kind (greater_kind (greater_kind a b) c) (greater_kind a (greater_kind b c))
    (omega (
      arith,
      greater_rank a b,
      greater_rank (greater_kind a b) c,
      greater_rank b c,
      greater_rank a (greater_kind b c),
    ))

-- the greater of two kinds is one of them
greater-either : (k l : PathKind) → (greater_kind k l ≡ k) ⊎ (greater_kind k l ≡ l)
greater-either k l = by_test (nat_lt (rank_of k) (rank_of l))
  where
    by_test : (b : Bool) → ((if b then l else k) ≡ k) ⊎ ((if b then l else k) ≡ l)
    by_test true = inr refl
    by_test false = inl refl

pub is_not_inductive : (k : PathKind) → k ≡ Coinductive → IsNotInductive k
is_not_inductive k e f = cc

-- a walk with a step that is not inductive is not
pub not_inductive_later : (k l : PathKind) → IsNotInductive l → IsNotInductive (greater_kind k l)
not_inductive_later k l n e =
    let same : rank_of (greater_kind k l) ≡ 0 = ap rank_of e in
    n (same_kind l Inductive (omega (arith, greater_rank k l, same)))

pub both_not_inductive : (k l : PathKind) → IsNotInductive k → IsNotInductive l → IsNotInductive (greater_kind k l)
both_not_inductive k l m n = not_inductive_later k l n

-- two walks that are not coinductive are not so in a row, either
pub both_not_coinductive : (k l : PathKind) → IsNotCoinductive k → IsNotCoinductive l
    → IsNotCoinductive (greater_kind k l)
both_not_coinductive k l m n e = elim (greater-either k l) [ inl f ↦ m (sym f ∙ e) | inr f ↦ n (sym f ∙ e) ]

module _ {I : Type 0} where
  one-kind : (e : Edge I) → walk_kind (e ∷ []) ≡ e.kind
  one-kind e = each_kind (λ k. greater_kind k Inductive ≡ k) refl refl refl refl e.kind

  append-kind : (w v : List (Edge I)) → walk_kind (w ++ v) ≡ greater_kind (walk_kind w) (walk_kind v)
  append-kind [] v = sym (each_kind (λ k. greater_kind Inductive k ≡ k) refl refl refl refl (walk_kind v))
  append-kind (e ∷ w) v =
      ap (greater_kind e.kind) (append-kind w v) ∙ sym (greater-twice e.kind (walk_kind w) (walk_kind v))

module _ {I : Type 0} (nodes : List (GraphNode I)) where
  IsWalk-append : (from mid to : ℕ) (w v : List (Edge I)) → IsWalk nodes from w mid
      → IsWalk nodes mid v to → IsWalk nodes from (w ++ v) to
  IsWalk-append from mid to [] v h k = subst (λ x. IsWalk nodes x v to) (sym h) k
  IsWalk-append from mid to (e ∷ w) v h k = (h.0, IsWalk-append e.target mid to w v h.1 k)

  -- what is reached from a place that is reached is reached
  pub IsReached-after : (root at to : ℕ) (w : List (Edge I)) → IsReached nodes root at
      → IsWalk nodes at w to → IsReached nodes root to
  IsReached-after root at to w r h = (r.0 ++ w, IsWalk-append root at to r.0 w r.1 h)

  module _ (such : PathKind → Type 0) where
    -- a walk of such a kind, of one edge at least, leads from the first place to the second
    pub record LeadsTo (from to : ℕ) : Type 0 where
      pub first : Edge I
      pub rest : List (Edge I)
      pub is_walk : IsWalk nodes from (first ∷ rest) to
      pub is_such : such (walk_kind (first ∷ rest))

    pub leads_by : (at : ℕ) (e : Edge I) → HasEdge nodes at e → such e.kind → LeadsTo at e.target
    leads_by at e h s = record { first = e; rest = []; is_walk = (h, refl); is_such = subst such (sym (one-kind e)) s }

    -- a walk of any kind may come before, if no kind is against it
    pub leads_after : (later : (k l : PathKind) → such l → such (greater_kind k l)) (from mid to : ℕ)
        (w : List (Edge I)) → IsWalk nodes from w mid → LeadsTo mid to → LeadsTo from to
    leads_after later from mid to [] h v = subst (λ x. LeadsTo x to) (sym h) v
    leads_after later from mid to (e ∷ w) h v =
        let on = leads_after later e.target mid to w h.1 v in
        record {
          first = e;
          rest = on.first ∷ on.rest;
          is_walk = (h.0, on.is_walk);
          is_such = later e.kind (walk_kind (on.first ∷ on.rest)) on.is_such;
        }

    pub leads_on : (both : (k l : PathKind) → such k → such l → such (greater_kind k l)) (from mid to : ℕ)
        → LeadsTo from mid → LeadsTo mid to → LeadsTo from to
    leads_on both from mid to w v = record {
      first = w.first;
      rest = w.rest ++ v.first ∷ v.rest;
      is_walk = IsWalk-append from mid to (w.first ∷ w.rest) (v.first ∷ v.rest) w.is_walk v.is_walk;
      is_such =
          subst such (sym (append-kind (w.first ∷ w.rest) (v.first ∷ v.rest)))
          (both (walk_kind (w.first ∷ w.rest)) (walk_kind (v.first ∷ v.rest)) w.is_such v.is_such);
    }

module _ {I : Type 0} (rule : I → List (Question I) → Type 0) (kind : PathKind) (nodes : List (GraphNode I)) (root : ℕ)
    (goal : I) (graph : IsGraph rule kind nodes root goal)
    (such : PathKind → Type 0) where
  -- what is so of one closed walk is so of the kind of all
  pub closed_kind : (at : ℕ) → IsReached nodes root at → LeadsTo nodes such at at → such kind
  closed_kind at reached w = subst such (graph.cycles at w.first w.rest reached w.is_walk) w.is_such

  within : (at : ℕ) → IsReached nodes root at → at < length nodes
  within at r = let w = node_at rule kind nodes root goal graph at r in slice_get_within nodes at w.0 w.1

  module _ (both : (k l : PathKind) → such k → such l → such (greater_kind k l)) (apart : such kind → ⊥) where
    -- the places of a path, the last one first: each leads to those after it
    record IsPath (path : List ℕ) : Type 0 where
      are_reached : (i : ℕ) → i < length path → IsReached nodes root (get_or path i 0)
      lead : (i j : ℕ) → i < j → j < length path → LeadsTo nodes such (get_or path j 0) (get_or path i 0)

    path_of_one : (at : ℕ) → IsReached nodes root at → IsPath (at ∷ [])
    path_of_one at r = record { are_reached = only; lead = λ i j l m. absurd (omega arith) }
      where
        only : (i : ℕ) → i < length (at ∷ []) → IsReached nodes root (get_or (at ∷ []) i 0)
        only zero l = r
        only (suc i) l = absurd (omega arith)

    reached_with : (to : ℕ) (path : List ℕ) → IsReached nodes root to → IsPath path → (i : ℕ) → i < length (to ∷ path)
        → IsReached nodes root (get_or (to ∷ path) i 0)
    reached_with to path r p zero l = r
    reached_with to path r p (suc i) l = p.are_reached i (omega arith)

    lead_with : (at : ℕ) (above : List ℕ) (to : ℕ) → LeadsTo nodes such at to → IsPath (at ∷ above) →
        (i j : ℕ) → i < j → j < length (to ∷ at ∷ above) →
        LeadsTo nodes such (get_or (to ∷ at ∷ above) j 0) (get_or (to ∷ at ∷ above) i 0)
    lead_with at above to w p zero zero l m = absurd (omega arith)
    lead_with at above to w p zero (suc zero) l m = w
    lead_with at above to w p zero (suc (suc j)) l m =
        leads_on nodes such both (get_or above j 0) at to (p.lead 0 (suc j) (omega arith) (omega arith)) w
    lead_with at above to w p (suc i) zero l m = absurd (omega arith)
    lead_with at above to w p (suc i) (suc j) l m = p.lead i j (omega arith) (omega arith)

    longer : (at : ℕ) (above : List ℕ) (to : ℕ) → LeadsTo nodes such at to
        → IsPath (at ∷ above) → IsPath (to ∷ at ∷ above)
    longer at above to w p = record {
      are_reached = reached_with to (at ∷ above)
          (IsReached-after nodes root at to (w.first ∷ w.rest) (p.are_reached 0 (omega arith)) w.is_walk) p;
      lead = lead_with at above to w p;
    }

    never_long : (path : List ℕ) → IsPath path → length nodes < length path → ⊥
    never_long path p l =
        let w = pigeonhole (length nodes) (λ i. get_or path i 0)
        (λ i h. within (get_or path i 0) (p.are_reached i (omega arith))) in
        let m : w.1 < length path = let h = w.3 in omega arith in
        apart (closed_kind (get_or path w.1 0) (p.are_reached w.1 m)
        (subst (LeadsTo nodes such (get_or path w.1 0)) w.4 (p.lead w.0 w.1 w.2 m)))

    module _ (holds : ℕ → Type 0) (holds_by : (at : ℕ) → IsReached nodes root at
        → ((to : ℕ) → LeadsTo nodes such at to → holds to) → holds at) where
      holds_after : (fuel at : ℕ) (above : List ℕ) → length above + fuel ≡ length nodes → IsPath (at ∷ above) → holds at
      holds_after zero at above size p = absurd (never_long (at ∷ above) p (omega arith))
      holds_after (suc fuel) at above size p = holds_by at (p.are_reached 0 (omega arith))
          (λ to w. holds_after fuel to (at ∷ above) (omega arith) (longer at above to w p))

      -- it holds of each place that is reached
      pub holds_at : (at : ℕ) → IsReached nodes root at → holds at
      holds_at at r = holds_after (length nodes) at [] (omega arith) (path_of_one at r)
