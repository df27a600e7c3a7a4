-- A provisional entry stays right through each move of the goals, and answers the newest goal's question.
use Rattle.std.proofs.Common.{◌≡◌, ℕ, ◌<◌, true, List, [], ◌∷◌, ◌++◌, length, slice_get, Option, Some, refl, sym, subst}
use Rattle.std.specs.Option.{IsSomeAnd, option_or}
use Rattle.search_rules.specs.Below.{path_kind, HeadsWithin, UsesNo, ProvisionalEntry, stack_of, AfterPop, IsLeft}
use Rattle.search_rules.specs.Below.{Survives, Added, TakesIn, PathKind, heads_shape, rank_of, NodeId, CacheNode}
use Rattle.search_rules.specs.Below.{HasNode, ProvisionalCacheEntry, open_node, IsNodeOf, IsDefinite, verdict_of}
use Rattle.search_rules.specs.Below.{shapes_of, Verdicts}
use Rattle.open_graphs.proofs.Asked.{stored_is_answered}
use Rattle.graph_nodes.proofs.Definites.{HasNode-kept, IsSomeAnd-weaker}
use Rattle.graph_nodes.proofs.NodeLists.{KeepsGoals-appended}
use Rattle.search_rules.specs.Words.{OpenRun, frame_of, frames_of, AreJustified, MayAnswer, asked_now, entry_shape}
use Rattle.search_rules.specs.Words.{highest_depth, HoldsOver, IsReusable, heads_of}
use Rattle.search_rules.proofs.answers.Moves.{alone, nothing, popped_hold, rerun_hold}
use Rattle.search_rules.proofs.justified.Justified.{new_run, tally_again, EndsWithNode, used_at}
use Rattle.search_rules.proofs.answers.Kept.{KeepsUses}

module _ {X I R A T : Type 0} (says : Verdicts R) where
  -- an entry may be used by this node
  abbrev HoldsAt : List (CacheNode I R) → List (OpenRun I R) → ProvisionalCacheEntry X I R A T → ℕ → Type 0
  HoldsAt nodes goals entry n =
      HoldsOver (shapes_of says nodes) (stack_of (frames_of says goals)) (entry_shape says entry n)

  -- a move keeps all answers
  pub reusable_kept : (nodes after : List (CacheNode I R)) (goals later : List (OpenRun I R))
      → KeepsUses says nodes after goals later → (goal : I) (entry : ProvisionalCacheEntry X I R A T)
      → IsReusable says nodes goals goal entry → IsReusable says after later goal entry
  reusable_kept nodes after goals later keeps goal entry =
      HasNode-kept says nodes after (λ verdict n. HoldsAt nodes goals entry n)
      (λ verdict n. HoldsAt after later entry n) goal entry.result entry.node
      (λ definite n of_goal holds. (
        keeps.goals_kept n goal of_goal,
        (keeps.hold (entry_shape says entry n ∷ []) [] (
          alone (HoldsOver (shapes_of says nodes) (stack_of (frames_of says goals))) (entry_shape says entry n) holds,
          nothing _,
        )).0 0 (entry_shape says entry n) refl,
      ))

  -- An entry answers the newest goal's question, where the path kind from its highest head is the one on record, and
  -- that goal takes its heads over.
  pub reusable_answers : (nodes : List (CacheNode I R)) (o : OpenRun I R) (below : List (OpenRun I R)) (goal : I)
      (entry : ProvisionalCacheEntry X I R A T) (kind : PathKind)
      → path_kind (stack_of (frames_of says (o ∷ below))) (rank_of kind) (highest_depth entry.heads)
      ≡ rank_of entry.path_from_head → TakesIn (length (stack_of (frames_of says below))) (rank_of kind)
      (heads_shape entry.heads) (heads_of o.tally (asked_now o))
      → IsReusable says nodes (o ∷ below) goal entry → IsDefinite says entry.result
      → IsSomeAnd entry.node (λ n. MayAnswer says nodes o below (verdict_of says entry.result) kind goal n.0)
  reusable_answers nodes o below goal entry kind path takes h definite =
      IsSomeAnd-weaker (λ n. IsNodeOf nodes n.0 goal × HoldsAt nodes (o ∷ below) entry n.0)
      (λ n. MayAnswer says nodes o below (verdict_of says entry.result) kind goal n.0)
      (λ n used. record {
        of_goal = used.0;
        answered =
            stored_is_answered (shapes_of says nodes) (verdict_of says entry.result) (stack_of (frames_of says below))
            (frame_of says o).entry (rank_of kind) (highest_depth entry.heads) (rank_of entry.path_from_head) n.0
            (heads_shape entry.heads) (heads_of o.tally (asked_now o)) path used.1 takes;
      })
      entry.node (h.definite definite)

-- ---- the newest goal's run has ended

module _ {I R : Type 0} (says : Verdicts R) (nodes after : List (CacheNode I R)) (o : OpenRun I R)
    (below : List (OpenRun I R)) (h : AreJustified says nodes (o ∷ below)) (r : R) (target : Option NodeId)
    (s : EndsWithNode says nodes after o below r target) where
  -- what may be used before, and what is left of it then
  abbrev Before : ProvisionalEntry → Type 0
  Before = HoldsOver (shapes_of says nodes) (stack_of (frames_of says (o ∷ below)))

  abbrev Left : List ProvisionalEntry → ProvisionalEntry → Type 0
  Left = IsLeft (stack_of (frames_of says below)) (frame_of says o).entry
      (verdict_of says r) s.place (heads_shape o.tally.heads)

  module _ {X A T : Type 0} where
    -- The goal is popped: an entry may be used that the theory leaves of one with the same result.
    pub reusable_popped : (goal : I) (entry later : ProvisionalCacheEntry X I R A T)
        → later.result ≡ entry.result → later.node ≡ entry.node
        → (IsDefinite says later.result → (n : ℕ) → AfterPop (stack_of (frames_of says below)) (frame_of says o).entry
        (verdict_of says r) (heads_shape o.tally.heads) (entry_shape says entry n) (entry_shape says later n))
        → IsReusable says nodes (o ∷ below) goal entry → IsReusable says after below goal later
    reusable_popped goal entry later same_result same_node leaves reusable =
        HasNode-kept says nodes after (λ verdict n. Before (entry_shape says entry n))
        (λ verdict n. HoldsAt says after below later n) goal later.result later.node
        (λ definite n of_goal holds.
        let was = entry_shape says entry n in
        let is = entry_shape says later n in (
          s.goals_kept n goal of_goal,
          (popped_hold says nodes after o below h r target s (was ∷ []) (is ∷ []) []
              (alone (Left (was ∷ [])) is (Survives 0 refl (leaves definite n)))
              (alone Before was holds, nothing _)).0 0 is refl,
        ))
        (subst (λ found. HasNode says nodes (λ verdict n. Before (entry_shape says entry n)) goal found later.node)
        (sym same_result)
        (subst (λ node. HasNode says nodes (λ verdict n. Before (entry_shape says entry n)) goal entry.result node)
        (sym same_node) reusable))

    -- Its own answer may be used, where it rests on a goal below.
    pub reusable_added : (entry : ProvisionalCacheEntry X I R A T) → rank_of entry.path_from_head
        ≡ path_kind (stack_of (frames_of says below)) (rank_of o.step) (highest_depth o.tally.heads)
        → highest_depth o.tally.heads < length (stack_of (frames_of says below))
        → HeadsWithin (heads_shape o.tally.heads) (highest_depth o.tally.heads)
        → IsReusable says after below o.goal (record entry { heads = o.tally.heads; result = r; node = target })
    reusable_added entry path_is lower within = record {
      definite = λ definite. used_at says nodes after o below h r target s target definite (s.definite definite)
          (λ n. IsNodeOf after n o.goal × HoldsOver (shapes_of says after) (stack_of (frames_of says below)) (own n))
          (λ of_goal. (
            of_goal,
            (popped_hold says nodes after o below h r target s [] (own s.place ∷ []) []
                (alone (Left []) (own s.place)
                (subst (λ path. Left [] (record (own s.place) { path = path })) (sym path_is)
                (Added (highest_depth o.tally.heads) definite lower within)))
                (nothing _, nothing _)).0 0 (own s.place) refl,
          ));
      neither = λ neither. (s.neither neither).0;
    }
      where
        own : ℕ → ProvisionalEntry
        own = entry_shape says (record entry { heads = o.tally.heads; result = r; node = target })

    -- The goal is run again: an entry may be used that records no usage of it.
    pub reusable_rerun : (own : NodeId) → own.0 ≡ length after → (goal : I) (entry : ProvisionalCacheEntry X I R A T)
        → UsesNo (heads_shape entry.heads) (length (stack_of (frames_of says below)))
        → IsReusable says nodes (o ∷ below) goal entry → IsReusable says (after ++ open_node o.goal ∷ [])
        (new_run o.goal o.step own (option_or target o.cycles_lead) (Some r) (tally_again o.tally) ∷ below) goal entry
    reusable_rerun own at goal entry unused =
        HasNode-kept says nodes (after ++ open_node o.goal ∷ []) (λ verdict n. Before (entry_shape says entry n))
        (λ verdict n. HoldsAt says (after ++ open_node o.goal ∷ [])
        (new_run o.goal o.step own (option_or target o.cycles_lead) (Some r) (tally_again o.tally) ∷ below) entry n)
        goal entry.result entry.node
        (λ definite n of_goal holds.
        let one = entry_shape says entry n in (
          KeepsGoals-appended true after o.goal n goal (s.goals_kept n goal of_goal),
          (rerun_hold says nodes after o below h r target s own at (one ∷ []) (one ∷ []) []
              (alone (λ x. (j : ℕ) × (slice_get (one ∷ []) j ≡ Some x)
              × UsesNo x.heads (length (stack_of (frames_of says below)))) one (0, refl, unused))
              (alone Before one holds, nothing _)).0 0 one refl,
        ))
