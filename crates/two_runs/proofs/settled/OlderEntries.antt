-- Entries that are older than a goal, as other entries come and go, and as the goal goes on.
use Rattle.std.proofs.Common.{◌≡◌, ◌≢◌, ◌<◌, ◌≤◌, ℕ, zero, suc, Bool, Contains, IsSome, List, [], ◌∷◌, length, map}
use Rattle.std.proofs.Common.{None, Option, Some, slice_get, refl, sym, ap, ◌∙◌, subst, inl, inr, arith}
use Rattle.std.specs.Option.{IsSomeAnd}
use Rattle.std.proofs.lemmas.Bool.{cases_lt}
use Rattle.std.proofs.lemmas.List.Elements.{All-contains}
use Rattle.open_graphs.specs.Graph as theory
use Rattle.open_graphs.proofs.States.{verdict_cases}
use Rattle.open_graphs.specs.Stack.{IsLeaf}
use Rattle.open_graphs.proofs.Keep.{leaf_cases, leaf_left}
use Rattle.std.proofs.lemmas.Option.{slice_get_within}
use Rattle.list_lemmas.proofs.Lists.{get_end, mapped_some}
use Rattle.search_rules.proofs.entries.Ready.{is_below}
use Rattle.two_runs.specs.Below.{at_depth, CacheNode, entries_at, IsDefinite, IsNodeOf, IsRising, Lists, NodeId}
use Rattle.two_runs.specs.Below.{OpenGoal, ProvisionalCacheEntry, Reply, Request, shapes_of, stack_of, StackDepth}
use Rattle.two_runs.specs.Below.{Store, StoredResult, verdict_of, Verdicts}
use Rattle.search_rules.specs.EntryShapes.{entry_shape, HoldsOver}
use Rattle.search_rules.specs.Justified.{cycles_node, frame_of, frames_of, HaveTallies, OpenRun}
use Rattle.two_runs.specs.Older.{BeganBefore, HasEntry, HasNoOlder, IsStop}
use Rattle.two_runs.specs.Settled.{AreSettledGoals}
use Rattle.search_rules.specs.Provisional.{AreReady, IsHead, IsReady}
use Rattle.search_rules.specs.Runs.{run_of, runs_of}
use Rattle.lean_runs.proofs.Places.{place_among}

-- the entries with these nodes stay, and no other ones come
pub record StaySame {X I R A T : Type 0} (same : I → I → Bool) (Within : ℕ → Type 0)
    (old new : Lists I (ProvisionalCacheEntry X I R A T)) : Type 0 where
  pub stays : (goal : I) (entry : ProvisionalCacheEntry X I R A T) (node : ℕ) → HasEntry same old goal entry node
      → Within node → HasEntry same new goal entry node
  pub comes : (goal : I) (entry : ProvisionalCacheEntry X I R A T) (node : ℕ) → HasEntry same new goal entry node
      → Within node → HasEntry same old goal entry node

-- all of them are the same
pub all_stay : {X I R A T : Type 0} (same : I → I → Bool) (entries : Lists I (ProvisionalCacheEntry X I R A T))
    → StaySame same (λ node. Unit {0}) entries entries
all_stay same entries = record { stays = λ goal entry node has within. has; comes = λ goal entry node has within. has }

-- the second goal is the first one later, with its first node, and has its heads
pub record Follows {I R : Type 0} (o p : OpenRun I R) : Type 0 where
  pub goal_is : p.goal ≡ o.goal
  pub first_is : cycles_node p ≡ cycles_node o
  pub heads : (head : StackDepth) → IsSome (at_depth o.tally.heads head) → IsSome (at_depth p.tally.heads head)

pub follows_itself : {I R : Type 0} (o : OpenRun I R) → Follows o o
follows_itself o = record { goal_is = refl; first_is = refl; heads = λ head some. some }

module _ {X I R A T : Type 0} (same : I → I → Bool) (Within : ℕ → Type 0)
    (old new : Lists I (ProvisionalCacheEntry X I R A T)) (stay : StaySame same Within old new) (o p : OpenRun I R)
    (f : Follows o p) (within : (node : ℕ) → node < cycles_node o → Within node) where
  pub stop_kept : (node : ℕ) → IsStop same old o node → IsStop same new p node
  stop_kept node stop = record {
    goal = stop.goal;
    entry = stop.entry;
    has = stay.stays stop.goal stop.entry node stop.has (within node stop.older);
    older = subst (λ first. node < first) (sym f.first_is) stop.older;
    known = λ head some. f.heads head (stop.known head some);
  }

  pub no_older_kept : (goal : I) → HasNoOlder same old o goal → HasNoOlder same new p goal
  no_older_kept goal none entry node has =
      subst (λ first. first ≤ node) (sym f.first_is) (elim (cases_lt node (cycles_node o)) [
        | inl older ↦ none entry node (stay.comes goal entry node has (within node older))
        | inr later ↦ later
      ])

module _ {I R : Type 0} (says : Verdicts R) (o p : OpenRun I R) (f : Follows o p) (below : List (OpenRun I R)) where
  -- its node is a leaf still
  pub leaf_kept : (b : ℕ) → IsLeaf (stack_of (frames_of says (o ∷ below))) b
      → IsLeaf (stack_of (frames_of says (p ∷ below))) b
  leaf_kept b leaf = elim (leaf_cases (stack_of (frames_of says below)) (frame_of says o).entry b leaf) [
    | inl lower ↦ leaf_left (stack_of (frames_of says below)) (frame_of says p).entry b lower
    | inr here ↦ (
      length (stack_of (frames_of says below)),
      (frame_of says p).entry,
      get_end (stack_of (frames_of says below)) (frame_of says p).entry,
      f.first_is ∙ here,
    )
  ]

-- ---- what is known of an entry

-- it is definite, its node is one of its goal, and may be used over the goals under evaluation
pub record IsKnownEntry {X I R A T : Type 0} (says : Verdicts R) (nodes : List (CacheNode I R))
    (goals : List (OpenRun I R)) (goal : I) (entry : ProvisionalCacheEntry X I R A T) (node : ℕ) : Type 0 where
  pub definite : IsDefinite says entry.result
  pub home : IsNodeOf nodes node goal
  pub holds : HoldsOver (shapes_of says nodes) (stack_of (frames_of says goals)) (entry_shape says entry node)
  pub some : entry.heads ≢ []
  pub rising : IsRising entry.heads
  pub are_heads : (head : StackDepth) → IsSome (at_depth entry.heads head) → IsHead goals head

-- an entry has one node
pub same_node : (x y : ℕ) (o : Option NodeId) → o ≡ Some (record { 0 = x }) → o ≡ Some (record { 0 = y }) → x ≡ y
same_node x y o is also = ap (λ (node : Option NodeId). elim node [ None ↦ 0 | Some n ↦ n.0 ]) (sym is ∙ also)

no_node : (node : NodeId) (o : Option NodeId) → o ≡ Some node → o ≡ None → ⊥
no_node node o some none = cc

module _ {X I R A T : Type 0} (says : Verdicts R) (same : I → I → Bool) (scripts : I → List (Reply R) → Request I R)
    (nodes : List (CacheNode I R)) (goals : List (OpenRun I R)) (entries : Lists I (ProvisionalCacheEntry X I R A T))
    (ready : AreReady says same scripts nodes goals entries) where
  pub known_entry : (goal : I) (entry : ProvisionalCacheEntry X I R A T) (node : ℕ)
      → HasEntry same entries goal entry node → IsKnownEntry says nodes goals goal entry node
  known_entry goal entry node has =
      let r : IsReady says scripts nodes goals goal entry = All-contains (IsReady says scripts nodes goals goal)
      (entries_at same entries goal) entry (ready goal) has.there in
      elim (verdict_cases (verdict_of says entry.result) theory.Neither) [
        | inl neither ↦ absurd (no_node (record { 0 = node }) entry.node has.node_is (r.reusable.neither neither))
        | inr definite ↦
            let there = subst (λ (o : Option NodeId). IsSomeAnd o (λ n. IsNodeOf nodes n.0 goal
            × HoldsOver (shapes_of says nodes) (stack_of (frames_of says goals)) (entry_shape says entry n.0)))
            has.node_is (r.reusable.definite definite) in
            record {
              definite = definite;
              home = there.0;
              holds = there.1;
              some = r.some;
              rising = r.rising;
              are_heads = r.are_heads;
            }
      ]

-- where a goal has one entry at most, two of its entries are one
one_entry : {E : Type 0} (entries : List E) → length entries ≤ 1 → (x y : E) (i j : ℕ) → slice_get entries i ≡ Some x
    → slice_get entries j ≡ Some y → x ≡ y
one_entry [] one x y i j at there = absurd cc
one_entry (e ∷ []) one x y zero zero at there = cc
one_entry (e ∷ []) one x y zero (suc j) at there = absurd cc
one_entry (e ∷ []) one x y (suc i) j at there = absurd cc
one_entry (e ∷ f ∷ rest) one x y i j at there = absurd (omega (arith, one))

pub same_entry : {E : Type 0} (entries : List E) → length entries ≤ 1 → (x y : E)
    → Contains entries x → Contains entries y → x ≡ y
same_entry entries one x y has other = let at = place_among entries x has in let there = place_among entries y other in
    one_entry entries one x y at.0 there.0 at.1 there.1

-- a node of a goal is in the list
pub node_within : {I R : Type 0} (nodes : List (CacheNode I R)) (node : ℕ) (goal : I)
    → IsNodeOf nodes node goal → node < length nodes
node_within nodes node goal is =
    let there = mapped_some (λ n. n.goal) (slice_get nodes node) goal is in slice_get_within nodes node there.0 there.1

-- the heads of an entry are goals under evaluation
pub head_below : {X I R A T : Type 0} (says : Verdicts R) (nodes : List (CacheNode I R)) (goals : List (OpenRun I R))
    → HaveTallies goals → (goal : I) (entry : ProvisionalCacheEntry X I R A T) (node : ℕ)
    → IsKnownEntry says nodes goals goal entry node → (head : StackDepth)
    → IsSome (at_depth entry.heads head) → head.0 < length goals
head_below says nodes goals tallies goal entry node known head some =
    is_below goals tallies head (known.are_heads head some)

-- the goal has no entry
abbrev pub HasNone : {X I R A T : Type 0} → (I → I → Bool) → Lists I (ProvisionalCacheEntry X I R A T) → I → Type 0
HasNone same entries goal =
    (entry : ProvisionalCacheEntry _ _ _ _ _) → Contains (entries_at same entries goal) entry → ⊥

-- goals that began before a node did so, whatever the head is
pub began_before : {X F I R A T : Type 0} (says : Verdicts R) (same : I → I → Bool) (nodes : List (CacheNode I R))
    (results : Store I (StoredResult I R T)) (entries : Lists I (ProvisionalCacheEntry X I R A T)) (limit : ℕ)
    (goals : List (OpenGoal X F I R A T)) → AreSettledGoals says same nodes results entries (Some limit) goals
    → (node : ℕ) → limit ≤ node → (head : StackDepth) → BeganBefore (map cycles_node (runs_of goals)) head node
began_before says same nodes results entries limit [] h node within head = tt
began_before says same nodes results entries limit (s ∷ below) h node within head =
    let began = h.0.began in (
      (λ here. omega (arith, began, within)),
      began_before says same nodes results entries (cycles_node (run_of s)) below h.1
          node (omega (arith, began, within)) head,
    )
