-- What holds between two moves holds still when nodes are let go.
use Rattle.std.proofs.Common.{◌≡◌, ℕ, ◌<◌, All, arith, Bool, Contains, inl, inr, List, [], ◌∷◌, ◌⊎◌, None, Option}
use Rattle.std.proofs.Common.{option_map, refl, slice_get, Some, subst, sym, true, ap, ◌∙◌}
use Rattle.std.specs.Prelude.{Err, IsTrue, Ok, OnErr, OnOk, Result}
use Rattle.std.specs.Option.{IfSome, IsSomeAnd}
use Rattle.std.proofs.lemmas.List.Elements.{All-contains, All-contains_itself, All-head, All-tail, All-weaker}
use Rattle.std.proofs.lemmas.Option.{get_or_from_slice_get, slice_get-map, slice_get_within}
use Rattle.open_goals.specs.Nodes.{HasNodes}
use Rattle.graph_nodes.specs.Nodes.{graph_node_of}
use Rattle.graph_nodes.specs.Collected.{AreLive, Collected}
use Rattle.global_cache.specs.Rooted.{AreRooted}
use Rattle.search_context.specs.Graph.{IsWalk}
use Rattle.search_context.specs.declared.context.Edge.{Edge}
use Rattle.search_state.proofs.nodes.Noting.{noted_cases, still_noted, target_is_noted}
use Rattle.search_questions.specs.Below.{AreFree, Cache, CacheNode, CxOf, DelegateOf, entries_at, graph_nodes_of}
use Rattle.search_questions.specs.Below.{HasEdge, HasGraph, IsReached, NodeId, ProvisionalCacheEntry, Received, run_of}
use Rattle.search_questions.specs.Below.{runs_of, Store, OpenGoal, StoredResult, verdicts, AreNotedNodes, noted}
use Rattle.search_questions.specs.Below.{IsRight, IsRightFor}
use Rattle.search_questions.specs.Collecting.{HasRoots, LetsGo, LetsGoAtEnd}
use Rattle.search_state.specs.declared.evaluation.Evaluation.{Evaluation}
use Rattle.search_rules.specs.Live.{AreLiveResults, AreLiveRuns, IsLiveNode, IsLiveRun}
use Rattle.search_rules.proofs.collecting.Kept.{fit_stays, free_stay, graph_stays, justified_stay, ready_stay}
use Rattle.between_moves.proofs.LiveRoots.{live_root}

-- roots that are there stay so with more
module _ (roots more : List NodeId) (among : (n : NodeId) → Contains roots n → Contains more n) where
  still_root : (node : Option NodeId) → IfSome node (Contains roots) → IfSome node (Contains more)
  still_root None h = tt
  still_root (Some n) h = among n h

  pub has_more : {X F I R A T : Type 0} (goals : List (OpenGoal X F I R A T))
      → All (HasNodes roots) goals → All (HasNodes more) goals
  has_more goals has =
      All-weaker (HasNodes roots) (HasNodes more)
      (λ s nodes. record {
        own = among s.1.node nodes.own;
        cycles = still_root s.0.state.node nodes.cycles;
        answers = All-weaker (λ a. Contains roots (record { 0 = a.edge.target }))
            (λ a. Contains more (record { 0 = a.edge.target }))
            (λ a there. among (record { 0 = a.edge.target }) there) s.1.progress.answers nodes.answers;
      }) goals has

  pub entries_more : {X I R A T : Type 0} (entries : List (ProvisionalCacheEntry X I R A T))
      → All (λ entry. IfSome entry.node (Contains roots)) entries
      → All (λ entry. IfSome entry.node (Contains more)) entries
  entries_more entries has = All-weaker (λ entry. IfSome entry.node (Contains roots))
      (λ entry. IfSome entry.node (Contains more)) (λ entry there. still_root entry.node there) entries has

-- ---- what is live

module _ (live : ℕ → Bool) where
  module _ {X F I R A T : Type 0} (roots : List NodeId)
      (are : (n : NodeId) → Contains roots n → IsTrue (live n.0)) where
    live_run : (s : OpenGoal X F I R A T) → HasNodes roots s → IsLiveRun live (run_of s)
    live_run s has = record {
      own = are s.1.node has.own;
      cycles = live_root live roots are s.0.state.node has.cycles;
      answers = λ i a at. are (record { 0 = a.edge.target })
          (All-contains (λ a. Contains roots (record { 0 = a.edge.target })) s.1.progress.answers a has.answers
          (i, slice_get_within s.1.progress.answers i a at, get_or_from_slice_get s.1.progress.answers i a a at));
    }

    live_runs : (goals : List (OpenGoal X F I R A T)) → All (HasNodes roots) goals → AreLiveRuns live (runs_of goals)
    live_runs [] has = tt
    live_runs (s ∷ below) has =
        (live_run s (All-head (HasNodes roots) s below has), live_runs below (All-tail (HasNodes roots) s below has))

  module _ {I R T : Type 0} (roots : List NodeId) (are : (n : NodeId) → Contains roots n → IsTrue (live n.0)) where
    live_list : {X A : Type 0} (entries : List (ProvisionalCacheEntry X I R A T))
        → All (λ entry. IfSome entry.node (Contains roots)) entries → All (λ entry. IsLiveNode live entry.node) entries
    live_list entries has = All-weaker (λ entry. IfSome entry.node (Contains roots))
        (λ entry. IsLiveNode live entry.node) (λ entry is. live_root live roots are entry.node is) entries has

    live_results : (same : I → I → Bool) (first : ℕ) → ((at : ℕ) → at < first → IsTrue (live at))
        → (results : Store I (StoredResult I R T))
        → AreRooted same first roots results → AreLiveResults live same results
    live_results same first earlier results rooted goal place s at = at_node s.node (rooted goal place s at)
      where
        at_node : (node : Option NodeId) → IfSome node (λ n. (n.0 < first) ⊎ Contains roots n) → IsLiveNode live node
        at_node None h = tt
        at_node (Some n) h = elim h [ inl lower ↦ earlier n.0 lower | inr root ↦ are n root ]

-- ---- walks between nodes that stay

module _ {I R : Type 0} (live : ℕ → Bool) (old new : List (CacheNode I R)) (collected : Collected live old new) where
  edge_still : (at : ℕ) (e : Edge I) → IsTrue (live at)
      → HasEdge (graph_nodes_of old) at e → HasEdge (graph_nodes_of new) at e
  edge_still at e is h =
      subst (λ o. IsSomeAnd o (λ m. Contains m.edges e))
      (slice_get-map graph_node_of old at
      ∙ (ap (option_map graph_node_of) (sym (collected.same at is)) ∙ sym (slice_get-map graph_node_of new at))) h

  walk_still : (from to : ℕ) (walk : List (Edge I)) → IsTrue (live from) → IsWalk (graph_nodes_of old) from walk to
      → IsWalk (graph_nodes_of new) from walk to
  walk_still from to [] is w = w
  walk_still from to (e ∷ rest) is w =
      (edge_still from e is w.0, walk_still e.target to rest (collected.closed from e is w.0) w.1)

  pub walks_still : (from to : ℕ) → IsTrue (live from) → IsReached (graph_nodes_of old) from to
      → IsReached (graph_nodes_of new) from to
  walks_still from to is w = (w.0, walk_still from to w.0 is w.1)

-- ---- where nothing is let go

module _ {D C V P F I R A T : Type 0} (same : I → I → Bool)
    (e : Evaluation D C V P F I R A T) (target : Option NodeId) where
  every : ℕ → Bool
  every at = true

  every_node : (node : Option NodeId) → IsLiveNode every node
  unfolding every
  every_node None = tt
  every_node (Some n) = refl

  every_run : (goals : List (OpenGoal C F I R A T)) → AreLiveRuns every (runs_of goals)
  unfolding every
  every_run [] = tt
  every_run (s ∷ below) =
      (record { own = refl; cycles = every_node s.0.state.node; answers = λ i a at. refl }, every_run below)

  every_list : (entries : List (ProvisionalCacheEntry C I R A T)) → All (λ entry. IsLiveNode every entry.node) entries
  every_list entries = All-weaker (Contains entries) (λ entry. IsLiveNode every entry.node)
      (λ entry has. every_node entry.node) entries (All-contains_itself entries)

  pub nothing_goes : (old new : Cache C I R T) → new ≡ old → LetsGo same e target old new
  unfolding every
  nothing_goes old new is = record {
    live = every;
    collected = record {
      same = λ at live. ap (λ cache. slice_get cache.nodes at) is;
      closed = λ at edge live h. refl;
      left = λ at h. refl;
    };
    goals = every_run e.goals;
    entries = λ goal. every_list (entries_at same e.provisional goal);
    results = λ goal place s at. every_node s.node;
    noted_are = λ node has. refl;
    reply = every_node target;
    earlier = λ at lower. ap (λ cache. slice_get cache.nodes at) is;
    rest = is ∙ ap (λ nodes. record old { nodes = nodes }) (sym (ap (λ cache. cache.nodes) is));
  }

  -- ---- what the collecting of roots leaves

  -- the node of a reply is one more root
  pub with_target : (roots : List NodeId) → HasRoots same e None roots → HasRoots same e target (noted target roots)
  with_target roots has = record {
    noted_are = λ n is. elim (noted_cases target e.drafts.stored.items n is) [
      | inl answer ↦ subst (λ o. IfSome o (Contains (noted target roots))) answer
          (target_is_noted target roots (noted target roots) (λ m there. there))
      | inr stored ↦ still_noted target roots n (has.noted_are n stored)
    ];
    goals = has_more roots (noted target roots) (still_noted target roots) e.goals has.goals;
    entries = λ goal. entries_more roots (noted target roots) (still_noted target roots)
        (entries_at same e.provisional goal) (has.entries goal);
  }

  module _ (old : Cache C I R T) (roots : List NodeId) (noted_are : AreNotedNodes same old e.drafts) where
    pub rooted_among : ((n : NodeId) → Contains (noted target e.drafts.stored.items) n → Contains roots n)
        → AreRooted same e.drafts.first roots old.results
    rooted_among among goal place s at = at_node s.node (noted_are goal place s at)
      where
        at_node : (node : Option NodeId) → IfSome node (λ n. (n.0 < e.drafts.first) ⊎ Contains e.drafts.stored.items n)
            → IfSome node (λ n. (n.0 < e.drafts.first) ⊎ Contains roots n)
        at_node None h = tt
        at_node (Some n) h = elim h [
          | inl lower ↦ inl lower
          | inr root ↦ inr (among n (still_noted target e.drafts.stored.items n root))
        ]

  module _ (old new : Cache C I R T) (roots : List NodeId) (is : new ≡ record old { nodes = new.nodes })
      (earlier : (at : ℕ) → at < e.drafts.first → slice_get new.nodes at ≡ slice_get old.nodes at)
      (noted_are : AreNotedNodes same old e.drafts) (live : ℕ → Bool)
      (are : AreLive old.nodes e.drafts.first roots live) (collected : Collected live old.nodes new.nodes) where
    goes_for_roots : HasRoots same e target roots → LetsGo same e target old new
    goes_for_roots has = record {
      live = live;
      collected = collected;
      goals = live_runs live roots are.rooted e.goals has.goals;
      entries = λ goal. live_list live roots are.rooted (entries_at same e.provisional goal) (has.entries goal);
      results = live_results live roots are.rooted same e.drafts.first are.earlier old.results
          (rooted_among old roots noted_are has.noted_are);
      noted_are = λ n there. are.rooted n (has.noted_are n (still_noted target e.drafts.stored.items n there));
      reply = live_root live roots are.rooted target (target_is_noted target e.drafts.stored.items roots has.noted_are);
      earlier = earlier;
      rest = is;
    }

    goes_at_end : roots ≡ noted target e.drafts.stored.items → LetsGoAtEnd same e target old new
    goes_at_end exactly =
        let among : (n : NodeId) → Contains (noted target e.drafts.stored.items) n → Contains roots n =
        λ n has. subst (λ l. Contains l n) (sym exactly) has in
        record {
          live = live;
          collected = collected;
          results = live_results live roots are.rooted same e.drafts.first are.earlier old.results
              (rooted_among old roots noted_are among);
          noted_are = λ n there. are.rooted n (among n (still_noted target e.drafts.stored.items n there));
          answer = live_root live roots are.rooted target (target_is_noted target e.drafts.stored.items roots among);
          earlier = earlier;
          rest = is;
          leaves = λ at late left. elim (are.reached at (collected.left at left)) [
            | inl lower ↦ absurd (omega arith)
            | inr from ↦ (
              from.0,
              root_is from.0 from.1,
              walks_still live old.nodes new.nodes collected from.0.0 at (are.rooted from.0 from.1) from.2,
            )
          ];
        }
      where
        root_is : (root : NodeId) → Contains roots root → (target ≡ Some root) ⊎ Contains e.drafts.stored.items root
        root_is root has = noted_cases target e.drafts.stored.items root (subst (λ l. Contains l root) exactly has)

  -- whether there was memory or not
  module _ (old new : Cache C I R T) (roots : List NodeId) (noted_are : AreNotedNodes same old e.drafts)
      (is : new ≡ record old { nodes = new.nodes })
      (earlier : (at : ℕ) → at < e.drafts.first → slice_get new.nodes at ≡ slice_get old.nodes at) where
    pub goes_either : {E : Type 0} (result : Result (Unit {0}) E) → OnOk result
        ((live : ℕ → Bool) × AreLive old.nodes e.drafts.first roots live × Collected live old.nodes new.nodes)
        → OnErr result (new ≡ old) → HasRoots same e target roots → LetsGo same e target old new
    goes_either (Ok u) ok err has = goes_for_roots old new roots is earlier noted_are ok.0 ok.1 ok.2 has
    goes_either (Err fault) ok err has = nothing_goes old new err

    pub goes_at_end_if : {E : Type 0} (result : Result (Unit {0}) E) → OnOk result
        ((live : ℕ → Bool) × AreLive old.nodes e.drafts.first roots live × Collected live old.nodes new.nodes)
        → roots ≡ noted target e.drafts.stored.items → OnOk result (LetsGoAtEnd same e target old new)
    goes_at_end_if (Ok u) ok exactly = goes_at_end old new roots is earlier noted_are ok.0 ok.1 ok.2 exactly
    goes_at_end_if (Err fault) ok exactly = tt

-- the same once the goals and the entries were let go
pub gives_up :
    {D C V P F I R A T E : Type 0} (same : I → I → Bool) (e after : Evaluation D C V P F I R A T)
    (target : Option NodeId) (old new : Cache C I R T) (result : Result (Unit {0}) E)
    → after ≡ record e { goals = []; scopes = []; provisional = [] }
    → OnOk result (LetsGoAtEnd same after target old new) → OnOk result (LetsGoAtEnd same e target old new)
gives_up same e after target old new (Err fault) is h = tt
gives_up same e after target old new (Ok u) is h =
    let goes = subst (λ w. LetsGoAtEnd same w target old new) is h in
    record {
      live = goes.live;
      collected = goes.collected;
      results = goes.results;
      noted_are = goes.noted_are;
      answer = goes.answer;
      earlier = goes.earlier;
      rest = goes.rest;
      leaves = goes.leaves;
    }

-- ---- what holds still

module _ {D C V P F I R A T : Type 0} (G : DelegateOf D C V P F I R A T) (X : CxOf C I R A T) (same : I → I → Bool)
    (cx : C) (e : Evaluation D C V P F I R A T) (old new : Cache C I R T) where
  module _ (target : Option NodeId) (goes : LetsGo same e target old new) where
    same_results : new.results ≡ old.results
    same_results = ap (λ cache. cache.results) goes.rest

    pub right_stays : IsRight G X same cx old e → IsRight G X same cx new e
    right_stays h = record {
      justified = justified_stay (verdicts X) goes.live old.nodes new.nodes goes.collected
          (runs_of e.goals) goes.goals h.justified;
      free =
          subst (AreFree (verdicts X) same new.nodes (runs_of e.goals)) (sym same_results)
          (free_stay (verdicts X) goes.live old.nodes new.nodes goes.collected same
          (runs_of e.goals) old.results goes.results h.free);
      ready = ready_stay (verdicts X) goes.live old.nodes new.nodes goes.collected same (G.script cx)
          (runs_of e.goals) e.provisional goes.entries h.ready;
    }

    pub noted_stay : AreNotedNodes same old e.drafts → AreNotedNodes same new e.drafts
    noted_stay h = subst (AreRooted same e.drafts.first e.drafts.stored.items) (sym same_results) h

  module _ (received : Received R) (goes : LetsGo same e received.node old new) where
    pub right_for_stays : IsRightFor G X same cx received old e → IsRightFor G X same cx received new e
    right_for_stays h = record {
      right = right_stays received.node goes h.right;
      fits = fit_stays (verdicts X) goes.live old.nodes new.nodes goes.collected (runs_of e.goals)
          received.reply received.node goes.reply h.fits;
    }

  -- ---- at the end of a call

  module _ (target : Option NodeId) (goes : LetsGoAtEnd same e target old new) where
    pub graph_stays_at_end : (goal : I) (r : R) → HasGraph (verdicts X) old.nodes goal r target
        → HasGraph (verdicts X) new.nodes goal r target
    graph_stays_at_end goal r h =
        graph_stays (verdicts X) goes.live old.nodes new.nodes goes.collected goal r target goes.answer h
