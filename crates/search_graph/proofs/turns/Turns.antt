-- What a turn of the loop keeps, which is a move after which nodes may be let go.
use Rattle.std.specs.Prelude.{Vec}
use Rattle.std.specs.Global.{Global}
use Rattle.std.proofs.Common.{◌≡◌, ℕ, ◌<◌, ◌≤◌, arith, Bool, Contains, inl, inr, length, List, [], ◌∷◌, None, Option}
use Rattle.std.proofs.Common.{option_map, refl, slice_get, Some, subst, sym, ap, ◌∙◌, ◌⊎◌}
use Rattle.std.specs.Option.{IfSome, IsSomeAnd}
use Rattle.std.proofs.lemmas.Option.{slice_get-get_or, slice_get-map, slice_get_cases, slice_get_within}
use Rattle.graph_nodes.specs.Nodes.{EndedRun, graph_node_of, graph_nodes_of, IsNodeOf}
use Rattle.graph_nodes.specs.Collected.{StayBefore}
use Rattle.global_cache.specs.Rooted.{AreRooted}
use Rattle.graph_nodes.proofs.Finished.{found_finished}
use Rattle.global_cache.proofs.Stores.{KeepsResults-then}
use Rattle.list_lemmas.proofs.Lists.{mapped_some}
use Rattle.search_context.specs.declared.context.Answer.{Answer}
use Rattle.search_context.specs.declared.context.Edge.{Edge}
use Rattle.search_context.specs.Graph.{HasEdge}
use Rattle.search_graph.specs.Below.{AreFrom, AreRuns, AreSoundResults, Cache, CacheNode, Call, ChangesNewest, CxOf}
use Rattle.search_graph.specs.Below.{DelegateOf, fates_of, Fault, Finished, IsRightFor, IsRightNext, KeepsCache}
use Rattle.search_graph.specs.Below.{KeepsFirst, KeepsNodes, KeepsResults, LeadsTo, Memory, NodeId, Place, Received}
use Rattle.search_graph.specs.Below.{Reply, Request, Step, OpenGoal, StopsWith, stored_at, StoredResult}
use Rattle.search_graph.specs.Below.{verdicts, Verdicts}
use Rattle.search_rules.proofs.records.EarlierNodes.{first_there}
use Rattle.search_graph.specs.Turns.{HasDrafts, IsRightTurn, TurnsCache}
use Rattle.search_state.specs.Drafts.{AreNotedNodes, HasNoDrafts}
use Rattle.search_questions.specs.Collecting.{LetsGo, LetsGoAtEnd}
use Rattle.search_state.specs.declared.drafts.Drafts.{Drafts}
use Rattle.search_state.specs.declared.evaluation.Evaluation.{Evaluation}
use Rattle.search_questions.proofs.nodes.LettingGo.{graph_stays_at_end, right_for_stays}

-- ---- nodes that were there before

-- a list whose nodes stay keeps all of them
first_of_nodes : {I R : Type 0} (old new : List (CacheNode I R)) → KeepsNodes old new → KeepsFirst (length old) old new
first_of_nodes old new kept at lower = elim (slice_get_cases old at).1 [
  | inl there ↦ kept at there.0 there.2 ∙ sym there.2
  | inr past ↦ absurd (omega (arith, past.0, lower))
]

module _ {I R : Type 0} (old new : List (CacheNode I R)) where
  same_edge : (at : ℕ) (e : Edge I) → slice_get new at ≡ slice_get old at
      → HasEdge (graph_nodes_of new) at e → HasEdge (graph_nodes_of old) at e
  same_edge at e is h =
      subst (λ o. IsSomeAnd o (λ m. Contains m.edges e))
      (slice_get-map graph_node_of new at
      ∙ (ap (option_map graph_node_of) is ∙ sym (slice_get-map graph_node_of old at))) h

  -- they lead to one another alone, still
  pub stay_before_kept : (first : ℕ) → KeepsFirst first old new → StayBefore first old → StayBefore first new
  stay_before_kept first kept before at e lower h = before at e lower (same_edge at e (kept at lower) h)

-- all nodes of the list lead to one another alone
pub all_stay_before : {I R : Type 0} (says : Verdicts R) (scripts : I → List (Reply R) → Request I R)
    (nodes : List (CacheNode I R)) → AreRuns says scripts nodes → StayBefore (length nodes) nodes
all_stay_before {I} {R} says scripts nodes runs at e lower h = node_case (slice_get nodes at) refl
    (subst (λ o. IsSomeAnd o (λ m. Contains m.edges e)) (slice_get-map graph_node_of nodes at) h)
  where
    in_list : (place : ℕ) (goal : I) → IsNodeOf nodes place goal → place < length nodes
    in_list place goal is = let n = mapped_some (λ (m : CacheNode I R). m.goal) (slice_get nodes place) goal is in
        slice_get_within nodes place n.0 n.1

    run_case : (n : CacheNode I R) → slice_get nodes at ≡ Some n → (run : Option (EndedRun I R)) → n.run ≡ run
        → Contains (elim run [ None ↦ [] | Some r ↦ r.edges ]) e → e.target < length nodes
    run_case n is None none has = absurd (omega (arith, has.1))
    run_case n is (Some run) ended has =
        in_list e.target e.input
        ((runs at n run is ended).targets has.0 e (slice_get-get_or run.edges has.0 e has.1 ∙ ap Some has.2))

    node_case : (o : Option (CacheNode I R)) → slice_get nodes at ≡ o
        → IsSomeAnd (option_map graph_node_of o) (λ m. Contains m.edges e) → e.target < length nodes
    node_case None is has = absurd has
    node_case (Some n) is has = run_case n is n.run refl has

-- ---- a call begins

module _ {C I R A T : Type 0} (X : CxOf C I R A T) (same : I → I → Bool)
    (scripts : I → List (Reply R) → Request I R) where
  -- the nodes of stored results were there
  stored_before : (cache : Cache C I R T) → AreSoundResults same (verdicts X) scripts cache.nodes cache.results
      → (goal : I) (place : Place) (s : StoredResult I R T) → stored_at same cache.results goal place ≡ Some s
      → IfSome s.node (λ n. n.0 < length cache.nodes)
  stored_before cache sound goal place s at = node_case s.node refl
    where
      node_case : (node : Option NodeId) → s.node ≡ node → IfSome node (λ n. n.0 < length cache.nodes)
      node_case None is = tt
      node_case (Some n) is =
          let graph = (sound goal place s at).graph in
          let definite = graph.definite (λ neither. let none = graph.neither neither in absurd cc) in
          let has = some_is _ s.node n is definite in
          let m = mapped_some (λ (m : CacheNode I R). m.goal) (slice_get cache.nodes n.0) goal has.0 in
          slice_get_within cache.nodes n.0 m.0 m.1
        where
          some_is : {B : Type 0} (Holds : B → Type 0) (o : Option B) (x : B) → o ≡ Some x → IsSomeAnd o Holds → Holds x
          some_is Holds None x is h = absurd h
          some_is Holds (Some y) x is h = let one : y ≡ x = cc in subst Holds one h

  -- the call's drafts are in order once its goal is pushed
  pub begins_drafts : {D V P F : Type 0} (old new : Cache C I R T) (e after : Evaluation D C V P F I R A T)
      → HasNoDrafts old.nodes e.drafts → AreRuns (verdicts X) scripts old.nodes
      → AreSoundResults same (verdicts X) scripts old.nodes old.results → new ≡ record old { nodes = new.nodes }
      → KeepsNodes old.nodes new.nodes → after.drafts ≡ e.drafts
      → AreFrom (length old.nodes) after.goals → HasDrafts same new after
  begins_drafts old new e after none runs sound rest kept is from =
      let first : after.drafts.first ≡ length old.nodes = ap (λ (d : Drafts). d.first) is ∙ none.first in
      let same_results : new.results ≡ old.results = ap (λ cache. cache.results) rest in
      let there = first_of_nodes old.nodes new.nodes kept in
      record {
        there = subst (λ n. n ≤ length new.nodes) (sym first)
            (first_there (length old.nodes) old.nodes new.nodes (omega arith) there);
        before = subst (λ n. StayBefore n new.nodes) (sym first) (stay_before_kept old.nodes new.nodes
            (length old.nodes) there (all_stay_before (verdicts X) scripts old.nodes runs));
        from = subst (λ n. AreFrom n after.goals) (sym first) from;
        noted_are = λ goal place s at.
            lower_first (Contains after.drafts.stored.items) s.node after.drafts.first (length old.nodes) first
            (stored_before old sound goal place s (ap (λ r. stored_at same r goal place) (sym same_results) ∙ at));
      }
    where
      lower_first : (Also : NodeId → Type 0) (node : Option NodeId) (first length_was : ℕ) → first ≡ length_was
          → IfSome node (λ n. n.0 < length_was) → IfSome node (λ n. (n.0 < first) ⊎ Also n)
      lower_first Also None first length_was e h = tt
      lower_first Also (Some n) first length_was e h = inl (omega (arith, e, h))

-- ---- what a turn keeps of the cache

-- what a call has kept so far and what a turn keeps, both keep together
pub then_turns : {D C V P F I R A T : Type 0} (same : I → I → Bool) (goals : List (OpenGoal C F I R A T))
    (old mid new : Cache C I R T) (e : Evaluation D C V P F I R A T) → e.drafts.first ≡ length old.nodes
    → KeepsCache same goals old mid → TurnsCache same e mid new → KeepsCache same goals old new
then_turns same goals old mid new e first keeps turns = record {
  context = turns.context ∙ keeps.context;
  results = KeepsResults-then same old.results mid.results new.results keeps.results turns.results;
  nodes = λ at n is.
      let lower : at < length old.nodes =
      slice_get_within old.nodes at n (found_finished (slice_get old.nodes at) n is) in
      ap (λ o. elim o [ None ↦ None | Some m ↦ elim m.run [ None ↦ None | Some run ↦ Some m ] ])
      (turns.nodes at (omega (arith, lower, first))) ∙ keeps.nodes at n is;
  earlier = λ place within from at lower.
      turns.nodes at (omega (arith, lower, within, first)) ∙ keeps.earlier place within from at lower;
}

module _ {D C V P F I R A T : Type 0} (same : I → I → Bool) (before : Evaluation D C V P F I R A T)
    (old mid new : Cache C I R T) (has : HasDrafts same old before) (keeps : KeepsCache same before.goals old mid)
    (changes : ChangesNewest same (fates_of before.goals) old.results mid.results)
    (earlier : KeepsFirst before.drafts.first mid.nodes new.nodes) (rest : new ≡ record mid { nodes = new.nodes }) where
  first_kept : KeepsFirst before.drafts.first old.nodes new.nodes
  first_kept at lower = earlier at lower ∙ keeps.earlier before.drafts.first has.there has.from at lower

  pub turn_keeps : TurnsCache same before old new
  turn_keeps = record {
    context = ap (λ cache. cache.cx) rest ∙ keeps.context;
    results = subst (KeepsResults same old.results) (sym (ap (λ cache. cache.results) rest)) keeps.results;
    nodes = first_kept;
    changes =
        subst (ChangesNewest same (fates_of before.goals) old.results) (sym (ap (λ cache. cache.results) rest)) changes;
  }

  -- no node that was there before leads to one of the call's
  pub turn_before : (after : Evaluation D C V P F I R A T) → after.drafts.first ≡ before.drafts.first
      → StayBefore after.drafts.first new.nodes
  turn_before after first = subst (λ n. StayBefore n new.nodes) (sym first)
      (stay_before_kept old.nodes new.nodes before.drafts.first first_kept has.before)

  -- the drafts are in order still
  pub turn_has : (after : Evaluation D C V P F I R A T) → after.drafts.first ≡ before.drafts.first
      → AreFrom before.drafts.first after.goals → AreNotedNodes same new after.drafts → HasDrafts same new after
  turn_has after first from noted_are = record {
    there = subst (λ n. n ≤ length new.nodes) (sym first)
        (first_there before.drafts.first old.nodes new.nodes has.there first_kept);
    before = turn_before after first;
    from = subst (λ n. AreFrom n after.goals) (sym first) from;
    noted_are = noted_are;
  }

-- drafts with the same nodes
pub noted_of : {C I R T : Type 0} (same : I → I → Bool) (cache : Cache C I R T) (drafts later : Drafts)
    → later.first ≡ drafts.first → later.stored ≡ drafts.stored
    → AreNotedNodes same cache drafts → AreNotedNodes same cache later
noted_of same cache drafts later first stored h = subst (λ n. AreRooted same n later.stored.items cache.results)
    (sym first) (subst (λ (v : Vec NodeId Global). AreRooted same drafts.first v.items cache.results) (sym stored) h)

module _ {D C V P F I R A T : Type 0} (G : DelegateOf D C V P F I R A T) (X : CxOf C I R A T) (same : I → I → Bool)
    (cx : C) (e after : Evaluation D C V P F I R A T) (mid new : Cache C I R T) where
  -- ---- the newest goal gets a reply

  module _ (given : Received R) (goes : LetsGo same e given.node mid new)
      (is_after : after ≡ record e { drafts = after.drafts }) where
    pub turn_leads : (call : Call I) (ahead : ℕ) (goals : List (OpenGoal C F I R A T)) (starts : ℕ)
        → LeadsTo G X same cx call ahead goals (Step given) mid e starts
        → LeadsTo G X same cx call ahead goals (Step given) new after starts
    turn_leads call ahead goals starts h =
        subst (λ a. LeadsTo G X same cx call ahead goals (Step given) new a starts) (sym is_after)
        (subst (λ c. LeadsTo G X same cx call ahead goals (Step given) c (record e { drafts = after.drafts }) starts)
        (sym goes.rest)
        (record { leads = h.leads; answers = h.answers; remembered = tt; compared = tt }))

    pub turn_right : (goals : List (OpenGoal C F I R A T)) → IsRightNext G X same cx goals (Step given) mid e
        → IsRightFor G X same cx given new after
    turn_right goals h =
        let s = right_for_stays G X same cx e mid new given goes (record {
          right = record { justified = h.justified.0; free = h.free; ready = h.ready };
          fits = h.justified.1;
        }) in
        subst (IsRightFor G X same cx given new) (sym is_after) (record {
          right = record { justified = s.right.justified; free = s.right.free; ready = s.right.ready };
          fits = s.fits;
        })

  -- ---- the call has its answer

  module _ (answer : Answer R) where
    pub end_leads : LetsGoAtEnd same e answer.node mid new
        → (call : Call I) (ahead : ℕ) (goals : List (OpenGoal C F I R A T)) (starts : ℕ)
        → LeadsTo G X same cx call ahead goals (Finished answer) mid e starts
        → LeadsTo G X same cx call ahead goals (Finished answer) new e starts
    end_leads goes call ahead goals starts h =
        subst (λ c. LeadsTo G X same cx call ahead goals (Finished answer) c e starts) (sym goes.rest)
        (record { leads = h.leads; answers = h.answers; remembered = h.remembered; compared = h.compared })

    pub end_right : LetsGoAtEnd same e answer.node mid new → (goals : List (OpenGoal C F I R A T))
        → IsRightNext G X same cx goals (Finished answer) mid e → IsRightTurn G X same cx goals (Finished answer) new e
    end_right goes [] h = h.justified
    end_right goes (s ∷ below) h =
        graph_stays_at_end G X same cx e mid new answer.node goes s.0.input answer.result h.justified

    -- where there was no memory to look for nodes that can go
    pub end_stops : (call : Call I) (ahead : ℕ) (goals : List (OpenGoal C F I R A T)) (starts : ℕ)
        → LeadsTo G X same cx call ahead goals (Finished answer) mid e starts
        → StopsWith G X same cx call Memory mid e starts
    end_stops call ahead goals starts h =
        let ended = h.leads.2 in
        record {
          stopped = record {
            stops = record { within = ended.ends.within; paid = ended.ends.paid; by_runs = ended.ends.by_runs };
            keeps = ended.keeps;
            plain = λ n plain fits. refl;
            decided = λ decisive unmet. tt;
          };
          store = h.answers.store;
        }

  -- ---- the call ends in a fault

  module _ (call : Call I) (fault : Fault I R) (starts : ℕ) where
    pub fault_stops : new ≡ record mid { nodes = new.nodes }
        → after ≡ record e { goals = []; scopes = []; provisional = [] } → StopsWith G X same cx call fault mid e starts
        → StopsWith G X same cx call fault new after starts
    fault_stops rest is h =
        subst (λ a. StopsWith G X same cx call fault new a starts) (sym is)
        (subst (λ c. StopsWith G X same cx call fault c (record e { goals = []; scopes = []; provisional = [] }) starts)
        (sym rest)
        (record { stopped = h.stopped; store = h.store }))

    -- where there was no memory to look for nodes that can go
    pub memory_stops : new ≡ mid → after ≡ record e { goals = []; scopes = []; provisional = [] }
        → StopsWith G X same cx call fault mid e starts → StopsWith G X same cx call Memory new after starts
    memory_stops unchanged is h =
        subst (λ a. StopsWith G X same cx call Memory new a starts) (sym is)
        (subst (λ c. StopsWith G X same cx call Memory c
        (record e { goals = []; scopes = []; provisional = [] }) starts) (sym unchanged)
        (record {
          stopped = record {
            stops = h.stopped.stops;
            keeps = h.stopped.keeps;
            plain = λ n plain fits. refl;
            decided = λ decisive unmet. tt;
          };
          store = h.store;
        }))
