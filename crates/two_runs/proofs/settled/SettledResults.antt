-- Stored results whose graphs have goals alone that they know, as nodes are added and results are stored.
use Rattle.std.proofs.Common.{◌≡◌, Bool, true, List, [], Contains, Option, None, Some, refl, sym, ap, ap₂, ◌∙◌, subst}
use Rattle.std.proofs.Common.{inl, inr}
use Rattle.std.specs.Option.{IfSome}
use Rattle.open_graphs.specs.Graph as theory
use Rattle.open_graphs.proofs.Closed.{closed_is_graph, graph_is_use}
use Rattle.open_graphs.proofs.States.{verdict_cases}
use Rattle.global_cache.proofs.Stores.{put_cases}
use Rattle.two_runs.specs.Below.{CacheNode, EvaluationResult, KeepsFinished, KeepsGoals, NestedPaths, no_heads, NodeId}
use Rattle.two_runs.specs.Below.{place_of, shapes_of, stack_of, Store, stored_at, stored_from, StoredResult, Success}
use Rattle.two_runs.specs.Below.{verdict_of, Verdicts}
use Rattle.search_rules.specs.Free.{AreFree, IsFree}
use Rattle.search_rules.specs.Justified.{frames_of, OpenRun}
use Rattle.two_runs.specs.Lone.{IsLone, LoneRequire}
use Rattle.two_runs.specs.Settled.{AreSettled, IsKnown, LeadsOnly}
use Rattle.search_rules.specs.Results.{NotStored, Put, StoresAnswer}
use Rattle.two_runs.proofs.settled.Leading.{free_graph, leads_finished, leads_grown}
use Rattle.two_runs.proofs.settled.OffStack.{known_more}

module _ {I R T : Type 0} (says : Verdicts R) (same : I → I → Bool) (nodes after : List (CacheNode I R))
    (kept : KeepsGoals nodes after) (grown : theory.Grown (shapes_of says nodes) (shapes_of says after))
    (runs : List (OpenRun I R)) (results later : Store I (StoredResult I R T))
    (stay : (goal : I) → IsLone same results goal → IsLone same later goal)
    (free : AreFree says same nodes runs results) (goals : List I)
    (settled : AreSettled says same nodes results goals) where
  leads_still : (P Q : I → Type 0) → ((goal : I) → P goal → Q goal) → (goal : I) (r : R) (o : Option NodeId)
      → IsFree says nodes runs goal r o → IfSome o (λ n. LeadsOnly says nodes P (verdict_of says r) [] n.0)
      → IfSome o (λ n. LeadsOnly says after Q (verdict_of says r) [] n.0)
  leads_still P Q more goal r None is_free leads = tt
  leads_still P Q more goal r (Some n) is_free leads = elim (verdict_cases (verdict_of says r) theory.Neither) [
    | inl neither ↦ let none : Some n ≡ None = is_free.neither neither in absurd cc
    | inr definite ↦
        leads_grown says nodes after kept grown P Q more (verdict_of says r) [] n.0
        (graph_is_use (shapes_of says nodes) (verdict_of says r) (λ depth. 0) 0 n.0 no_heads
        (closed_is_graph (shapes_of says nodes) (verdict_of says r) (stack_of (frames_of says runs)) (λ depth. 0) 0 n.0
        no_heads (λ depth path cycle recorded. recorded.1 refl) (is_free.definite definite).1)).open_graph
        leads
  ]

  -- a result that was stored before
  leads_before : (goal : I) (s : StoredResult I R T) → Contains goals goal
      → stored_at same results goal Success ≡ Some s → IfSome s.node
      (λ n. LeadsOnly says after (IsKnown same later s.nested_goals) (verdict_of says s.result.result) [] n.0)
  leads_before goal s within at =
      leads_still (IsKnown same results s.nested_goals) (IsKnown same later s.nested_goals)
      (known_more same results later stay s.nested_goals s.nested_goals (λ g there. there)) goal s.result.result s.node
      (free goal Success s at) (settled.leads goal s within at)

  -- an answer is stored
  pub settled_stored : {X A : Type 0} →
      ((x y : I) → same x y ≡ true → x ≡ y) → (input : I) (answer : EvaluationResult X I R A T)
      → StoresAnswer same results later input answer
      → (answer.heads ≡ [] → IfSome answer.node
      (λ n. LeadsOnly says after (IsKnown same later answer.nested_goals) (verdict_of says answer.result) [] n.0))
      → LoneRequire same later goals
      → AreSettled says same after later goals
  settled_stored by_value input answer (NotStored is) leads require = record {
    leads =
        λ goal s within at. leads_before goal s within (ap (λ store. stored_at same store goal Success) (sym is) ∙ at);
    require = require;
  }
  settled_stored by_value input answer (Put token none puts) leads require = record {
    leads = λ goal s within at. elim (put_cases same by_value results later input (place_of answer)
        (stored_from answer token) puts goal Success) [
          | inl w ↦
              let here : stored_at same later goal Success ≡ Some (stored_from answer token) =
              ap₂ (stored_at same later) (sym w.0) (sym w.1) ∙ puts.here in
              let found : Some (stored_from answer token) ≡ Some s = sym here ∙ at in
              let one : stored_from answer token ≡ s = cc in
              subst (λ (x : StoredResult I R T). IfSome x.node
              (λ n. LeadsOnly says after (IsKnown same later x.nested_goals) (verdict_of says x.result.result) [] n.0))
              one (leads none)
          | inr unchanged ↦ leads_before goal s within (sym unchanged ∙ at)
        ];
    require = require;
  }

-- nodes are added or finished
pub settled_grown : {I R T : Type 0} (says : Verdicts R) (same : I → I → Bool) (nodes after : List (CacheNode I R))
    → KeepsGoals nodes after → theory.Grown (shapes_of says nodes) (shapes_of says after)
    → (runs : List (OpenRun I R)) (results : Store I (StoredResult I R T)) → AreFree says same nodes runs results
    → (goals : List I) → AreSettled says same nodes results goals → AreSettled says same after results goals
settled_grown says same nodes after kept grown runs results free goals settled = record {
  leads = leads_before says same nodes after kept grown runs results results (λ goal lone. lone) free goals settled;
  require = settled.require;
}

-- what is finished stays, as after a move that failed
pub settled_finished : {I R T : Type 0} (says : Verdicts R) (same : I → I → Bool)
    (nodes after : List (CacheNode I R)) → KeepsFinished nodes after
    → (runs : List (OpenRun I R)) (results : Store I (StoredResult I R T)) → AreFree says same nodes runs results
    → (goals : List I) → AreSettled says same nodes results goals → AreSettled says same after results goals
settled_finished {I} {R} {T} says same nodes after kept runs results free goals settled = record {
  leads = λ goal s within at.
      leads_at s.nested_goals goal s.result.result s.node (free goal Success s at) (settled.leads goal s within at);
  require = settled.require;
}
  where
    leads_at : (nested : NestedPaths I) (goal : I) (r : R) (o : Option NodeId) → IsFree says nodes runs goal r o
        → IfSome o (λ n. LeadsOnly says nodes (IsKnown same results nested) (verdict_of says r) [] n.0)
        → IfSome o (λ n. LeadsOnly says after (IsKnown same results nested) (verdict_of says r) [] n.0)
    leads_at nested goal r None is_free leads = tt
    leads_at nested goal r (Some n) is_free leads = elim (verdict_cases (verdict_of says r) theory.Neither) [
      | inl neither ↦ let none : Some n ≡ None = is_free.neither neither in absurd cc
      | inr definite ↦ leads_finished says nodes after kept (IsKnown same results nested) (verdict_of says r) [] n.0
          (free_graph says nodes runs (verdict_of says r) n.0 (is_free.definite definite).1) leads
    ]
