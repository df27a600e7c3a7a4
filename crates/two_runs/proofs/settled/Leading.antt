-- What the walks from a node come to, as nodes are added and finished and the stack changes.
use Rattle.std.proofs.Common.{ℕ, List, [], option_map, slice_get, refl, sym, ap, ◌∙◌, ◌⊎◌, inl, inr}
use Rattle.std.proofs.lemmas.Option.{slice_get-map}
use Rattle.open_graphs.specs.Graph as theory
use Rattle.open_graphs.specs.Stack.{IsLeaf}
use Rattle.open_graphs.specs.Use as theory_use
use Rattle.open_graphs.proofs.Closed.{closed_is_graph, graph_is_use, headless_reaches}
use Rattle.open_graphs.proofs.Keep.{growth_back, growth_place}
use Rattle.list_lemmas.proofs.Lists.{mapped_some}
use Rattle.open_graphs.proofs.Transfer.{same_walk}
use Rattle.open_graphs.proofs.Walks.{carried}
use Rattle.graph_nodes.proofs.Finished.{finished_stays, Grown-finished}
use Rattle.two_runs.specs.Below.{CacheNode, Entry, IsNodeOf, KeepsFinished, KeepsGoals, no_heads, shape_of, shapes_of}
use Rattle.two_runs.specs.Below.{stack_of, Use, UsesNo, Verdicts}
use Rattle.search_rules.specs.Justified.{frames_of, OpenRun}
use Rattle.two_runs.specs.Settled.{LeadsOnly}
use Rattle.two_runs.specs.Leads.{HasSuchGoal, StepOn, WalksToGoals}
use Rattle.search_rules.proofs.justified.Justified.{no_answers}

module _ {I R : Type 0} (says : Verdicts R) (nodes : List (CacheNode I R)) where
  -- a node that was finished has the goal that it had
  goal_before : (after : List (CacheNode I R)) → KeepsGoals nodes after → (v : theory.Verdict) (b : ℕ)
      → theory.IsFinished (shapes_of says nodes) v b → (goal : I) → IsNodeOf after b goal → IsNodeOf nodes b goal
  goal_before after kept v b f goal is =
      let n = mapped_some (shape_of says) (slice_get nodes b) (theory.Finished v f.0)
      (sym (slice_get-map (shape_of says) nodes b) ∙ f.1) in
      let was : IsNodeOf nodes b n.0.goal = ap (option_map (λ m. m.goal)) n.1 in
      was ∙ (sym (kept b n.0.goal was) ∙ is)

  -- what holds of the goals of what is reached, or follows from that
  pub leads_weaker : (P Q : I → Type 0) → ((goal : I) → P goal → Q goal)
      → (v : theory.Verdict) (stack : List Entry) (a : ℕ)
      → LeadsOnly says nodes P v stack a → LeadsOnly says nodes Q v stack a
  leads_weaker P Q more v stack a leads =
      λ b q w. elim (leads b q w) [ inl l ↦ inl l | inr holds ↦ inr (λ goal is. more goal (holds goal is)) ]

  -- nodes that are reached keep their goals
  pub leads_later :
      (after : List (CacheNode I R)) → KeepsGoals nodes after → (P Q : I → Type 0) → ((goal : I) → P goal → Q goal)
      → (v : theory.Verdict) (stack : List Entry) (a : ℕ)
      → theory_use.OpenGraph (shapes_of says nodes) v stack a → LeadsOnly says nodes P v stack a
      → (b q : ℕ) → theory.Walk (theory_use.Step (shapes_of says nodes) v stack) a q b
      → IsLeaf stack b ⊎ ((goal : I) → IsNodeOf after b goal → Q goal)
  leads_later after kept P Q more v stack a graph leads b q w = elim (graph.placed b q w) [
    | inl l ↦ inl l
    | inr f ↦ elim (leads b q w) [
      | inl l ↦ inl l
      | inr holds ↦ inr (λ goal is. more goal (holds goal (goal_before after kept v b f goal is)))
    ]
  ]

  -- the list grows
  pub leads_grown :
      (after : List (CacheNode I R)) → KeepsGoals nodes after
      → theory.Grown (shapes_of says nodes) (shapes_of says after) → (P Q : I → Type 0) → ((goal : I) → P goal → Q goal)
      → (v : theory.Verdict) (stack : List Entry) (a : ℕ) → theory_use.OpenGraph (shapes_of says nodes) v stack a
      → LeadsOnly says nodes P v stack a → LeadsOnly says after Q v stack a
  leads_grown after kept grown P Q more v stack a graph leads = λ b q w.
      leads_later after kept P Q more v stack a graph leads b q
      (same_walk (shapes_of says nodes) (shapes_of says after) v stack stack a
      (growth_back (shapes_of says nodes) (shapes_of says after) v stack a grown graph)
      (growth_place (shapes_of says nodes) (shapes_of says after) v stack a grown graph) w)

  -- the list keeps what is finished
  pub leads_finished :
      (after : List (CacheNode I R)) → KeepsFinished nodes after
      → (P : I → Type 0) (v : theory.Verdict) (stack : List Entry) (a : ℕ)
      → theory_use.OpenGraph (shapes_of says nodes) v stack a
      → LeadsOnly says nodes P v stack a → LeadsOnly says after P v stack a
  leads_finished after kept P v stack a graph leads = λ b q w.
      let grown = Grown-finished says nodes after kept in
      let before = same_walk (shapes_of says nodes) (shapes_of says after) v stack stack a
      (growth_back (shapes_of says nodes) (shapes_of says after) v stack a grown graph)
      (growth_place (shapes_of says nodes) (shapes_of says after) v stack a grown graph) w in
      elim (graph.placed b q before) [
        | inl l ↦ inl l
        | inr f ↦ elim (leads b q before) [
          | inl l ↦ inl l
          | inr holds ↦ inr (λ goal is.
              holds goal (ap (option_map (λ m. m.goal)) (sym (finished_stays says nodes after kept b v f.0 f.1)) ∙ is))
        ]
      ]

  -- the goals that are reached keep their goals, of which the same holds, or what follows from that
  pub goals_later : (after : List (CacheNode I R)) → KeepsGoals nodes after → (P Q : I → Type 0)
      → ((goal : I) → P goal → Q goal) → (v : theory.Verdict) (b : ℕ) → theory.IsFinished (shapes_of says nodes) v b
      → HasSuchGoal nodes P b → HasSuchGoal after Q b
  goals_later after kept P Q more v b f holds = λ goal is. more goal (holds goal (goal_before after kept v b f goal is))

  -- walks stop over a stack, and at further nodes
  pub leads_over : (P : I → Type 0) (v : theory.Verdict) (stack : List Entry) (Stops : ℕ → Type 0) (a : ℕ)
      → theory_use.OpenGraph (shapes_of says nodes) v [] a → LeadsOnly says nodes P v [] a
      → WalksToGoals says nodes Stops P v stack a
  leads_over P v stack Stops a graph leads = λ b q w.
      let v = carried (theory_use.Step (shapes_of says nodes) v [])
      (StepOn (shapes_of says nodes) v stack Stops) (λ b. Unit {0})
      (λ b k c h s. record { edge = s.step.edge; inner = λ l. no_answers l.0 l.1 l.2 }) (λ b k c h e. tt) tt w in
      elim (leads b q v) [
        | inl l ↦ absurd (no_answers l.0 l.1 l.2)
        | inr holds ↦
            elim (graph.placed b q v) [ inl l ↦ absurd (no_answers l.0 l.1 l.2) | inr f ↦ inr (inr (f, holds)) ]
      ]

  -- an answer without heads reaches the same over no stack, if its walks stop nowhere else
  pub leads_headless :
      (P : I → Type 0) (v : theory.Verdict) (stack : List Entry) (Stops : ℕ → Type 0) (from_head : ℕ → ℕ) (front a : ℕ)
      (heads : theory_use.Heads) → ((depth : ℕ) → UsesNo heads depth) → ((b : ℕ) → Stops b → ⊥)
      → Use (shapes_of says nodes) v stack from_head front a heads → WalksToGoals says nodes Stops P v stack a
      → LeadsOnly says nodes P v [] a
  leads_headless P v stack Stops from_head front a heads none never used leads = λ b q w.
      let reached = headless_reaches (shapes_of says nodes) v stack from_head front a heads none used b q w in
      let v = carried (StepOn (shapes_of says nodes) v stack Stops) (theory_use.Step (shapes_of says nodes) v stack)
      (λ b. Unit {0}) (λ b k c h s. record { step = s; on = λ stop. never b stop }) (λ b k c h e. tt) tt reached.0 in
      elim (leads b q v) [
        | inl l ↦ absurd (reached.1 l)
        | inr rest ↦ elim rest [ inl stop ↦ absurd (never b stop) | inr i ↦ inr i.1 ]
      ]

  -- a use without heads is a graph over no stack
  pub free_graph : (goals : List (OpenRun I R)) (v : theory.Verdict) (a : ℕ)
      → Use (shapes_of says nodes) v (stack_of (frames_of says goals)) (λ depth. 0) 0 a no_heads
      → theory_use.OpenGraph (shapes_of says nodes) v [] a
  free_graph goals v a used =
      (graph_is_use (shapes_of says nodes) v (λ depth. 0) 0 a no_heads
      (closed_is_graph (shapes_of says nodes) v (stack_of (frames_of says goals)) (λ depth. 0) 0 a no_heads
      (λ depth path cycle recorded. recorded.1 refl) used)).open_graph
