-- What stays off the goals under evaluation, and settled results, stay so when nodes are let go to
-- which they don't lead.
use Rattle.std.proofs.Common.{ℕ, Bool, List, [], ◌∷◌, Option, None, Some, subst, inl, inr}
use Rattle.std.specs.Prelude.{IsTrue}
use Rattle.std.specs.Option.{IfSome}
use Rattle.std.proofs.lemmas.List.Elements.{All-contains}
use Rattle.open_graphs.specs.Graph as graphs
use Rattle.open_graphs.specs.Use as theory_use
use Rattle.open_graphs.proofs.Collecting.{edge_back, finished_still, walk_is_live}
use Rattle.open_graphs.proofs.Walks.{carried}
use Rattle.graph_nodes.specs.Collected.{Collected}
use Rattle.two_runs.specs.Below.{CacheNode, entries_at, Entry, Lists, NodeId, OpenGoal, ProvisionalCacheEntry, Reply}
use Rattle.two_runs.specs.Below.{shapes_of, Store, StoredResult, Success, Verdicts}
use Rattle.search_rules.specs.Calls.{Call}
use Rattle.search_rules.specs.Justified.{cycles_node, OpenRun}
use Rattle.search_rules.specs.Words.{AreLiveEntries, AreLiveResults, AreLiveRuns, IsLiveNode, IsLiveRun}
use Rattle.two_runs.specs.Leads.{StepOn, WalksToGoals}
use Rattle.two_runs.specs.Older.{HasEntry}
use Rattle.two_runs.specs.Settled.{AnswerStaysOff, AreSettled, AreSettledGoals, IsSettledGoal, IsSettling, LeadsOnly}
use Rattle.search_rules.specs.Runs.{run_of, runs_of}
use Rattle.search_rules.proofs.collecting.Kept.{node_was, shapes, some_stays}

module _ {I R : Type 0} (says : Verdicts R) (live : ℕ → Bool) (old new : List (CacheNode I R))
    (collected : Collected live old new) where
  step_was : (verdict : graphs.Verdict) (stack : List Entry) {a q b : ℕ}
      → graphs.Walk (theory_use.Step (shapes_of says new) verdict stack) a q b
      → graphs.Walk (theory_use.Step (shapes_of says old) verdict stack) a q b
  step_was verdict stack w =
      carried (theory_use.Step (shapes_of says old) verdict stack)
      (theory_use.Step (shapes_of says new) verdict stack) (λ b. Unit {0})
      (λ b k c h s. record {
        edge = edge_back live (shapes_of says old) (shapes_of says new)
            (shapes says live old new collected) verdict b k c s.edge;
        inner = s.inner;
      }) (λ b k c h s. tt) tt w

  pub only_stays : (Holds : I → Type 0) (verdict : graphs.Verdict) (stack : List Entry) (a : ℕ) → IsTrue (live a)
      → LeadsOnly says old Holds verdict stack a → LeadsOnly says new Holds verdict stack a
  only_stays Holds verdict stack a is h b q w =
      let v = step_was verdict stack w in
      let there = walk_is_live live (shapes_of says old) (shapes_of says new) (shapes says live old new collected)
      verdict (theory_use.Step (shapes_of says old) verdict stack) (λ b k c s. s.edge) is v in
      elim (h b q v) [
        | inl leaf ↦ inl leaf
        | inr holds ↦ inr (λ goal at. holds goal (node_was says live old new collected b goal there at))
      ]

  pub lead_stays : (Stops : ℕ → Type 0) (Holds : I → Type 0) (verdict : graphs.Verdict) (stack : List Entry) (a : ℕ)
      → IsTrue (live a) → WalksToGoals says old Stops Holds verdict stack a
      → WalksToGoals says new Stops Holds verdict stack a
  lead_stays Stops Holds verdict stack a is h b q w =
      let v =
      carried (StepOn (shapes_of says old) verdict stack Stops)
      (StepOn (shapes_of says new) verdict stack Stops) (λ b. Unit {0})
      (λ b k c h s. record {
        step = record {
          edge = edge_back live (shapes_of says old) (shapes_of says new)
              (shapes says live old new collected) verdict b k c s.step.edge;
          inner = s.step.inner;
        };
        on = s.on;
      }) (λ b k c h s. tt) tt w in
      let there = walk_is_live live (shapes_of says old) (shapes_of says new) (shapes says live old new collected)
      verdict (StepOn (shapes_of says old) verdict stack Stops) (λ b k c s. s.step.edge) is v in
      elim (h b q v) [
        | inl leaf ↦ inl leaf
        | inr rest ↦ elim rest [
          | inl stop ↦ inr (inl stop)
          | inr inner ↦ inr (inr (
            finished_still live (shapes_of says old) (shapes_of says new)
                (shapes says live old new collected) verdict b there inner.0,
            λ goal at. inner.1 goal (node_was says live old new collected b goal there at),
          ))
        ]
      ]

  if_some_stays : (P Q : NodeId → Type 0) → ((n : NodeId) → IsTrue (live n.0) → P n → Q n) → (node : Option NodeId)
      → IsLiveNode live node → IfSome node P → IfSome node Q
  if_some_stays P Q gives None is h = h
  if_some_stays P Q gives (Some n) is h = gives n is h

  module _ {T : Type 0} (same : I → I → Bool) (results : Store I (StoredResult I R T)) where
    pub settled_stay : (goals : List I) → AreLiveResults live same results → AreSettled says same old results goals
        → AreSettled says same new results goals
    settled_stay goals are h = record {
      leads = λ goal s among at. if_some_stays _ _ (λ n is leads. only_stays _ _ _ n.0 is leads) s.node
          (are goal Success s at) (h.leads goal s among at);
      require = h.require;
    }

    module _ {X A : Type 0} (entries : Lists I (ProvisionalCacheEntry X I R A T))
        (entries_are : AreLiveEntries live same entries) where
      -- the node of a goal's entry is live
      entry_is_live : (goal : I) (entry : ProvisionalCacheEntry X I R A T) (node : ℕ)
          → HasEntry same entries goal entry node → IsTrue (live node)
      entry_is_live goal entry node has =
          subst (IsLiveNode live) has.node_is
          (All-contains (λ e. IsLiveNode live e.node) (entries_at same entries goal) entry (entries_are goal) has.there)

      cycles_are_live : (o : OpenRun I R) → IsLiveRun live o → IsTrue (live (cycles_node o))
      cycles_are_live o are = at o.cycles_lead are.cycles
        where
          at : (lead : Option NodeId) → IsLiveNode live lead → IsTrue (live (elim lead [ None ↦ o.own | Some n ↦ n.0 ]))
          at None is = are.own
          at (Some n) is = is

      module _ {F : Type 0} where
        goal_stays : (above : Option ℕ) (s : OpenGoal X F I R A T) (below : List (OpenGoal X F I R A T))
            → IsLiveRun live (run_of s) → IsSettledGoal says same old results entries above s below
            → IsSettledGoal says same new results entries above s below
        goal_stays above s below are h = record {
          off = record {
            answers =
                λ i a at counts. lead_stays _ _ _ _ a.edge.target (are.answers i a at) (h.off.answers i a at counts);
            earlier = λ r provisional definite. lead_stays _ _ _ _ (cycles_node (run_of s))
                (cycles_are_live (run_of s) are) (h.off.earlier r provisional definite);
          };
          made = λ goal entry node has since before.
              lead_stays _ _ _ _ node (entry_is_live goal entry node has) (h.made goal entry node has since before);
          began = h.began;
          apart = h.apart;
          itself = h.itself;
          first = h.first;
          stored = h.stored;
        }

        goals_stay : (above : Option ℕ) (goals : List (OpenGoal X F I R A T)) → AreLiveRuns live (runs_of goals)
            → AreSettledGoals says same old results entries above goals
            → AreSettledGoals says same new results entries above goals
        goals_stay above [] are h = tt
        goals_stay above (s ∷ below) are h =
            (goal_stays above s below are.0 h.0, goals_stay (Some (cycles_node (run_of s))) below are.1 h.1)

        pub settling_stay : (call : Call I) (goals : List (OpenGoal X F I R A T)) (met : Bool)
            → AreLiveResults live same results → AreLiveRuns live (runs_of goals)
            → IsSettling says same old results entries call goals met
            → IsSettling says same new results entries call goals met
        settling_stay call goals met results_are runs_are h = record {
          unmet = h.unmet;
          settled = settled_stay call.goals results_are h.settled;
          goals_are = goals_stay None goals runs_are h.goals_are;
          none_lone = h.none_lone;
          older = h.older;
        }

        pub answer_stays : (goals : List (OpenGoal X F I R A T)) (reply : Reply R) (target : Option NodeId)
            → IsLiveNode live target → AnswerStaysOff says same old results entries goals reply target
            → AnswerStaysOff says same new results entries goals reply target
        answer_stays [] reply target is h = tt
        answer_stays (s ∷ below) reply target is h = λ r answers definite.
            some_stays says live old new collected _ _
            (λ n at leads. lead_stays _ _ _ _ n.0 at leads) target is (h r answers definite)
