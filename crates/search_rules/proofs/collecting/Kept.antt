-- What is justified, free, ready or fit stays so when nodes are let go to which it doesn't lead.
use Rattle.std.proofs.Common.{◌≡◌, ℕ, Bool, List, [], ◌∷◌, All, Option, None, Some, option_map, ap, ◌∙◌, sym}
use Rattle.std.specs.Prelude.{IsTrue}
use Rattle.std.specs.Option.{IsSomeAnd}
use Rattle.std.proofs.lemmas.List.Elements.{All-cons, All-head, All-nil, All-tail}
use Rattle.open_graphs.specs.Collected as theory
use Rattle.open_graphs.specs.Graph as graphs
use Rattle.open_graphs.specs.Use as theory_use
use Rattle.open_graphs.proofs.Collecting.{collecting_keeps_graph, collecting_keeps_sound}
use Rattle.open_graphs.proofs.Collecting.{collecting_keeps_stored, collecting_keeps_use}
use Rattle.graph_nodes.specs.Collected.{Collected}
use Rattle.search_rules.specs.Below.{CacheNode, Entry, goal_if_open, HasGraph, HasNode, IsAnsweredEdge, IsNodeOf}
use Rattle.search_rules.specs.Below.{NodeId, open_goal, ProvisionalCacheEntry, Lists, entries_at, Reply, Request}
use Rattle.search_rules.specs.Below.{shapes_of, stack_of, Store, StoredResult, Verdicts, verdict_of}
use Rattle.search_rules.specs.Free.{AreFree}
use Rattle.search_rules.specs.Justified.{AreJustified, AreOpen, AreSupported, frames_of, IsFit, IsSupported}
use Rattle.search_rules.specs.Justified.{MayAnswer, OpenRun}
use Rattle.search_rules.specs.Live.{AreLiveEntries, AreLiveResults, AreLiveRuns, IsLiveNode, IsLiveRun}
use Rattle.search_rules.specs.Provisional.{AreReady, IsReady}
use Rattle.graph_nodes.proofs.Collecting.{shapes_collected}

module _ {I R : Type 0} (says : Verdicts R) (live : ℕ → Bool) (old new : List (CacheNode I R))
    (collected : Collected live old new) where
  -- the nodes as the theory sees them
  pub shapes : theory.Collected live (shapes_of says old) (shapes_of says new)
  shapes = shapes_collected live old new collected says

  -- ---- nodes

  pub node_stays : (at : ℕ) (goal : I) → IsTrue (live at) → IsNodeOf old at goal → IsNodeOf new at goal
  node_stays at goal is h = ap (option_map (λ n. n.goal)) (collected.same at is) ∙ h

  pub node_was : (at : ℕ) (goal : I) → IsTrue (live at) → IsNodeOf new at goal → IsNodeOf old at goal
  node_was at goal is h = ap (option_map (λ n. n.goal)) (sym (collected.same at is)) ∙ h

  open_stays : (at : ℕ) (goal : I) → IsTrue (live at) → open_goal old at ≡ Some goal → open_goal new at ≡ Some goal
  open_stays at goal is h = ap (λ o. elim o [ None ↦ None | Some n ↦ goal_if_open n ]) (collected.same at is) ∙ h

  -- what holds of a node that is there holds of it still
  pub some_stays : (P Q : NodeId → Type 0) → ((n : NodeId) → IsTrue (live n.0) → P n → Q n) → (node : Option NodeId)
      → IsLiveNode live node → IsSomeAnd node P → IsSomeAnd node Q
  some_stays P Q gives None is h = h
  some_stays P Q gives (Some n) is h = gives n is h

  -- ---- goals under evaluation

  live_frames : (goals : List (OpenRun I R)) → AreLiveRuns live goals → theory.AreLiveFrames live (frames_of says goals)
  live_frames [] are = tt
  live_frames (o ∷ below) are = (
    record {
      own = are.0.own;
      cycles = cycles_live o.cycles_lead are.0.cycles;
      answers = λ verdict i edge at. absurd cc;
    },
    live_frames below are.1,
  )
    where
      cycles_live : (lead : Option NodeId) → IsLiveNode live lead
          → IsTrue (live (elim lead [ None ↦ o.own | Some n ↦ n.0 ]))
      cycles_live None is = are.0.own
      cycles_live (Some n) is = is

  opens_stay : (goals : List (OpenRun I R)) → AreLiveRuns live goals → AreOpen old goals → AreOpen new goals
  opens_stay [] are h = tt
  opens_stay (o ∷ below) are h = (open_stays o.own o.goal are.0.own h.0, opens_stay below are.1 h.1)

  edge_stays :
      (verdict : graphs.Verdict) (below : List Entry) (top : Entry) (edge : graphs.Edge) (heads : theory_use.Heads)
      → IsTrue (live edge.target) → IsAnsweredEdge (shapes_of says old) verdict below top edge heads
      → IsAnsweredEdge (shapes_of says new) verdict below top edge heads
  edge_stays verdict below top edge heads is h = record {
    answer = h.answer;
    used = collecting_keeps_use live (shapes_of says old) (shapes_of says new) shapes verdict _ _
        edge.kind edge.target h.answer is h.used;
    among = h.among;
  }

  supported_stays : (o : OpenRun I R) (below : List (OpenRun I R)) → IsLiveRun live o
      → IsSupported says old o below → IsSupported says new o below
  supported_stays o below are h = record {
    lead_home = some_stays (λ n. IsNodeOf old n.0 o.goal) (λ n. IsNodeOf new n.0 o.goal)
        (λ n is at. node_stays n.0 o.goal is at) o.cycles_lead are.cycles h.lead_home;
    placed = λ i a at. node_stays a.edge.target a.edge.input (are.answers i a at) (h.placed i a at);
    charged = λ i a at counted. edge_stays _ _ _ _ _ (are.answers i a at) (h.charged i a at counted);
  }

  all_supported : (goals : List (OpenRun I R)) → AreLiveRuns live goals
      → AreSupported says old goals → AreSupported says new goals
  all_supported [] are h = tt
  all_supported (o ∷ below) are h = (supported_stays o below are.0 h.0, all_supported below are.1 h.1)

  pub justified_stay : (goals : List (OpenRun I R)) → AreLiveRuns live goals
      → AreJustified says old goals → AreJustified says new goals
  justified_stay goals are h = record {
    sound = collecting_keeps_sound live (shapes_of says old) (shapes_of says new) (frames_of says goals) [] [] shapes
        (record {
          frames_are = live_frames goals are;
          provisional_are = λ i k at. absurd cc;
          final_are = λ i f at. absurd cc;
        }) h.sound;
    are_open = opens_stay goals are h.are_open;
    supported = all_supported goals are h.supported;
    asked = h.asked;
    tallies = h.tallies;
    in_order = h.in_order;
  }

  -- the reply for the newest goal
  pub fit_stays : (goals : List (OpenRun I R)) (reply : Reply R) (target : Option NodeId) → IsLiveNode live target
      → IsFit says old goals reply target → IsFit says new goals reply target
  fit_stays [] reply target is h = tt
  fit_stays (o ∷ below) reply target is h = λ r kind goal answers asks definite.
      some_stays (λ a. MayAnswer says old o below (verdict_of says r) kind goal a.0)
      (λ a. MayAnswer says new o below (verdict_of says r) kind goal a.0)
      (λ n at may. record {
        of_goal = node_stays n.0 goal at may.of_goal;
        answered = edge_stays _ _ _ _ _ at may.answered;
      })
      target is (h r kind goal answers asks definite)

  -- ---- results and entries

  has_node_stays : (Has Then : graphs.Verdict → ℕ → Type 0)
      → ((verdict : graphs.Verdict) (n : ℕ) → IsTrue (live n) → Has verdict n → Then verdict n)
      → (goal : I) (r : R) (node : Option NodeId) → IsLiveNode live node
      → HasNode says old Has goal r node → HasNode says new Then goal r node
  has_node_stays Has Then gives goal r node is h = record {
    definite = λ definite.
        some_stays (λ n. IsNodeOf old n.0 goal × Has (verdict_of says r) n.0)
        (λ n. IsNodeOf new n.0 goal × Then (verdict_of says r) n.0)
        (λ n at both. (node_stays n.0 goal at both.0, gives (verdict_of says r) n.0 at both.1)) node is
        (h.definite definite);
    neither = h.neither;
  }

  pub graph_stays : (goal : I) (r : R) (node : Option NodeId) → IsLiveNode live node
      → HasGraph says old goal r node → HasGraph says new goal r node
  graph_stays goal r node is h = has_node_stays _ _ (λ verdict n at graph.
      collecting_keeps_graph live (shapes_of says old) (shapes_of says new) shapes verdict n at graph) goal r node is h

  pub free_stay :
      {T : Type 0} (same : I → I → Bool) (goals : List (OpenRun I R)) (results : Store I (StoredResult I R T))
      → AreLiveResults live same results → AreFree says same old goals results → AreFree says same new goals results
  free_stay same goals results are h goal place s at =
      has_node_stays _ _ (λ verdict n is used. collecting_keeps_use live (shapes_of says old) (shapes_of says new)
      shapes verdict (stack_of (frames_of says goals)) _ 0 n _ is used)
      goal s.result.result s.node (are goal place s at) (h goal place s at)

  module _ {X A T : Type 0} (same : I → I → Bool)
      (scripts : I → List (Reply R) → Request I R) (goals : List (OpenRun I R)) where
    ready_stays : (goal : I) (entry : ProvisionalCacheEntry X I R A T) → IsLiveNode live entry.node
        → IsReady says scripts old goals goal entry → IsReady says scripts new goals goal entry
    ready_stays goal entry is h = record {
      reusable =
          has_node_stays _ _ (λ verdict n at holds. collecting_keeps_stored live (shapes_of says old)
          (shapes_of says new) shapes _ (stack_of (frames_of says goals)) _ _ n _ at holds)
          goal entry.result entry.node is h.reusable;
      some = h.some;
      rising = h.rising;
      are_heads = h.are_heads;
      no_rank = h.no_rank;
    }

    all_ready : (goal : I) (entries : List (ProvisionalCacheEntry X I R A T))
        → All (λ entry. IsLiveNode live entry.node) entries → All (IsReady says scripts old goals goal) entries
        → All (IsReady says scripts new goals goal) entries
    all_ready goal [] are h = All-nil (IsReady says scripts new goals goal)
    all_ready goal (entry ∷ entries) are h =
        All-cons (IsReady says scripts new goals goal) entry entries
        (ready_stays goal entry (All-head (λ e. IsLiveNode live e.node) entry entries are)
        (All-head (IsReady says scripts old goals goal) entry entries h))
        (all_ready goal entries (All-tail (λ e. IsLiveNode live e.node) entry entries are)
        (All-tail (IsReady says scripts old goals goal) entry entries h))

    pub ready_stay : (lists : Lists I (ProvisionalCacheEntry X I R A T)) → AreLiveEntries live same lists
        → AreReady says same scripts old goals lists → AreReady says same scripts new goals lists
    ready_stay lists are h goal = all_ready goal (entries_at same lists goal) (are goal) (h goal)
