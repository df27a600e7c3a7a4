-- What is live stays as it is when other nodes are let go.
use Rattle.std.proofs.Common.{◌≡◌, ℕ, List, [], ◌∷◌, ◌++◌, Some, slice_get, sym, subst, ◌∙◌, inl, inr}
use Rattle.std.proofs.lemmas.Option.{slice_get-get_or, slice_get_within}
use Rattle.std.specs.Prelude.{Bool, IsTrue}
use Rattle.open_graphs.specs.Collected.{AreLiveFrames, Collected, CollectingKeepsSound}
use Rattle.open_graphs.specs.Words.{AllRunning, Edge, Entry, go, Grown, has_verdict, HasShapeEdge, Heads, IsClosedGraph}
use Rattle.open_graphs.specs.Words.{IsFinished, IsStack, Node, path_kind, ProvisionalUse, Running, RunningGoal}
use Rattle.open_graphs.specs.Words.{stack_of, stay, Step, Unfinished, Use, Verdict, Walk}
use Rattle.list_lemmas.proofs.Lists.{get_cases}
use Rattle.open_graphs.proofs.Transfer.{transfer_use}
use Rattle.open_graphs.proofs.Walks.{carried}

module _ (live : ℕ → Bool) (before after : List Node) (collected : Collected live before after) where
  -- the earlier list is a growth of the later one
  pub grown_back : Grown after before
  grown_back a verdict edges at = sym (collected.same a (collected.left a verdict edges at)) ∙ at

  pub edge_back : (verdict : Verdict) (b k c : ℕ) → HasShapeEdge after verdict b k c → HasShapeEdge before verdict b k c
  edge_back verdict b k c e =
      record { edges = e.edges; index = e.index; finished = grown_back b verdict e.edges e.finished; edge = e.edge }

  -- walks from live nodes come to live nodes
  pub walk_is_live : (verdict : Verdict) (step : ℕ → ℕ → ℕ → Type 0)
      → ((b k c : ℕ) → step b k c → HasShapeEdge before verdict b k c) → {a q b : ℕ}
      → IsTrue (live a) → Walk step a q b → IsTrue (live b)
  walk_is_live verdict step has_edge is stay = is
  walk_is_live verdict step has_edge {a} is (go {k = k} {b = b} s w) =
      walk_is_live verdict step has_edge (collected.closed verdict a k b is (has_edge a k b s)) w

  pub finished_still : (verdict : Verdict) (b : ℕ) → IsTrue (live b)
      → IsFinished before verdict b → IsFinished after verdict b
  finished_still verdict b is f = (f.0, collected.same b is ∙ f.1)

  walk_back : (verdict : Verdict) {a q b : ℕ} → Walk (HasShapeEdge after verdict) a q b
      → Walk (HasShapeEdge before verdict) a q b
  walk_back verdict w = carried (HasShapeEdge before verdict) (HasShapeEdge after verdict) (λ b. Unit {0})
      (λ b k c h e. edge_back verdict b k c e) (λ b k c h e. tt) tt w

  -- a graph of a live node
  pub collecting_keeps_graph : (verdict : Verdict) (a : ℕ) → IsTrue (live a)
      → IsClosedGraph before verdict a → IsClosedGraph after verdict a
  collecting_keeps_graph verdict a is g =
      record {
        finished = λ b q w.
            let v = walk_back verdict w in
            let still = walk_is_live verdict (HasShapeEdge before verdict) (λ b k c e. e) is v in
            subst (λ node. IsTrue (has_verdict verdict node)) (sym (collected.same b still)) (g.finished b q v);
        closed = λ b q k c r w e x.
            g.closed b q k c r (walk_back verdict w) (edge_back verdict b k c e) (walk_back verdict x);
      }

  -- an answer with a live node
  pub collecting_keeps_use : (verdict : Verdict) (stack : List Entry) (from_head : ℕ → ℕ) (front a : ℕ) (heads : Heads)
      → IsTrue (live a) → Use before verdict stack from_head front a heads
      → Use after verdict stack from_head front a heads
  collecting_keeps_use verdict stack from_head front a heads is u =
      transfer_use before after verdict stack stack a
      (λ b q k c w e. record { edge = edge_back verdict b k c e.edge; inner = e.inner })
      (λ b q w place. elim place [
        | inl leaf ↦ inl leaf
        | inr f ↦
            inr (finished_still verdict b (walk_is_live verdict (Step before verdict stack) (λ b k c e. e.edge) is w) f)
      ])
      from_head front heads (λ depth entry q at w. at) u

  pub collecting_keeps_stored : (verdict : Verdict) (stack : List Entry) (highest path a : ℕ) (heads : Heads)
      → IsTrue (live a) → ProvisionalUse before verdict stack highest path a heads
      → ProvisionalUse after verdict stack highest path a heads
  collecting_keeps_stored verdict stack highest path a heads is s = record {
    on_stack = s.on_stack;
    within = s.within;
    use_there = collecting_keeps_use verdict stack _ 0 a heads is s.use_there;
  }

  collecting_keeps_running : (below : List Entry) (f : RunningGoal) → IsTrue (live f.own) → IsTrue (live f.entry.node)
      → ((verdict : Verdict) (i : ℕ) (edge : Edge) → slice_get (f.edges verdict) i ≡ Some edge
      → IsTrue (live edge.target)) → Running before below f.entry f.own f.edges f.heads_before f.heads
      → Running after below f.entry f.own f.edges f.heads_before f.heads
  collecting_keeps_running below f own cycles answers r = record {
    unfinished = collected.same f.own own ∙ r.unfinished;
    lower = r.lower;
    which_run = r.which_run;
    earlier = λ verdict definite e. collecting_keeps_use verdict below (path_kind below f.entry.step) 0 f.entry.node
        f.heads_before cycles (r.earlier verdict definite e);
    still = r.still;
    answered = λ verdict i edge e.
        let h = r.answered verdict i edge e in
        record {
          answer = h.answer;
          used = collecting_keeps_use verdict (below ++ f.entry ∷ []) _ edge.kind edge.target
              h.answer (answers verdict i edge e) h.used;
          among = h.among;
        };
  }

  all_stay : (frames : List RunningGoal) → AreLiveFrames live frames
      → AllRunning before frames → AllRunning after frames
  all_stay [] are r = tt
  all_stay (f ∷ fs) are r =
      (collecting_keeps_running (stack_of fs) f are.0.own are.0.cycles are.0.answers r.0, all_stay fs are.1 r.1)

  -- the nodes of the entries are live
  live_entries : (frames : List RunningGoal) → AreLiveFrames live frames → (depth : ℕ) (entry : Entry)
      → slice_get (stack_of frames) depth ≡ Some entry → IsTrue (live entry.node)
  live_entries [] are depth entry at = absurd (cc)
  live_entries (f ∷ fs) are depth entry at = elim (get_cases (stack_of fs) f.entry depth entry at) [
    | inl under ↦ live_entries fs are.1 depth entry under
    | inr top ↦ subst (λ e. IsTrue (live e.node)) top.1 are.0.cycles
  ]

  still_stack : (frames : List RunningGoal) → AreLiveFrames live frames
      → IsStack before (stack_of frames) → IsStack after (stack_of frames)
  still_stack frames are s = record {
    in_list = λ depth entry at.
        slice_get_within after entry.node _ (collected.same entry.node (live_entries frames are depth entry at)
        ∙ slice_get-get_or before entry.node Unfinished (s.in_list depth entry at));
    distinct = s.distinct;
  }

pub collecting_keeps_sound : CollectingKeepsSound
collecting_keeps_sound live before after frames provisional final collected are s = record {
  is_stack = still_stack live before after collected frames are.frames_are s.is_stack;
  running = all_stay live before after collected frames are.frames_are s.running;
  apart = s.apart;
  stored = λ i k at. collecting_keeps_stored live before after collected k.verdict (stack_of frames) k.highest k.path
      k.node k.heads (are.provisional_are i k at) (s.stored i k at);
  closed = λ i f at. collecting_keeps_use live before after collected f.verdict (stack_of frames) _ 0 f.node _
      (are.final_are i f at) (s.closed i f at);
}
