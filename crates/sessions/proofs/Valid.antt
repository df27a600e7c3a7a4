-- Where the words of a valid graph are read, a valid graph is.
use Rattle.std.proofs.Common.{◌≡◌, ◌∙◌, ◌↔◌, All, Bool, IfOk, IsTrue, List, [], ◌∷◌, Ok, Err, Result, Some, ap}
use Rattle.std.proofs.Common.{get_or, map, refl, subst, sym, true, ℕ}
use Rattle.std.specs.Prelude.{Contains, reverse, slice_get}
use Rattle.std.specs.Option.{IsSomeAnd, option_map, unwrap_or}
use Rattle.std.proofs.lemmas.List.{get_or_default}
use Rattle.std.proofs.lemmas.List.Elements.{All-map}
use Rattle.std.proofs.lemmas.List.Folds.{map_fixed}
use Rattle.std.proofs.lemmas.Option.{slice_get-get_or, slice_get-map}
use Rattle.list_lemmas.proofs.Lists.{mapped_some}
use Rattle.search_context.specs.Graph.{GraphNode, HasEdge, HasGoal, question_of}
use Rattle.search_context.specs.Run.{EndsIn, progress_after, questions_answered}
use Rattle.search_context.specs.Valid.{AreClosed, CyclesHaveKind, IsRunOfSort, IsValid}
use Rattle.search_context.specs.declared.context.Edge.{Edge}
use Rattle.search_context.specs.declared.context.Verdict.TheVariants as verdict
use Rattle.path_kinds.specs.declared.path.PathKind.{PathKind}
use Rattle.path_kinds.specs.declared.path.PathKind.TheVariants.{Coinductive, Inductive}
use Rattle.graph_words.specs.Words.{PlainNode, goals_of, named, named_edge, named_node}
use Rattle.sessions.specs.Below.{AreWordsOf, IsValidFor, NoMemory, Node, Outcome, Reply, Request, Verdict, Verdicts}
use Rattle.sessions.specs.Below.{goal_nodes_of, plain_node}
use Rattle.sessions.specs.Shown.{AreValidFor}

-- ---- each edge of a valid graph has its target's goal

goals_same : (nodes : List (Node ℕ Outcome))
    → map (λ (n : GraphNode ℕ). n.goal) (goal_nodes_of nodes) ≡ goals_of (map plain_node nodes)
goals_same [] = refl
goals_same (n ∷ nodes) = ap (λ gs. n.input ∷ gs) (goals_same nodes)

module _ (nodes : List (Node ℕ Outcome)) (closed : AreClosed (goal_nodes_of nodes)) where
  edge_named : (at : ℕ) (e : Edge ℕ) → HasEdge (goal_nodes_of nodes) at e
      → named_edge (goals_of (map plain_node nodes)) e ≡ e
  edge_named at e has =
      let there : slice_get (goals_of (map plain_node nodes)) e.target ≡ Some e.input =
      ap (λ gs. slice_get gs e.target) (sym (goals_same nodes))
      ∙ slice_get-map (λ (n : GraphNode ℕ). n.goal) (goal_nodes_of nodes) e.target ∙ closed at e has in
      ap (λ o. record { kind = e.kind; input = unwrap_or o 0; target = e.target }) there

  node_named : (at : ℕ) (n : Node ℕ Outcome) → slice_get nodes at ≡ Some n
      → named_node (goals_of (map plain_node nodes)) (plain_node n) ≡ plain_node n
  node_named at n is =
      let there = slice_get-map _ nodes at ∙ ap (option_map _) is in
      let all : All (λ e. named_edge (goals_of (map plain_node nodes)) e ≡ e) n.edges.items =
      λ k d inside. edge_named at (get_or n.edges.items k d)
      (subst (λ o. IsSomeAnd o (λ m. Contains m.edges (get_or n.edges.items k d))) (sym there)
      (k, inside, get_or_default n.edges.items k _ d inside)) in
      ap (λ es. record { goal = n.input; outcome = n.result; replies = n.replies.items; edges = es })
      (map_fixed (named_edge (goals_of (map plain_node nodes))) n.edges.items all)

  are_named : named (map plain_node nodes) ≡ map plain_node nodes
  are_named =
      let goals = goals_of (map plain_node nodes) in
      map_fixed (named_node goals) (map plain_node nodes)
      (All-map (λ p. named_node goals p ≡ p) plain_node nodes
      (λ k d inside. node_named k (get_or nodes k d) (slice_get-get_or nodes k d inside)))

-- ---- where lists lie makes no graph valid

abbrev plain_goal_node : PlainNode → GraphNode ℕ
plain_goal_node p = record { goal = p.goal; edges = p.edges }

goal_nodes_by_plain : (nodes : List (Node ℕ Outcome))
    → goal_nodes_of nodes ≡ map plain_goal_node (map plain_node nodes)
goal_nodes_by_plain [] = refl
goal_nodes_by_plain (n ∷ nodes) = ap (λ ns. plain_goal_node (plain_node n) ∷ ns) (goal_nodes_by_plain nodes)

-- a node is a run of its goal
record IsPlainRun (sort : Outcome → Bool)
    (scripts : ℕ → List (Reply Outcome) → Request ℕ Outcome) (p : PlainNode) : Type 0 where
  ends : EndsIn (scripts p.goal) (reverse p.replies) p.outcome
  sorted : sort p.outcome ≡ true
  edges : map question_of p.edges ≡ questions_answered sort (progress_after (scripts p.goal) (reverse p.replies))

module _ (sort : Outcome → Bool) (kind : PathKind) (scripts : ℕ → List (Reply Outcome) → Request ℕ Outcome)
    (nodes read : List (Node ℕ Outcome)) (same : map plain_node read ≡ map plain_node nodes) (goal : ℕ)
    (valid : IsValid sort kind scripts nodes goal) where
  same_nodes : goal_nodes_of nodes ≡ goal_nodes_of read
  same_nodes = goal_nodes_by_plain nodes ∙ ap (map plain_goal_node) (sym same) ∙ sym (goal_nodes_by_plain read)

  read_run : (at : ℕ) (n : Node ℕ Outcome) → slice_get read at ≡ Some n → IsRunOfSort sort (scripts n.input) n
  read_run at n is =
      let there : slice_get (map plain_node nodes) at ≡ Some (plain_node n) =
      ap (λ ns. slice_get ns at) (sym same) ∙ slice_get-map plain_node read at ∙ ap (option_map plain_node) is in
      let m =
      mapped_some plain_node (slice_get nodes at) (plain_node n) (sym (slice_get-map plain_node nodes at) ∙ there) in
      let run = valid.runs at m.0 m.1 in
      let plain : IsPlainRun sort scripts (plain_node n) =
      subst (IsPlainRun sort scripts) m.2 (record { ends = run.ends; sorted = run.sort; edges = run.edges }) in
      record { ends = plain.ends; sort = plain.sorted; edges = plain.edges }

  read_valid : IsValid sort kind scripts read goal
  read_valid = record {
    rooted = subst (λ ns. HasGoal ns 0 goal) same_nodes valid.rooted;
    runs = read_run;
    closed = subst AreClosed same_nodes valid.closed;
    cycles = subst (CyclesHaveKind kind) same_nodes valid.cycles;
  }

module _ (says : Verdicts Outcome) (scripts : ℕ → List (Reply Outcome) → Request ℕ Outcome) (goal : ℕ) where
  read_valid_for : (verdict : Verdict) (nodes read : List (Node ℕ Outcome))
      → map plain_node read ≡ named (map plain_node nodes)
      → IsValidFor says verdict scripts nodes goal → IsValidFor says verdict scripts read goal
  read_valid_for verdict.Yes nodes read same valid = read_valid says.is_yes Coinductive scripts nodes read
      (same ∙ are_named nodes valid.closed) goal valid
  read_valid_for verdict.No nodes read same valid = read_valid says.is_no Inductive scripts nodes read
      (same ∙ are_named nodes valid.closed) goal valid
  read_valid_for verdict.Neither nodes read same valid = absurd valid

  -- The graph that is read is valid exactly if the words are those of one that is.
  pub checked_words : (verdict : Verdict) (words : List ℕ) (read : List (Node ℕ Outcome))
      → AreWordsOf words (map plain_node read)
      → ((others : List PlainNode) → AreWordsOf words others → map plain_node read ≡ named others)
      → (checked : Result Bool NoMemory)
      → IfOk checked (λ accepted. IsTrue accepted ↔ IsValidFor says verdict scripts read goal)
      → IfOk checked (λ accepted. IsTrue accepted ↔ AreValidFor says verdict scripts words goal)
  checked_words verdict words read are only (Ok accepted) exact = (
    (λ is. record { nodes = read; are_its = are; valid = exact.0 is }),
    (λ all. exact.1 (read_valid_for verdict all.nodes read (only (map plain_node all.nodes) all.are_its) all.valid)),
  )
  checked_words verdict words read are only (Err refused) exact = tt
