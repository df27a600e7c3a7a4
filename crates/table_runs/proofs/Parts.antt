-- What is new in a graph: once it is accepted, all its nodes are shown.
use Rattle.std.proofs.Common.{◌≡◌, ◌≢◌, ◌∙◌, ℕ, ap, arith, Bool, Err, false, get_or, IfOk, inl, inr, IsTrue}
use Rattle.std.proofs.Common.{length, List, [], ◌∷◌, ◌++◌, Ok, option_map, refl, Result, slice_get, Some, subst, sym}
use Rattle.std.proofs.Common.{true}
use Rattle.std.proofs.lemmas.Bool.{false≢true}
use Rattle.std.proofs.lemmas.Option.{slice_get-get_or, slice_get-map, slice_get_within}
use Rattle.list_lemmas.proofs.Lists.{get_cases, mapped_some}
use Rattle.graph_check.specs.Parts as part
use Rattle.graph_check.specs.Replay.{has_sort}
use Rattle.search_context.specs.declared.context.Verdict.TheVariants as verdict
use Rattle.search_context.specs.Valid.{goal_node_of}
use Rattle.search_context.specs.Graph.{GraphNode}
use Rattle.table_runs.specs.Below.{Coinductive, CxOf, Goal, goal_nodes_of, HasProof, HasRefutation, Inductive, Node}
use Rattle.table_runs.specs.Below.{NoMemory, Outcome, Verdict, verdicts}
use Rattle.table_runs.specs.Parts.{AllAreShown, IsOfSort, KnownAreShown}
use Rattle.table_runs.specs.Right.{Proved, Refuted, SomeGraphShows}

module _ {C A T : Type 0} (X : CxOf C Goal Outcome A T) (cx : C) where
  -- one node more, which may be known
  pub known_push : (sort : Verdict) (known : List Bool) (nodes : List (Node Goal Outcome)) (b : Bool)
      (n : Node Goal Outcome) → length known ≡ length nodes
      → (b ≡ true → IsOfSort X sort n.result × SomeGraphShows X cx n.input n.result)
      → KnownAreShown X cx sort known nodes → KnownAreShown X cx sort (known ++ b ∷ []) (nodes ++ n ∷ [])
  known_push sort known nodes b n same shows before at m there marked =
      elim (get_cases nodes n at m there) [
        | inl old ↦ elim (get_cases known b at true marked) [
          | inl was ↦ before at m old was
          | inr new ↦ absurd (omega (arith, slice_get_within nodes at m old, new.0, same))
        ]
        | inr last ↦ elim (get_cases known b at true marked) [
          | inl was ↦ absurd (omega (arith, slice_get_within known at true was, last.0, same))
          | inr new ↦ subst (λ (x : Node Goal Outcome). IsOfSort X sort x.result × SomeGraphShows X cx x.input x.result)
              last.1 (shows new.1)
        ]
      ]

  proof_of : (goal : Goal) (outcome : Outcome) → IsOfSort X verdict.Yes outcome → SomeGraphShows X cx goal outcome
      → HasProof (X.proves cx) goal
  proof_of goal outcome sort (Proved is graph) = graph
  proof_of goal outcome sort (Refuted is graph) =
      absurd (let both : verdict.Yes ≡ verdict.No = sort.no.1 is in cc)

  refutation_of : (goal : Goal) (outcome : Outcome) → IsOfSort X verdict.No outcome → SomeGraphShows X cx goal outcome
      → HasRefutation (X.refutes cx) goal
  refutation_of goal outcome sort (Refuted is graph) = graph
  refutation_of goal outcome sort (Proved is graph) =
      absurd (let both : verdict.No ≡ verdict.Yes = sort.yes.1 is in cc)

  module _ (known : List Bool) (nodes : List (Node Goal Outcome)) (same : length known ≡ length nodes) where
    goal_there : (at : ℕ) (n : Node Goal Outcome) → slice_get nodes at ≡ Some n
        → slice_get (goal_nodes_of nodes) at ≡ Some (goal_node_of n)
    goal_there at n there = slice_get-map goal_node_of nodes at ∙ ap (option_map goal_node_of) there

    node_there : (at : ℕ) (m : GraphNode Goal) → slice_get (goal_nodes_of nodes) at ≡ Some m
        → (n : Node Goal Outcome) × (slice_get nodes at ≡ Some n) × (goal_node_of n ≡ m)
    node_there at m there =
        mapped_some goal_node_of (slice_get nodes at) m (sym (slice_get-map goal_node_of nodes at) ∙ there)

    known_proofs : KnownAreShown X cx verdict.Yes known nodes
        → part.AreKnown (X.proves cx) Coinductive known (goal_nodes_of nodes)
    known_proofs are at m there marked =
        let n = node_there at m there in
        let both = are at n.0 n.1 marked in
        subst (λ (x : GraphNode Goal). HasProof (X.proves cx) x.goal) n.2 (proof_of n.0.input n.0.result both.0 both.1)

    known_refutations : KnownAreShown X cx verdict.No known nodes
        → part.AreKnown (X.refutes cx) Inductive known (goal_nodes_of nodes)
    known_refutations are at m there marked =
        let n = node_there at m there in
        let both = are at n.0 n.1 marked in
        subst (λ (x : GraphNode Goal). HasRefutation (X.refutes cx) x.goal) n.2
        (refutation_of n.0.input n.0.result both.0 both.1)

    by_mark : (sort : Verdict) → KnownAreShown X cx sort known nodes → (at : ℕ) (n : Node Goal Outcome)
        → slice_get nodes at ≡ Some n → (slice_get known at ≡ Some false → SomeGraphShows X cx n.input n.result)
        → (b : Bool) → slice_get known at ≡ Some b → SomeGraphShows X cx n.input n.result
    by_mark sort are at n there new true is = (are at n there is).1
    by_mark sort are at n there new false is = new is

    -- each node is shown, where those are that are not known
    with_known : (sort : Verdict) → KnownAreShown X cx sort known nodes
        → ((at : ℕ) (n : Node Goal Outcome) → slice_get nodes at ≡ Some n → slice_get known at ≡ Some false
        → SomeGraphShows X cx n.input n.result) → AllAreShown X cx nodes
    with_known sort are others at n there =
        by_mark sort are at n there (others at n there) (get_or known at false)
        (slice_get-get_or known at false (omega (arith, slice_get_within nodes at n there, same)))

    -- what was accepted is shown
    pub part_shows : (sort : Verdict) → KnownAreShown X cx sort known nodes → (checked : Result Bool NoMemory)
        → (checked ≡ Ok true → sort ≡ verdict.Yes → part.AreKnown (X.proves cx) Coinductive known (goal_nodes_of nodes)
        → part.AreShown (X.proves cx) Coinductive (goal_nodes_of nodes))
        → (checked ≡ Ok true → sort ≡ verdict.No → part.AreKnown (X.refutes cx) Inductive known (goal_nodes_of nodes)
        → part.AreShown (X.refutes cx) Inductive (goal_nodes_of nodes))
        → (checked ≡ Ok true → part.AreSorted (has_sort (verdicts X) sort) known nodes)
        → (checked ≡ Ok true → sort ≢ verdict.Neither) → IfOk checked (λ shown. IsTrue shown → AllAreShown X cx nodes)
    part_shows verdict.Yes are (Ok true) proof refutation sorted definite = λ is.
        with_known verdict.Yes are (λ at n there new. Proved (sorted refl at n there new)
        (proof refl refl (known_proofs are) at (goal_node_of n) (goal_there at n there)))
    part_shows verdict.No are (Ok true) proof refutation sorted definite = λ is.
        with_known verdict.No are (λ at n there new. Refuted (sorted refl at n there new)
        (refutation refl refl (known_refutations are) at (goal_node_of n) (goal_there at n there)))
    part_shows verdict.Neither are (Ok true) proof refutation sorted definite = λ is. absurd (definite refl refl)
    part_shows sort are (Ok false) proof refutation sorted definite = λ is. absurd (false≢true is)
    part_shows sort are (Err refused) proof refutation sorted definite = tt
