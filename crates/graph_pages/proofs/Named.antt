-- Each goal of a graph that is shown has a name.
use Rattle.std.proofs.Common.{false, ◌≡◌, ◌∙◌, ◌<◌, ℕ, All, ap, arith, Bool, length, List, [], ◌∷◌, ◌++◌, map, None}
use Rattle.std.proofs.Common.{Option, refl, Some, subst, suc, sym, true, zero}
use Rattle.std.specs.Prelude.{◌^◌, ⊤, Contains, cond, filter, get_or, reverse, slice_get}
use Rattle.std.specs.List.{AllByRecursion, AllZip, flat_map}
use Rattle.std.specs.Option.{option_map, unwrap_or}
use Rattle.std.proofs.lemmas.List.Elements.{All-contains, All-from_recursion, All-head, All-map}
use Rattle.std.proofs.lemmas.List.Elements.{All-tail, Contains-get_or}
use Rattle.std.proofs.lemmas.Option.{slice_get-get_or, slice_get-map, slice_get_within}
use Rattle.std.proofs.lemmas.List.{length-map}
use Rattle.rule_tables.specs.Below.{Answer, Begin, Done, EnterCandidate, Evaluate, FinishCandidate, Ignore, Noted}
use Rattle.rule_tables.specs.Frame.{asking_in, asking_next, entering_next, marked_from, script_of, state_after}
use Rattle.rule_tables.specs.Frame.{state_with, with_answer, with_ignored}
use Rattle.rule_tables.specs.Table.{AreAsked, IsCandidate, IsTableOf, IsToBeAnswered, NamedCandidate}
use Rattle.rule_tables.specs.Grammar.{NamedQuestion, Statement}
use Rattle.rule_tables.specs.Frame.{State}
use Rattle.rule_tables.specs.declared.rules.Asking.{Asking}
use Rattle.rule_tables.specs.Candidate.{Candidate}
use Rattle.search_context.proofs.Graphs.{HasEdge-from, HasGoal-within}
use Rattle.search_context.specs.Graph.{HasEdge, HasGoal, IsWalk, question_of}
use Rattle.search_context.specs.Run.{Asked, progress_after, progress_with, Progress, open_candidate, request_after}
use Rattle.search_context.specs.Valid.{goal_node_of, goal_nodes_of, IsRunOfSort, IsValid}
use Rattle.search_context.specs.declared.context.Edge.{Edge}
use Rattle.graph_data.proofs.Lists.{AllByRecursion-append}
use Rattle.graph_pages.specs.Checked.{AreReached, IsRightlyShown, IsShownGraph, ShowsGraph}
use Rattle.path_kinds.specs.declared.path.PathKind.{PathKind}
use Rattle.path_kinds.specs.declared.path.PathKind.TheVariants.{Coinductive, Inductive}
use Rattle.graph_pages.specs.Below.{candidates_of, Goal, Maybe, names_of, No, Node, number_of, Outcome, Overflow}
use Rattle.graph_pages.specs.Below.{questions_of, Reply, Request, Rules, Verdicts, Yes}
use Rattle.graph_texts.specs.Words.{goal_text}
use Rattle.graph_data.specs.Data.{IsClaim, IsNamed, IsNode, IsTarget, plain_node, PlainClaim}
use Rattle.graph_pages.specs.Shown.{WereAsked, claims_of}
use Rattle.graph_pages.specs.declared.answer.Came.{Came}
use Rattle.graph_pages.specs.declared.answer.Came.TheVariants.{Graph, NoGraph, Unchecked, Fault}

-- a goal that has some name has its name
pub is_named : (names : List (List ℕ)) (goal : Goal) (name : List ℕ)
    → slice_get names (number_of goal) ≡ Some name → IsNamed names goal
is_named names goal name is = is ∙ ap Some (sym (ap (λ o. unwrap_or o []) is))

module _ (names : List (List ℕ)) where
  -- ---- what a script asks

  abbrev pub AskNamed : List Candidate → Type 0
  AskNamed = AllByRecursion (λ c. AllByRecursion (λ a. IsNamed names a.goal) c.questions)

  asked_named : (askings : List Asking) (questions : List NamedQuestion) → AreAsked names askings questions
      → AllByRecursion (λ a. IsNamed names a.goal) askings
  asked_named [] questions h = tt
  asked_named (a ∷ askings) [] h = absurd h
  asked_named (a ∷ askings) (q ∷ questions) h =
      (is_named names a.goal q.name h.0.goal, asked_named askings questions h.1)

  pub candidates_named : (cs : List Candidate) (written : List NamedCandidate)
      → AllZip (IsCandidate names) cs written → AskNamed cs
  candidates_named [] written h = tt
  candidates_named (c ∷ cs) [] h = absurd h
  candidates_named (c ∷ cs) (w ∷ written) h =
      (asked_named c.questions w.questions h.0.questions, candidates_named cs written h.1)

  -- where this is a question, its goal has a name
  abbrev Named : Option (Request Goal Outcome) → Type 0
  Named None = ⊤
  Named (Some (Evaluate kind goal)) = IsNamed names goal
  Named (Some EnterCandidate) = ⊤
  Named (Some FinishCandidate) = ⊤
  Named (Some (Ignore n)) = ⊤
  Named (Some (Done r)) = ⊤

  named_at : {A : Type 0} (P : A → Type 0) (xs : List A) (at : ℕ) (x : A)
      → AllByRecursion P xs → slice_get xs at ≡ Some x → P x
  named_at P [] at x all is = absurd cc
  named_at P (y ∷ xs) zero x all is = let same : y ≡ x = cc in subst P same all.0
  named_at P (y ∷ xs) (suc at) x all is = named_at P xs at x all.1 is

  module _ (cs : List Candidate) (all : AskNamed cs) where
    ignoring_named : (s : State) (o : Option ℕ) → Named (with_ignored s o).request
    ignoring_named s None = tt
    ignoring_named s (Some n) = tt

    entering_named : (s : State) (o : Option Candidate) → Named (entering_next cs s o).request
    entering_named s None = ignoring_named s (cond s.unmarked_holds (marked_from 0 cs s.next_ignored) None)
    entering_named s (Some c) = tt

    question_named : (s : State) (c : Candidate) (o : Option Asking) → slice_get c.questions s.question ≡ o
        → AllByRecursion (λ a. IsNamed names a.goal) c.questions → Named (asking_next c s o).request
    question_named s c None is named = tt
    question_named s c (Some a) is named = named_at (λ x. IsNamed names x.goal) c.questions s.question a named is

    asking_named : (s : State) (o : Option Candidate) → slice_get cs s.candidate ≡ o → Named (asking_in cs s o).request
    asking_named s None is = ignoring_named s (cond s.unmarked_holds (marked_from 0 cs s.next_ignored) None)
    asking_named s (Some c) is = question_named s c (slice_get c.questions s.question) refl
        (named_at (λ d. AllByRecursion (λ a. IsNamed names a.goal) d.questions) cs s.candidate c all is)

    with_named : (s : State) (o : Option (Request Goal Outcome)) (r : Reply Outcome) → Named s.request
        → Named (state_with cs s o r).request
    with_named s None Begin h = entering_named s (slice_get cs s.candidate)
    with_named s None (Answer a) h = h
    with_named s None Noted h = h
    with_named s (Some EnterCandidate) Begin h = h
    with_named s (Some EnterCandidate) (Answer a) h = h
    with_named s (Some EnterCandidate) Noted h = asking_named s (slice_get cs s.candidate) refl
    with_named s (Some (Evaluate kind goal)) Begin h = h
    with_named s (Some (Evaluate kind goal)) (Answer a) h =
        asking_named (with_answer s a) (slice_get cs s.candidate) refl
    with_named s (Some (Evaluate kind goal)) Noted h = h
    with_named s (Some FinishCandidate) Begin h = h
    with_named s (Some FinishCandidate) (Answer a) h = h
    with_named s (Some FinishCandidate) Noted h = entering_named s (slice_get cs s.candidate)
    with_named s (Some (Ignore n)) Begin h = h
    with_named s (Some (Ignore n)) (Answer a) h = h
    with_named s (Some (Ignore n)) Noted h =
        ignoring_named s (cond s.unmarked_holds (marked_from 0 cs s.next_ignored) None)
    with_named s (Some (Done r)) Begin h = h
    with_named s (Some (Done r)) (Answer a) h = h
    with_named s (Some (Done r)) Noted h = h

    state_named : (replies : List (Reply Outcome)) → Named (state_after cs replies).request
    state_named [] = tt
    state_named (r ∷ earlier) =
        with_named (state_after cs earlier) (state_after cs earlier).request r (state_named earlier)

    made_named : (o : Option (Request Goal Outcome)) → Named o → Named (Some (unwrap_or o EnterCandidate))
    made_named None h = tt
    made_named (Some request) h = h

    script_named : (replies : List (Reply Outcome)) → Named (Some (script_of cs replies))
    script_named replies = made_named (state_after cs replies).request (state_named replies)

  -- ---- so what was asked

  abbrev AllNamed : List (Asked Goal Outcome) → Type 0
  AllNamed = AllByRecursion (λ a. IsNamed names a.question.goal)

  more_named : (asked : List (Asked Goal Outcome)) (a : Asked Goal Outcome) → AllNamed asked
      → IsNamed names a.question.goal → AllNamed (asked ++ a ∷ [])
  more_named [] a all one = (one, tt)
  more_named (b ∷ asked) a all one = (all.0, more_named asked a all.1 one)

  progress_named : (p : Progress Goal Outcome) (o : Option (Request Goal Outcome)) (r : Reply Outcome) → Named o
      → AllNamed p.asked → AllNamed (progress_with p o r).asked
  progress_named p None r h all = all
  progress_named p (Some (Evaluate kind goal)) (Answer a) h all = more_named p.asked
      (record { question = record { kind = kind; goal = goal }; answer = a; candidate = open_candidate p }) all h
  progress_named p (Some (Evaluate kind goal)) Begin h all = all
  progress_named p (Some (Evaluate kind goal)) Noted h all = all
  progress_named p (Some EnterCandidate) Noted h all = all
  progress_named p (Some EnterCandidate) Begin h all = all
  progress_named p (Some EnterCandidate) (Answer a) h all = all
  progress_named p (Some FinishCandidate) Noted h all = all
  progress_named p (Some FinishCandidate) Begin h all = all
  progress_named p (Some FinishCandidate) (Answer a) h all = all
  progress_named p (Some (Ignore n)) Noted h all = all
  progress_named p (Some (Ignore n)) Begin h all = all
  progress_named p (Some (Ignore n)) (Answer a) h all = all
  progress_named p (Some (Done a)) Begin h all = all
  progress_named p (Some (Done a)) (Answer b) h all = all
  progress_named p (Some (Done a)) Noted h all = all

  filtered_named : (test : Asked Goal Outcome → Bool) (asked : List (Asked Goal Outcome)) → AllNamed asked
      → AllByRecursion (λ q. IsNamed names q.goal) (map (λ a. a.question) (filter test asked))
  filtered_named test [] all = tt
  filtered_named test (a ∷ asked) all = by_test (test a) (filtered_named test asked all.1) where
    by_test : (b : Bool) → AllByRecursion (λ q. IsNamed names q.goal) (map (λ a. a.question) (filter test asked))
        → AllByRecursion (λ q. IsNamed names q.goal)
        (map (λ a. a.question) (cond b (a ∷ filter test asked) (filter test asked)))
    by_test true rest = (all.0, rest)
    by_test false rest = rest

  edges_named : (edges : List (Edge Goal)) → AllByRecursion (λ q. IsNamed names q.goal) (map question_of edges)
      → AllByRecursion (λ e. IsNamed names e.input) edges
  edges_named [] all = tt
  edges_named (e ∷ edges) all = (all.0, edges_named edges all.1)

  module _ (cs : List Candidate) (all : AskNamed cs) where
    request_named : (replies : List (Reply Outcome)) → Named (request_after (script_of cs) replies)
    request_named [] = tt
    request_named (r ∷ earlier) = script_named cs all (r ∷ earlier)

    all_asked_named : (replies : List (Reply Outcome)) → AllNamed (progress_after (script_of cs) replies).asked
    all_asked_named [] = tt
    all_asked_named (r ∷ earlier) = progress_named (progress_after (script_of cs) earlier)
        (request_after (script_of cs) earlier) r (request_named earlier) (all_asked_named earlier)

    pub run_named : (sort : Outcome → Bool) (n : Node Goal Outcome) → IsRunOfSort sort (script_of cs) n
        → AllByRecursion (λ e. IsNamed names e.input) n.edges.items
    run_named sort n run = edges_named n.edges.items (subst (AllByRecursion (λ q. IsNamed names q.goal)) (sym run.edges)
        (filtered_named _ _ (all_asked_named (reverse n.replies.items))))

-- ---- and so what is reached

module _ (statements : List Statement) (rules : Rules) (table : IsTableOf statements rules) (sort : Outcome → Bool)
    (kind : PathKind) (nodes : List (Node Goal Outcome)) (root : Goal)
    (valid : IsValid sort kind (λ goal. script_of (candidates_of rules goal)) nodes root) where
  abbrev names : List (List ℕ)
  names = names_of rules

  abbrev HasNamed : ℕ → Type 0
  HasNamed at = (n : Node Goal Outcome) → slice_get nodes at ≡ Some n → IsNamed names n.input

  node_edges_named : (at : ℕ) (n : Node Goal Outcome) → slice_get nodes at ≡ Some n → IsNamed names n.input
      → AllByRecursion (λ e. IsNamed names e.input) n.edges.items
  node_edges_named at n is named =
      let text = goal_text names n.input in
      run_named names (candidates_of rules n.input)
      (candidates_named names (candidates_of rules n.input) _ (table.candidates n.input text named))
      sort n (valid.runs at n is)

  goal_at : (at : ℕ) (n : Node Goal Outcome) → slice_get nodes at ≡ Some n
      → slice_get (goal_nodes_of nodes) at ≡ Some (goal_node_of n)
  goal_at at n is = slice_get-map goal_node_of nodes at ∙ ap (option_map goal_node_of) is

  -- the goal that a node has is that which an edge to it asks
  goal_is : (at : ℕ) (n : Node Goal Outcome) (goal : Goal) → slice_get nodes at ≡ Some n
      → HasGoal (goal_nodes_of nodes) at goal → goal ≡ n.input
  goal_is at n goal is has =
      let same : Some n.input ≡ Some goal = sym (ap (option_map (λ m. m.goal)) (goal_at at n is)) ∙ has in cc

  step_named : (at : ℕ) (e : Edge Goal) → HasNamed at → HasEdge (goal_nodes_of nodes) at e → HasNamed e.target
  step_named at e named has n is =
      let from = edge_from nodes at e has in
      let all = node_edges_named at from.0 from.1 (named from.0 from.1) in
      let one : IsNamed names e.input = All-contains (λ x. IsNamed names x.input) from.0.edges.items e
      (All-from_recursion (λ x. IsNamed names x.input) from.0.edges.items all) from.2 in
      subst (IsNamed names) (goal_is e.target n e.input is (valid.closed at e has)) one where
        edge_from : (all : List (Node Goal Outcome)) (at : ℕ) (e : Edge Goal) → HasEdge (goal_nodes_of all) at e
            → (m : Node Goal Outcome) × (slice_get all at ≡ Some m) × Contains m.edges.items e
        edge_from [] at e has = absurd has
        edge_from (m ∷ all) zero e has = (m, refl, has)
        edge_from (m ∷ all) (suc at) e has = edge_from all at e has

  walk_named : (from to : ℕ) (walk : List (Edge Goal)) → HasNamed from
      → IsWalk (goal_nodes_of nodes) from walk to → HasNamed to
  walk_named from to [] named w = subst HasNamed w named
  walk_named from to (e ∷ walk) named w = walk_named e.target to walk (step_named from e named w.0) w.1

  module _ (root_named : IsNamed names root) (reached : AreReached nodes) (count : length nodes < 2 ^ 64) where
    root_has : HasNamed 0
    root_has n is = subst (IsNamed names) (goal_is 0 n root is valid.rooted) root_named

    node_named : (at : ℕ) (n : Node Goal Outcome) → slice_get nodes at ≡ Some n → IsNode names (plain_node n)
    node_named at n is =
        let w = reached at (slice_get_within nodes at n is) in
        let named : IsNamed names n.input = walk_named 0 at w.0 root_has w.1 n is in
        let all = All-from_recursion (λ e. IsNamed names e.input) n.edges.items (node_edges_named at n is named) in (
          named,
          λ k d below. (
            all k d below,
            target_within at n is (get_or n.edges.items k d) (Contains-get_or n.edges.items k d below),
          ),
        ) where
          target_within : (at : ℕ) (n : Node Goal Outcome) → slice_get nodes at ≡ Some n → (e : Edge Goal)
              → Contains n.edges.items e → IsTarget e.target
          target_within at n is e has =
              let within = HasGoal-within (goal_nodes_of nodes) e.target e.input
              (valid.closed at e (HasEdge-from (goal_nodes_of nodes) at (goal_node_of n) e (goal_at at n is) has)) in
              let same = length-map nodes goal_node_of in
              omega (arith, within, same, count)

    pub nodes_named : All (IsNode names) (map plain_node nodes)
    nodes_named = All-map (IsNode names) plain_node nodes
        (λ k d below. node_named k (get_or nodes k d) (slice_get-get_or nodes k d below))

-- ---- and so the claims about it

module _ (says : Verdicts Outcome) (scripts : Goal → List (Reply Outcome) → Request Goal Outcome)
    (statements : List Statement) (rules : Rules) (table : IsTableOf statements rules)
    (same : scripts ≡ (λ goal. script_of (candidates_of rules goal))) where
  shown_named : (goal : Goal) (outcome : Outcome) (nodes : List (Node Goal Outcome)) → IsNamed (names_of rules) goal
      → IsShownGraph says scripts goal outcome nodes → All (IsNode (names_of rules)) (map plain_node nodes)
  shown_named goal Yes nodes named shown = nodes_named statements rules table says.is_yes Coinductive nodes goal
      (subst (λ s. IsValid says.is_yes Coinductive s nodes goal) same shown.is_valid) named
      shown.are_reached shown.count
  shown_named goal No nodes named shown = nodes_named statements rules table says.is_no Inductive nodes goal
      (subst (λ s. IsValid says.is_no Inductive s nodes goal) same shown.is_valid) named shown.are_reached shown.count
  shown_named goal Maybe nodes named shown = absurd shown.is_valid
  shown_named goal Overflow nodes named shown = absurd shown.is_valid

  claim_named : (goal : Goal) (came : Came) → IsNamed (names_of rules) goal → ShowsGraph says scripts goal came
      → AllByRecursion (IsClaim (names_of rules)) (claims_of goal came)
  claim_named goal (Graph outcome nodes) named checked =
      ((named, shown_named goal outcome nodes.items named checked), tt)
  claim_named goal (NoGraph outcome reason) named checked = ((named, λ k d below. absurd (omega arith)), tt)
  claim_named goal (Unchecked outcome) named checked = tt
  claim_named goal (Fault fault) named checked = tt

  all_claims_named : (asked : List ((ℕ × Goal) × Came)) →
      AllByRecursion (IsNamed (names_of rules)) (map (λ q. q.1) (map (λ a. a.0) asked)) →
      All (λ a. IsRightlyShown says scripts a.0 a.1) asked →
      AllByRecursion (IsClaim (names_of rules)) (flat_map (λ a. claims_of a.0.1 a.1) asked)
  all_claims_named [] named checked = tt
  all_claims_named (a ∷ asked) named checked =
      AllByRecursion-append (IsClaim (names_of rules)) (claims_of a.0.1 a.1) (flat_map (λ b. claims_of b.0.1 b.1) asked)
      (claim_named a.0.1 a.1 named.0 (All-head (λ b. IsRightlyShown says scripts b.0 b.1) a asked checked).graph)
      (all_claims_named asked named.1 (All-tail (λ b. IsRightlyShown says scripts b.0 b.1) a asked checked))

  questions_named : (questions : List (ℕ × Goal)) (written : List (ℕ × List ℕ))
      → AllZip (IsToBeAnswered (names_of rules)) questions written
      → AllByRecursion (IsNamed (names_of rules)) (map (λ q. q.1) questions)
  questions_named [] written h = tt
  questions_named (q ∷ questions) [] h = absurd h
  questions_named (q ∷ questions) (w ∷ written) h =
      (is_named (names_of rules) q.1 w.1 h.0.goal, questions_named questions written h.1)

  -- each goal in the claims of the answers has a name
  pub claims_named : (claims : List PlainClaim) (all_fine : Bool)
      → WereAsked says scripts (questions_of rules) claims all_fine → All (IsClaim (names_of rules)) claims
  claims_named claims all_fine asked =
      let goals = subst (λ questions. AllByRecursion (IsNamed (names_of rules)) (map (λ q. q.1) questions))
      (sym asked.are_questions) (questions_named (questions_of rules) _ table.questions) in
      All-from_recursion (IsClaim (names_of rules)) claims (subst (AllByRecursion (IsClaim (names_of rules)))
      (sym asked.are_claims) (all_claims_named asked.asked goals asked.are_right))
