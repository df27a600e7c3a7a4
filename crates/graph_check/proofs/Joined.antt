-- A part of a graph beside graphs of what it leads to: where these are known, all goals of the part are shown.
use Rattle.std.proofs.Common.{◌≡◌, ◌⊎◌, inl, inr, ℕ, zero, suc, ◌+◌, ◌<◌, Bool, true, false, if◌then◌else◌, List, []}
use Rattle.std.proofs.Common.{◌∷◌, ◌++◌, map, length, get_or, slice_get, Option, None, Some, option_map, Contains, refl}
use Rattle.std.proofs.Common.{sym, ◌∙◌, ap, subst, arith}
use Rattle.std.specs.Option.{IsSomeAnd}
use Rattle.std.proofs.lemmas.Bool.Decides.{eqb_tells}
use Rattle.std.proofs.Math.Dec.{eqb}
use Rattle.std.proofs.lemmas.Option.{slice_get-get_or, slice_get_cases, slice_get_within, slice_get-map}
use Rattle.list_lemmas.proofs.Lists.{get_left, mapped_some}
use Rattle.list_lemmas.proofs.Members.{Contains-map, Contains-mapped}
use Rattle.search_context.proofs.Copies.{same_questions, same_walk_kind}
use Rattle.search_context.proofs.Graphs.{goal_node, HasGoal-within, IsReached-step}
use Rattle.search_context.specs.Graph.{IsReached, original_edge}
use Rattle.graph_check.specs.Below.{AreClosed, CyclesHaveKind, Edge, GraphNode, HasEdge, HasGoal, IsGraph, IsWalk}
use Rattle.graph_check.specs.Below.{PathKind, Question, question_of, walk_kind}
use Rattle.graph_check.specs.Parts.{AreKnown, AreShown, HasGraph}

get_right : {A : Type 0} (xs ys : List A) (i : ℕ) → slice_get (xs ++ ys) (length xs + i) ≡ slice_get ys i
get_right [] ys i = ap (slice_get ys) (omega arith)
get_right (x ∷ xs) ys i = ap (slice_get (x ∷ xs ++ ys)) {y = suc (length xs + i)} (omega arith) ∙ get_right xs ys i

get_first : {A : Type 0} (xs ys : List A) (i : ℕ) → i < length xs → slice_get (xs ++ ys) i ≡ slice_get xs i
get_first xs ys i lt = elim (slice_get_cases xs i).1 [
  | inl there ↦ get_left xs ys i there.0 there.2 ∙ sym there.2
  | inr past ↦ absurd (omega (arith, lt, past.0))
]

cases : (b : Bool) → (b ≡ true) ⊎ (b ≡ false)
cases true = inl refl
cases false = inr refl

module _ {I : Type 0} (rule : I → List (Question I) → Type 0) (kind : PathKind) where
  -- What is inside is never left, and keeps the rule; so each place of it is the root of a graph.
  module _ (nodes : List (GraphNode I)) (Inside : ℕ → Type 0)
      (leads : (x : ℕ) (e : Edge I) → Inside x → HasEdge nodes x e → Inside e.target × HasGoal nodes e.target e.input)
      (shows : (x : ℕ) (n : GraphNode I) → Inside x → slice_get nodes x ≡ Some n
      → rule n.goal (map question_of n.edges))
      (cycles : (x : ℕ) (e : Edge I) (rest : List (Edge I)) → Inside x → IsWalk nodes x (e ∷ rest) x
      → walk_kind (e ∷ rest) ≡ kind) where
    stays : (from to : ℕ) (walk : List (Edge I)) → Inside from → IsWalk nodes from walk to → Inside to
    stays from to [] inside w = subst Inside w inside
    stays from to (e ∷ rest) inside w = stays e.target to rest (leads from e inside w.0).0 w.1

    graph_from : (root : ℕ) (goal : I) → Inside root → HasGoal nodes root goal → IsGraph rule kind nodes root goal
    graph_from root goal inside has = record {
      rooted = has;
      closed = λ at e there edge. (leads at e (stays root at there.0 inside there.1) edge).1;
      is_shown = λ at n there is. shows at n (stays root at there.0 inside there.1) is;
      cycles = λ at e rest there w. cycles at e rest (stays root at there.0 inside there.1) w;
    }

  -- what is reached in a graph has a goal
  reached_goal : (nodes : List (GraphNode I)) (root : ℕ) (goal : I) → IsGraph rule kind nodes root goal
      → (from to : ℕ) (walk : List (Edge I)) (g : I) → IsReached nodes root from → HasGoal nodes from g
      → IsWalk nodes from walk to → (h : I) × HasGoal nodes to h
  reached_goal nodes root goal graph from to [] g there has w = (g, subst (λ at. HasGoal nodes at g) w has)
  reached_goal nodes root goal graph from to (e ∷ rest) g there has w =
      reached_goal nodes root goal graph e.target to rest e.input (IsReached-step nodes root from e there w.0)
      (graph.closed from e there w.0) w.1

  reached_within : (nodes : List (GraphNode I)) (root : ℕ) (goal : I) → IsGraph rule kind nodes root goal
      → (x : ℕ) → IsReached nodes root x → x < length nodes
  reached_within nodes root goal graph x there =
      let has = reached_goal nodes root goal graph root x there.0 goal ([], refl) graph.rooted there.1 in
      HasGoal-within nodes x has.0 has.1

  abbrev none_place : ℕ → ℕ
  none_place at = 0

  same_node : (part : List (GraphNode I)) (at k : ℕ) (n m : GraphNode I) → at ≡ k → slice_get part at ≡ Some n
      → slice_get part k ≡ Some m → n.goal ≡ m.goal
  same_node part at k n m same there is =
      let both : Some n ≡ Some m = sym there ∙ ap (slice_get part) same ∙ is in
      let nodes : n ≡ m = cc in
      ap (λ (x : GraphNode I). x.goal) nodes

  -- A graph stays one where nodes are put behind it.
  module _ (nodes more : List (GraphNode I)) where
    goal_before : (at : ℕ) (goal : I) → HasGoal nodes at goal → HasGoal (nodes ++ more) at goal
    goal_before at goal has =
        ap (option_map (λ n. n.goal)) (get_first nodes more at (HasGoal-within nodes at goal has)) ∙ has

    edge_before : (at : ℕ) (e : Edge I) → at < length nodes → HasEdge (nodes ++ more) at e → HasEdge nodes at e
    edge_before at e lt has = subst (λ o. IsSomeAnd o (λ n. Contains n.edges e)) (get_first nodes more at lt) has

    module _ (root : ℕ) (goal : I) (graph : IsGraph rule kind nodes root goal) where
      within : (x : ℕ) → IsReached nodes root x → x < length nodes
      within = reached_within nodes root goal graph

      pub leads_before : (x : ℕ) (e : Edge I) → IsReached nodes root x → HasEdge (nodes ++ more) x e
          → IsReached nodes root e.target × HasGoal (nodes ++ more) e.target e.input
      leads_before x e there has =
          let edge = edge_before x e (within x there) has in (
            IsReached-step nodes root x e there edge,
            goal_before e.target e.input (graph.closed x e there edge),
          )

      pub shows_before : (x : ℕ) (n : GraphNode I) → IsReached nodes root x → slice_get (nodes ++ more) x ≡ Some n
          → rule n.goal (map question_of n.edges)
      shows_before x n there is = graph.is_shown x n there (sym (get_first nodes more x (within x there)) ∙ is)

      walk_before : (from to : ℕ) (walk : List (Edge I)) → IsReached nodes root from
          → IsWalk (nodes ++ more) from walk to → IsWalk nodes from walk to
      walk_before from to [] there w = w
      walk_before from to (e ∷ rest) there w =
          let edge = edge_before from e (within from there) w.0 in
          (edge, walk_before e.target to rest (IsReached-step nodes root from e there edge) w.1)

      pub cycles_before : (x : ℕ) (e : Edge I) (rest : List (Edge I)) → IsReached nodes root x
          → IsWalk (nodes ++ more) x (e ∷ rest) x → walk_kind (e ∷ rest) ≡ kind
      cycles_before x e rest there w = graph.cycles x e rest there (walk_before x x (e ∷ rest) there w)

      pub graph_before : IsGraph rule kind (nodes ++ more) root goal
      graph_before = graph_from (nodes ++ more) (IsReached nodes root) leads_before shows_before cycles_before
          root goal ([], refl) (goal_before root goal graph.rooted)

  -- A part stands behind the graphs of its known places, to which its edges lead.
  module _ (joint part : List (GraphNode I)) (is_known : ℕ → Bool) (place : ℕ → ℕ) where
    abbrev moved : ℕ → ℕ
    moved at = if is_known at then place at else length joint + at

    abbrev moved_node : GraphNode I → GraphNode I
    moved_node n = record { goal = n.goal; edges = map (original_edge moved) n.edges }

    abbrev all : List (GraphNode I)
    all = joint ++ map moved_node part

    -- What of the part counts leads to what counts, or to a known place.
    module _ (Counts : ℕ → Type 0)
        (known : (at : ℕ) (g : I) → is_known at ≡ true → HasGoal part at g → IsGraph rule kind joint (place at) g)
        (leads : (at : ℕ) (e : Edge I) → Counts at → HasEdge part at e
        → HasGoal part e.target e.input × (is_known e.target ≡ false → Counts e.target))
        (shows : (at : ℕ) (n : GraphNode I) → Counts at → slice_get part at ≡ Some n
        → rule n.goal (map question_of n.edges))
        (cycles : (at : ℕ) (e : Edge I) (rest : List (Edge I)) → Counts at → IsWalk part at (e ∷ rest) at
        → walk_kind (e ∷ rest) ≡ kind) where
      get_moved : (at : ℕ) → slice_get all (length joint + at) ≡ option_map moved_node (slice_get part at)
      get_moved at = get_right joint (map moved_node part) at ∙ slice_get-map moved_node part at

      same_goal : (o : Option (GraphNode I))
          → option_map (λ n. n.goal) (option_map moved_node o) ≡ option_map (λ n. n.goal) o
      same_goal None = refl
      same_goal (Some n) = refl

      goal_moved : (at : ℕ) (goal : I) → HasGoal part at goal → HasGoal all (length joint + at) goal
      goal_moved at goal has = ap (option_map (λ n. n.goal)) (get_moved at) ∙ same_goal (slice_get part at) ∙ has

      edge_was : (o : Option (GraphNode I)) (f : Edge I) → IsSomeAnd (option_map moved_node o) (λ n. Contains n.edges f)
          → (e : Edge I) × IsSomeAnd o (λ n. Contains n.edges e) × (original_edge moved e ≡ f)
      edge_was None f has = absurd has
      edge_was (Some n) f has = Contains-map (original_edge moved) n.edges f has

      edge_moved : (at : ℕ) (f : Edge I) → HasEdge all (length joint + at) f
          → (e : Edge I) × HasEdge part at e × (original_edge moved e ≡ f)
      edge_moved at f has = edge_was (slice_get part at) f
          (subst (λ o. IsSomeAnd o (λ n. Contains n.edges f)) (get_moved at) has)

      -- a place of the part that counts, and one that is reached from a known one
      abbrev IsOwn : ℕ → Type 0
      IsOwn x = (at : ℕ) × (x ≡ length joint + at) × Counts at

      abbrev IsBehind : ℕ → Type 0
      IsBehind x = (at : ℕ) × (g : I) × (is_known at ≡ true) × HasGoal part at g × IsReached joint (place at) x

      behind_within : (x : ℕ) → IsBehind x → x < length joint
      behind_within x (at, g, is, has, there) = reached_within joint (place at) g (known at g is has) x there

      behind_leads : (x : ℕ) (e : Edge I) → IsBehind x → HasEdge all x e
          → IsBehind e.target × HasGoal all e.target e.input
      behind_leads x e (at, g, is, has, there) edge =
          let on = leads_before joint (map moved_node part) (place at) g (known at g is has) x e there edge in
          ((at, g, is, has, on.0), on.1)

      behind_stays : (from to : ℕ) (walk : List (Edge I)) → IsBehind from → IsWalk all from walk to → IsBehind to
      behind_stays from to [] behind w = subst IsBehind w behind
      behind_stays from to (e ∷ rest) behind w = behind_stays e.target to rest (behind_leads from e behind w.0).0 w.1

      -- where an edge of the part leads
      lead_on : (target : ℕ) (input : I) → HasGoal part target input → (is_known target ≡ false → Counts target)
          → (b : Bool) → is_known target ≡ b
          → (IsOwn (moved target) ⊎ IsBehind (moved target)) × HasGoal all (moved target) input
      lead_on target input has counts true is =
          let at : moved target ≡ place target = ap (λ b. if b then place target else length joint + target) is in
          let graph = known target input is has in
          subst (λ x. (IsOwn x ⊎ IsBehind x) × HasGoal all x input) (sym at) (
            inr (target, input, is, has, ([], refl)),
            goal_before joint (map moved_node part) (place target) input graph.rooted,
          )
      lead_on target input has counts false is =
          let at : moved target ≡ length joint + target =
          ap (λ b. if b then place target else length joint + target) is in
          subst (λ x. (IsOwn x ⊎ IsBehind x) × HasGoal all x input) (sym at)
          (inl (target, refl, counts is), goal_moved target input has)

      own_leads : (at : ℕ) (f : Edge I) → Counts at → HasEdge all (length joint + at) f
          → (IsOwn f.target ⊎ IsBehind f.target) × HasGoal all f.target f.input
      own_leads at f counts has =
          let was = edge_moved at f has in
          let on = leads at was.0 counts was.1 in
          subst (λ (g : Edge I). (IsOwn g.target ⊎ IsBehind g.target) × HasGoal all g.target g.input) was.2
          (lead_on was.0.target was.0.input on.0 on.1 (is_known was.0.target) refl)

      abbrev IsInside : ℕ → Type 0
      IsInside x = IsOwn x ⊎ IsBehind x

      inside_leads : (x : ℕ) (e : Edge I) → IsInside x → HasEdge all x e
          → IsInside e.target × HasGoal all e.target e.input
      inside_leads x e (inl (at, is, counts)) has =
          own_leads at e counts (subst (λ y. HasEdge all y e) is has)
      inside_leads x e (inr behind) has = let on = behind_leads x e behind has in (inr on.0, on.1)

      inside_shows : (x : ℕ) (n : GraphNode I) → IsInside x → slice_get all x ≡ Some n
          → rule n.goal (map question_of n.edges)
      inside_shows x n (inl (at, is, counts)) there =
          let w = mapped_some moved_node (slice_get part at) n
          (sym (get_moved at) ∙ subst (λ y. slice_get all y ≡ Some n) is there) in
          let shown : rule w.0.goal (map question_of (map (original_edge moved) w.0.edges)) =
          subst (rule w.0.goal) (sym (same_questions moved w.0.edges)) (shows at w.0 counts w.1) in
          subst (λ (m : GraphNode I). rule m.goal (map question_of m.edges)) w.2 shown
      inside_shows x n (inr (at, g, is, has, there)) is_n =
          shows_before joint (map moved_node part) (place at) g (known at g is has) x n there is_n

      -- a walk from the part back to it is one of the part
      walk_on : (from to : ℕ) (f : Edge I) (rest : List (Edge I)) (e : Edge I) → Counts from → HasEdge part from e
          → original_edge moved e ≡ f → IsWalk all f.target rest (length joint + to)
          → ((next : ℕ) → Counts next → IsWalk all (length joint + next) rest (length joint + to)
          → (was : List (Edge I)) × IsWalk part next was to × (map (original_edge moved) was ≡ rest))
          → (b : Bool) → is_known e.target ≡ b
          → (was : List (Edge I)) × IsWalk part from was to × (map (original_edge moved) was ≡ f ∷ rest)
      walk_on from to f rest e counts has same w goes true is =
          let on = leads from e counts has in
          let at : f.target ≡ place e.target = sym (ap (λ (x : Edge I). x.target) same)
          ∙ ap (λ b. if b then place e.target else length joint + e.target) is in
          let behind : IsBehind f.target =
          (e.target, e.input, is, on.0, subst (IsReached joint (place e.target)) (sym at) ([], refl)) in
          absurd (omega (
            arith,
            behind_within (length joint + to)
                (behind_stays f.target (length joint + to) rest behind w),
          ))
      walk_on from to f rest e counts has same w goes false is =
          let on = leads from e counts has in
          let at : f.target ≡ length joint + e.target = sym (ap (λ (x : Edge I). x.target) same)
          ∙ ap (λ b. if b then place e.target else length joint + e.target) is in
          let more = goes e.target (on.1 is) (subst (λ x. IsWalk all x rest (length joint + to)) at w) in (
            e ∷ more.0,
            (has, more.1),
            ap (λ x. x ∷ map (original_edge moved) more.0) same ∙ ap (λ xs. f ∷ xs) more.2,
          )

      walk_was : (from to : ℕ) (walk : List (Edge I)) → Counts from
          → IsWalk all (length joint + from) walk (length joint + to)
          → (was : List (Edge I)) × IsWalk part from was to × (map (original_edge moved) was ≡ walk)
      walk_was from to [] counts w = ([], omega (arith, w), refl)
      walk_was from to (f ∷ rest) counts w =
          let e = edge_moved from f w.0 in
          walk_on from to f rest e.0 counts e.1 e.2 w.1 (λ next own v. walk_was next to rest own v)
          (is_known e.0.target) refl

      own_cycle : (at : ℕ) (walk was : List (Edge I)) (e : Edge I) (rest : List (Edge I)) → Counts at
          → walk ≡ e ∷ rest → IsWalk part at was at → map (original_edge moved) was ≡ walk → walk_kind walk ≡ kind
      own_cycle at walk [] e rest counts is w same = absurd (let none : [] ≡ e ∷ rest = same ∙ is in cc)
      own_cycle at walk (f ∷ others) e rest counts is w same =
          ap walk_kind (sym same) ∙ same_walk_kind moved (f ∷ others) ∙ cycles at f others counts w

      inside_cycles : (x : ℕ) (e : Edge I) (rest : List (Edge I)) → IsInside x → IsWalk all x (e ∷ rest) x
          → walk_kind (e ∷ rest) ≡ kind
      inside_cycles x e rest (inl (at, is, counts)) w =
          let was = walk_was at at (e ∷ rest) counts (subst (λ y. IsWalk all y (e ∷ rest) y) is w) in
          own_cycle at (e ∷ rest) was.0 e rest counts refl was.1 was.2
      inside_cycles x e rest (inr (at, g, is, has, there)) w =
          cycles_before joint (map moved_node part) (place at) g (known at g is has) x e rest there w

      pub graph_behind : (root : ℕ) (goal : I) → Counts root → HasGoal part root goal
          → IsGraph rule kind all (length joint + root) goal
      graph_behind root goal counts has =
          graph_from all IsInside inside_leads inside_shows inside_cycles (length joint + root) goal
          (inl (root, refl, counts)) (goal_moved root goal has)

  module _ (part : List (GraphNode I)) (known : List Bool) (are_known : AreKnown rule kind known part)
      (same : length known ≡ length part) where
    abbrev is_known : ℕ → Bool
    is_known at = get_or known at false

    known_there : (at : ℕ) (n : GraphNode I) (b : Bool) → slice_get part at ≡ Some n → is_known at ≡ b
        → slice_get known at ≡ Some b
    known_there at n b there is =
        slice_get-get_or known at false (omega (arith, same, slice_get_within part at n there)) ∙ ap Some is

    -- the graphs of the known places before this one, in one list
    record Joint (k : ℕ) : Type 0 where
      nodes : List (GraphNode I)
      place : ℕ → ℕ
      graphs : (at : ℕ) (n : GraphNode I) → at < k → slice_get part at ≡ Some n → is_known at ≡ true
          → IsGraph rule kind nodes (place at) n.goal

    none_joint : Joint 0
    none_joint = record { nodes = []; place = λ at. 0; graphs = λ at n lt there is. absurd (omega (arith, lt)) }

    -- nothing is put to them at a place that is not known
    joint_same : (k : ℕ) → ((n : GraphNode I) → slice_get part k ≡ Some n → is_known k ≡ true → ⊥) → Joint k
        → Joint (suc k)
    joint_same k none before = record {
      nodes = before.nodes;
      place = before.place;
      graphs = λ at n lt there is. elim (eqb_tells at k) [
        | inl here ↦ absurd (none n (subst (λ i. slice_get part i ≡ Some n) here.1 there)
            (subst (λ i. is_known i ≡ true) here.1 is))
        | inr other ↦ before.graphs at n (omega (arith, lt, other.1)) there is
      ];
    }

    -- the place at `k` and the others
    abbrev place_with : ℕ → ℕ → (ℕ → ℕ) → ℕ → ℕ
    place_with k new place at = if eqb at k then new else place at

    -- a graph more, behind the others
    joint_more : (k : ℕ) (m : GraphNode I) → slice_get part k ≡ Some m → HasGraph rule kind m.goal → Joint k
        → Joint (suc k)
    joint_more k m is (others, root, graph) before =
        let none : ℕ → Bool = λ at. false in
        let nodes : List (GraphNode I) = all before.nodes others none none_place in
        let last : IsGraph rule kind nodes (length before.nodes + root) m.goal =
        graph_behind before.nodes others none none_place (IsReached others root) (λ at g is. absurd cc)
        (λ at e there has. (graph.closed at e there has, λ _. IsReached-step others root at e there has))
        graph.is_shown graph.cycles root m.goal ([], refl) graph.rooted in
        record {
          nodes = nodes;
          place = place_with k (length before.nodes + root) before.place;
          graphs = λ at n lt there is_k. elim (eqb_tells at k) [
            | inl here ↦
                let goal : n.goal ≡ m.goal = same_node part at k n m here.1 there is in
                subst (λ p. IsGraph rule kind nodes p n.goal)
                (sym (ap (λ b. if b then length before.nodes + root else before.place at) here.0))
                (subst (IsGraph rule kind nodes (length before.nodes + root)) (sym goal) last)
            | inr other ↦
                subst (λ p. IsGraph rule kind nodes p n.goal)
                (sym (ap (λ b. if b then length before.nodes + root else before.place at) other.0))
                (graph_before before.nodes (map (moved_node before.nodes others none none_place) others)
                (before.place at) n.goal (before.graphs at n (omega (arith, lt, other.1)) there is_k))
          ];
        }

    joint_case : (k : ℕ) (o : Option (GraphNode I)) (b : Bool) → slice_get part k ≡ o → is_known k ≡ b → Joint k
        → Joint (suc k)
    joint_case k None b there is before = joint_same k (λ n at _. let no : Some n ≡ None = sym at ∙ there in cc) before
    joint_case k (Some m) false there is before =
        joint_same k (λ n _ yes. let no : true ≡ false = sym yes ∙ is in cc) before
    joint_case k (Some m) true there is before =
        joint_more k m there (are_known k m there (known_there k m true there is)) before

    joint : (k : ℕ) → Joint k
    joint zero = none_joint
    joint (suc k) = joint_case k (slice_get part k) (is_known k) refl refl (joint k)

    module _ (closed : AreClosed part) (cycles : CyclesHaveKind kind part)
        (runs : (at : ℕ) (n : GraphNode I) → slice_get part at ≡ Some n → slice_get known at ≡ Some false
        → rule n.goal (map question_of n.edges)) where
      shown_case : (at : ℕ) (n : GraphNode I) (b : Bool) → slice_get part at ≡ Some n → is_known at ≡ b
          → HasGraph rule kind n.goal
      shown_case at n true there is = are_known at n there (known_there at n true there is)
      shown_case at n false there is =
          let behind = joint (length part) in (
            _,
            _,
            graph_behind behind.nodes part is_known behind.place (λ x. is_known x ≡ false)
                (λ x g is_x has. let w = goal_node (slice_get part x) g has in
                subst (IsGraph rule kind behind.nodes (behind.place x)) w.2
                (behind.graphs x w.0 (slice_get_within part x w.0 w.1) w.1 is_x))
                (λ x e _ has. (closed x e has, λ out. out))
                (λ x m out is_m. runs x m is_m (known_there x m false is_m out))
                (λ x e rest _ w. cycles x e rest w) at n.goal is (ap (option_map (λ m. m.goal)) there),
          )

      pub all_shown : AreShown rule kind part
      all_shown at n there = shown_case at n (is_known at) there refl
