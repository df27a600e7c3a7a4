-- A graph that is built from a list of goals: a node for each, at its place, with edges to places. Where each edge
-- takes a step of some sort, and a closed walk of such steps has the kind, it is a graph of each goal from which only
-- such nodes are reached.
use Rattle.std.proofs.Common.{◌≡◌, ℕ, zero, suc, ◌<◌, ◌⊎◌, inl, inr, List, [], ◌∷◌, ◌++◌, length, map, slice_get}
use Rattle.std.proofs.Common.{Contains, Some, IsSomeAnd, option_map, refl, sym, ◌∙◌, ap, subst, arith, length-append}
use Rattle.std.proofs.lemmas.Bool.{cases_eq}
use Rattle.list_lemmas.proofs.Lists.{get_end, get_left}
use Rattle.list_lemmas.proofs.Members.{contains_later, first_or_later}
use Rattle.determined.specs.Below.{Edge, GraphNode, HasEdge, HasGoal, Inductive, IsGraph, IsWalk, PathKind, Question}
use Rattle.determined.specs.Below.{greater_kind, question_of, walk_kind}

-- an element for each place, as a list
module _ {A : Type 0} (P : ℕ → A → Type 0) where
  pub record IsListed (n : ℕ) : Type 0 where
    pub items : List A
    pub count : length items ≡ n
    pub at : (x : ℕ) → x < n → (a : A) × (slice_get items x ≡ Some a) × P x a

  one_more : (n : ℕ) → IsListed n → (a : A) → P n a → IsListed (suc n)
  one_more n l a p = record {
    items = l.items ++ a ∷ [];
    count = omega (arith, length-append l.items (a ∷ []), l.count);
    at = λ x h. elim (cases_eq x n) [
      | inl e ↦ (
        a,
        subst (λ i. slice_get (l.items ++ a ∷ []) i ≡ Some a) (l.count ∙ sym e) (get_end l.items a),
        subst (λ i. P i a) (sym e) p,
      )
      | inr e ↦ let w = l.at x (omega arith) in (w.0, get_left l.items (a ∷ []) x w.0 w.1, w.2)
    ];
  }

  pub listed : (n : ℕ) → ((x : ℕ) → x < n → (a : A) × P x a) → IsListed n
  listed zero each = record { items = []; count = refl; at = λ x h. absurd (omega arith) }
  listed (suc n) each = let w = each n (omega arith) in one_more n (listed n (λ x h. each x (omega arith))) w.0 w.1

-- the edges for some questions, each of which has an edge or needs none
module _ {I : Type 0} (Good : Edge I → Type 0) (NeedsNone : Question I → Type 0) where
  pub record HasEdges (questions : List (Question I)) : Type 0 where
    pub edges : List (Edge I)
    pub are_good : (e : Edge I) → Contains edges e → Good e
    pub are_all : (q : Question I) → Contains questions q → Contains (map question_of edges) q ⊎ NeedsNone q

  with_edge : (q : Question I) (rest : List (Question I)) → NeedsNone q ⊎ ((e : Edge I) × (question_of e ≡ q) × Good e)
      → HasEdges rest → HasEdges (q ∷ rest)
  with_edge q rest (inl none) h = record {
    edges = h.edges;
    are_good = h.are_good;
    are_all = λ p has. elim (first_or_later q p rest has) [
      | inl same ↦ inr (subst NeedsNone same none)
      | inr later ↦ h.are_all p later
    ];
  }
  with_edge q rest (inr (e, asks, good)) h = record {
    edges = e ∷ h.edges;
    are_good = λ f has. elim (first_or_later e f h.edges has) [
      | inl same ↦ subst Good same good
      | inr later ↦ h.are_good f later
    ];
    are_all = λ p has. elim (first_or_later q p rest has) [
      | inl same ↦ inl (0, omega arith, asks ∙ same)
      | inr later ↦ elim (h.are_all p later) [
        | inl there ↦ inl (contains_later p (question_of e) (map question_of h.edges) there)
        | inr none ↦ inr none
      ]
    ];
  }

  pub has_edges : (questions : List (Question I))
      → ((q : Question I) → Contains questions q → NeedsNone q ⊎ ((e : Edge I) × (question_of e ≡ q) × Good e))
      → HasEdges questions
  has_edges [] each = record {
    edges = [];
    are_good = λ e has. absurd (omega (arith, has.1));
    are_all = λ q has. absurd (omega (arith, has.1));
  }
  has_edges (q ∷ rest) each =
      with_edge q rest (each q (0, omega arith, refl)) (has_edges rest (λ p has. each p (contains_later p q rest has)))

-- `Steps a k b` says that a step of kind k may lead from a to b, and `Goes` the same of a walk
pub record AreSteps (kind : PathKind) (Steps Goes : ℕ → PathKind → ℕ → Type 0) : Type 0 where
  pub stays : (a : ℕ) → Goes a Inductive a
  pub goes : (a b : ℕ) (k : PathKind) → Steps a k b → Goes a k b
  pub joins : (a b c : ℕ) (k l : PathKind) → Steps a k b → Goes b l c → Steps a (greater_kind k l) c
  pub closes : (a : ℕ) (k : PathKind) → Steps a k a → k ≡ kind

module _ {I : Type 0} (rule : I → List (Question I) → Type 0) (kind : PathKind)
    (Steps Goes : ℕ → PathKind → ℕ → Type 0) (lawful : AreSteps kind Steps Goes)
    (n : ℕ) (goal_at : ℕ → I) (IsIn : ℕ → Type 0) where
  -- the edge leads to a node of the goal that it asks
  pub record IsGoodEdge (x : ℕ) (e : Edge I) : Type 0 where
    pub within : e.target < n
    pub asks : goal_at e.target ≡ e.input
    pub is_in : IsIn e.target
    pub steps : Steps x e.kind e.target

  pub record IsGoodNode (x : ℕ) (node : GraphNode I) : Type 0 where
    pub has_goal : node.goal ≡ goal_at x
    pub is_shown : IsIn x → rule (goal_at x) (map question_of node.edges)
    pub are_good : IsIn x → (e : Edge I) → Contains node.edges e → IsGoodEdge x e

  module _ (nodes : List (GraphNode I))
      (good : (x : ℕ) → x < n → (a : GraphNode I) × (slice_get nodes x ≡ Some a) × IsGoodNode x a) where
    good_edge : (x : ℕ) (e : Edge I) → x < n → IsIn x → HasEdge nodes x e → IsGoodEdge x e
    good_edge x e l inside has =
        let w = good x l in
        w.2.are_good inside e (subst (λ o. IsSomeAnd o (λ node. Contains node.edges e)) w.1 has)

    goal_there : (x : ℕ) → x < n → HasGoal nodes x (goal_at x)
    goal_there x l = let w = good x l in ap (option_map (λ node. node.goal)) w.1 ∙ ap Some w.2.has_goal

    -- whatever is reached is in
    stays_in : (from to : ℕ) (walk : List (Edge I)) → from < n → IsIn from
        → IsWalk nodes from walk to → (to < n) × IsIn to
    stays_in from to [] l inside w = (subst (λ x. x < n) w l, subst IsIn w inside)
    stays_in from to (e ∷ rest) l inside w =
        let g = good_edge from e l inside w.0 in stays_in e.target to rest g.within g.is_in w.1

    -- a step, and a walk from where it leads
    goes_on : (from to : ℕ) (e : Edge I) (rest : List (Edge I)) → IsGoodEdge from e → Goes e.target (walk_kind rest) to
        → Steps from (walk_kind (e ∷ rest)) to
    goes_on from to e rest g walk = lawful.joins from e.target to e.kind (walk_kind rest) g.steps walk

    walk_goes : (from to : ℕ) (walk : List (Edge I)) → from < n → IsIn from
        → IsWalk nodes from walk to → Goes from (walk_kind walk) to
    walk_goes from to [] l inside w = subst (Goes from Inductive) w (lawful.stays from)
    walk_goes from to (e ∷ rest) l inside w =
        let g = good_edge from e l inside w.0 in
        lawful.goes from to (walk_kind (e ∷ rest))
        (goes_on from to e rest g (walk_goes e.target to rest g.within g.is_in w.1))

    walk_steps : (from to : ℕ) (e : Edge I) (rest : List (Edge I)) → from < n → IsIn from
        → IsWalk nodes from (e ∷ rest) to → Steps from (walk_kind (e ∷ rest)) to
    walk_steps from to e rest l inside w =
        let g = good_edge from e l inside w.0 in
        goes_on from to e rest g (walk_goes e.target to rest g.within g.is_in w.1)

    pub is_graph : (root : ℕ) → root < n → IsIn root → IsGraph rule kind nodes root (goal_at root)
    is_graph root l inside = record {
      rooted = goal_there root l;
      closed = λ at e reached has.
          let here = stays_in root at reached.0 l inside reached.1 in
          let g = good_edge at e here.0 here.1 has in
          subst (HasGoal nodes e.target) g.asks (goal_there e.target g.within);
      is_shown = λ at node reached is.
          let here = stays_in root at reached.0 l inside reached.1 in
          let w = good at here.0 in
          let same : w.0 ≡ node = cc in
          subst (λ m. rule m.goal (map question_of m.edges)) same
          (subst (λ g. rule g (map question_of w.0.edges)) (sym w.2.has_goal) (w.2.is_shown here.1));
      cycles = λ at e rest reached walk.
          let here = stays_in root at reached.0 l inside reached.1 in
          lawful.closes at (walk_kind (e ∷ rest)) (walk_steps at at e rest here.0 here.1 walk);
    }
