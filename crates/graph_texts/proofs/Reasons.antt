-- What a text names is so in a valid graph.
use Rattle.std.proofs.Common.{◌≡◌, ◌∙◌, ℕ, zero, suc, All, Bool, List, [], ◌∷◌, Contains, IfNone, IfSome, map, None}
use Rattle.std.proofs.Common.{Option, Some, ap, arith, refl, reverse, slice_get, subst, sym}
use Rattle.list_lemmas.proofs.Members.{contains_later, Contains-map, Contains-mapped}
use Rattle.std.proofs.lemmas.List.Elements.{All-contains, All-contains_itself, All-weaker}
use Rattle.std.specs.List.{AllZip}
use Rattle.candidate_lists.specs.Laws.Runs.{no_is_refuted, yes_is_proved}
use Rattle.rule_tables.specs.Rules as rules
use Rattle.search_context.specs.Graph as graph
use Rattle.search_context.specs.Graph.{HasGoal}
use Rattle.graph_texts.specs.Below.{Asking, Candidate, candidates_of, Coinductive, Edge, Goal, goal_nodes_of, HasEdge}
use Rattle.graph_texts.specs.Below.{Inductive, is_no, is_yes, IsValid, Node, Outcome, PathKind, Rules}
use Rattle.graph_texts.specs.Grounds.{AreQuestions, asked_by, FailsAt, Holds, IsAsked, question_of}
use Rattle.graph_texts.specs.Reasons.{IsAnswered, NamesAnswered, NamesHolding, scripts_of}

-- the node behind a goal
target_node : (nodes : List (Node Goal Outcome)) (place : ℕ) (goal : Goal) → HasGoal (goal_nodes_of nodes) place goal
    → (n : Node Goal Outcome) × (slice_get nodes place ≡ Some n) × (n.input ≡ goal)
target_node [] place goal has = absurd cc
target_node (n ∷ nodes) zero goal has = (n, refl, cc)
target_node (n ∷ nodes) (suc place) goal has = target_node nodes place goal has

-- a node's edge is one of the graph
has_edge : (nodes : List (Node Goal Outcome)) (place : ℕ) (n : Node Goal Outcome) (e : Edge Goal)
    → slice_get nodes place ≡ Some n → Contains n.edges.items e → HasEdge (goal_nodes_of nodes) place e
has_edge [] place n e is there = absurd cc
has_edge (first ∷ nodes) zero n e is there =
    let same : n ≡ first = cc in subst (λ (m : Node Goal Outcome). Contains m.edges.items e) same there
has_edge (first ∷ nodes) (suc place) n e is there = has_edge nodes place n e is there

module _ (kind : PathKind) (passes : Outcome → Bool) (table : Rules) (nodes : List (Node Goal Outcome)) (goal : Goal)
    (valid : IsValid passes kind (scripts_of table) nodes goal)
    (place : ℕ) (node : Node Goal Outcome) (is_node : slice_get nodes place ≡ Some node)
    (questions : List (PathKind × Goal)) (are : AreQuestions node.edges.items questions) where
  -- what an edge asks is answered there
  answered : (asking : Asking) → IsAsked questions asking → IsAnswered passes nodes place asking
  answered asking asked =
      let there = Contains-map question_of node.edges.items (asked_by asking) ((are (asked_by asking)).0 asked) in
      let edge = has_edge nodes place node there.0 is_node there.1 in
      let target = target_node nodes there.0.target there.0.input (valid.closed place there.0 edge) in
      record {
        edge = there.0;
        is_edge = edge;
        same_kind = ap (λ question. question.0) there.2;
        target = target.0;
        is_target = target.1;
        same_goal = target.2 ∙ ap (λ question. question.1) there.2;
        has_result = (valid.runs there.0.target target.0 target.1).sort;
      }

  -- a question of the node's edges is asked
  asked_of_edge : (asking : Asking) → Contains (map graph.question_of node.edges.items) (rules.question_of asking)
      → IsAsked questions asking
  asked_of_edge asking there =
      let e = Contains-map graph.question_of node.edges.items (rules.question_of asking) there in
      let same : question_of e.0 ≡ asked_by asking = ap (λ question. (question.kind, question.goal)) e.2 in
      (are (asked_by asking)).1 (subst (Contains (map question_of node.edges.items)) same
      (Contains-mapped question_of node.edges.items e.0 e.1))

  named_one : (rule : Candidate) → ((all : All (λ asking. ¬ IsAsked questions asking) rule.questions) → ⊥)
      → (named : Option Asking) → FailsAt questions rule named → NamesAnswered passes nodes place rule named
  named_one rule some (Some asking) fails = (fails.0, answered asking fails.1)
  named_one rule some None fails = absurd (some fails)

  held : (rules : List Candidate) → (((rule : Candidate) → Contains rules rule → ¬ Holds questions rule) → ⊥) →
      (named : Option Candidate) →
      IfSome named (λ rule. Contains rules rule × Holds questions rule) →
      IfNone named ((rule : Candidate) → Contains rules rule → ¬ Holds questions rule) →
      NamesHolding passes nodes place rules named
  held rules some (Some rule) holds none =
      (holds.0, All-weaker (IsAsked questions) (IsAnswered passes nodes place) answered rule.questions holds.1)
  held rules some None holds none = absurd (some none)

zipped : {A B : Type 0} (R S : A → B → Type 0) (xs : List A) (ys : List B)
    → ((x : A) → Contains xs x → (y : B) → R x y → S x y) → AllZip R xs ys → AllZip S xs ys
zipped R S [] [] each all = tt
zipped R S [] (y ∷ ys) each all = absurd all
zipped R S (x ∷ xs) [] each all = absurd all
zipped R S (x ∷ xs) (y ∷ ys) each all =
    (each x (0, omega arith, refl) y all.0, zipped R S xs ys (λ z there. each z (contains_later z x xs there)) all.1)

module _ (table : Rules) (nodes : List (Node Goal Outcome)) (goal : Goal) (place : ℕ) (node : Node Goal Outcome)
    (is_node : slice_get nodes place ≡ Some node)
    (questions : List (PathKind × Goal)) (are : AreQuestions node.edges.items questions) where
  pub questions_fail : (valid : IsValid is_no Inductive (scripts_of table) nodes goal) →
      (named : List (Option Asking)) →
      AllZip (FailsAt questions) (candidates_of table node.input) named →
      AllZip (NamesAnswered is_no nodes place) (candidates_of table node.input) named
  questions_fail valid named all =
      let run = valid.runs place node is_node in
      let refuted = no_is_refuted rules.question_of (candidates_of table node.input)
      (reverse node.replies.items) node.result run.ends run.sort in
      let some : (rule : Candidate) → Contains (candidates_of table node.input) rule
      → All (λ asking. ¬ IsAsked questions asking) rule.questions → ⊥ = λ rule is_rule none.
      let o = refuted rule is_rule in
      let a = Contains-map rules.question_of rule.questions o.0 o.1 in
      let on_edge = subst (λ q. Contains (map graph.question_of node.edges.items) q) (sym a.2)
      (subst (λ failed. Contains failed o.0) (sym run.edges) o.2) in
      All-contains (λ asking. ¬ IsAsked questions asking) rule.questions a.0 none a.1
      (asked_of_edge Inductive is_no table nodes goal valid place node is_node questions are a.0 on_edge) in
      zipped (FailsAt questions) (NamesAnswered is_no nodes place) (candidates_of table node.input) named
      (λ rule is_rule one fails. named_one Inductive is_no table nodes goal valid place node is_node questions are
      rule (some rule is_rule) one fails) all

  pub rules_hold : (valid : IsValid is_yes Coinductive (scripts_of table) nodes goal) → (named : Option Candidate) →
      IfSome named (λ rule. Contains (candidates_of table node.input) rule × Holds questions rule) →
      IfNone named ((rule : Candidate) → Contains (candidates_of table node.input) rule → ¬ Holds questions rule) →
      NamesHolding is_yes nodes place (candidates_of table node.input) named
  rules_hold valid named holds none =
      let run = valid.runs place node is_node in
      let proved = yes_is_proved rules.question_of (candidates_of table node.input)
      (reverse node.replies.items) node.result run.ends run.sort in
      let rule = proved.candidate in
      let asked = All-weaker (Contains rule.questions) (IsAsked questions)
      (λ asking there. asked_of_edge Coinductive is_yes table nodes goal valid place node is_node questions are asking
      (subst (λ held. Contains held (rules.question_of asking)) (sym run.edges)
      (proved.within (rules.question_of asking) (Contains-mapped rules.question_of rule.questions asking there))))
      rule.questions (All-contains_itself rule.questions) in
      held Coinductive is_yes table nodes goal valid place node is_node questions are (candidates_of table node.input)
      (λ none_holds. none_holds rule proved.is_candidate asked)
      named holds none
