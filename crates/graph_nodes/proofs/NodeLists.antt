-- A cache's list of nodes as it grows: an open node is appended, or the run of an open node ends. Nodes keep their
-- goals, finished nodes stay as they are, and runs stay runs.
use Rattle.std.proofs.Common.{◌≡◌, ℕ, Bool, true, false, if◌then◌else◌, List, [], ◌∷◌, ◌++◌, Option, None, Some}
use Rattle.std.proofs.Common.{option_map, slice_get, slice_set, refl, sym, ◌∙◌, ap, subst, inl, inr}
use native.Mathlib.Decide.{ℕ_discrete}
use Rattle.std.specs.Option.{IsSomeAnd}
use Rattle.std.proofs.lemmas.List.{map-append, map-set}
use Rattle.std.proofs.lemmas.Option.{slice_get-map}
use Rattle.open_graphs.specs.Graph as theory
use Rattle.list_lemmas.proofs.Lists.{mapped_some, get_left, get_cases, get_set_same, get_set_other}
use Rattle.open_graphs.proofs.Keep.{append_grows, finish_grows}
use Rattle.graph_nodes.specs.Below.{Request, Reply, Verdicts}
use Rattle.graph_nodes.specs.Words.{EndedRun, CacheNode, goal_if_open, open_node, open_goal, with_run, IsNodeOf, IsRun}
use Rattle.graph_nodes.specs.Words.{AreRuns, KeepsNodes, KeepsGoals, run_shape, shape_of, shapes_of}

-- what is at a place
pub node_at : {I R : Type 0} (o : Option (CacheNode I R)) (goal : I) → option_map (λ n. n.goal) o ≡ Some goal
    → (n : CacheNode I R) × (o ≡ Some n) × (n.goal ≡ goal)
node_at o goal h = mapped_some (λ n. n.goal) o goal h

IsNodeOf-from : {I R : Type 0} (nodes : List (CacheNode I R)) (at : ℕ) (n : CacheNode I R) (goal : I)
    → slice_get nodes at ≡ Some n → n.goal ≡ goal → IsNodeOf nodes at goal
IsNodeOf-from nodes at n goal is same = ap (option_map (λ m. m.goal)) is ∙ ap Some same

KeepsGoals-from : {I R : Type 0} (old new : List (CacheNode I R)) → KeepsNodes old new → KeepsGoals old new
KeepsGoals-from old new kept at goal h =
    let w = node_at (slice_get old at) goal h in IsNodeOf-from new at w.0 goal (kept at w.0 w.1) w.2

-- a run stays one while the nodes keep their goals
IsRun-kept : {I R : Type 0} (says : Verdicts R) (script : List (Reply R) → Request I R) (old new : List (CacheNode I R))
    (run : EndedRun I R) → KeepsGoals old new → IsRun says script old run → IsRun says script new run
IsRun-kept says script old new run kept h = record {
  ends = h.ends;
  yes = h.yes;
  no = h.no;
  asked = h.asked;
  targets = λ i e is. kept e.target e.input (h.targets i e is);
}

-- the list with an open node, unless the growth was refused
abbrev pub appended : {I R : Type 0} → Bool → List (CacheNode I R) → I → List (CacheNode I R)
appended grew nodes goal = if grew then nodes ++ open_node goal ∷ [] else nodes

pub KeepsNodes-appended : {I R : Type 0} (grew : Bool) (nodes : List (CacheNode I R)) (goal : I)
    → KeepsNodes nodes (appended grew nodes goal)
KeepsNodes-appended true nodes goal at n is = get_left nodes (open_node goal ∷ []) at n is
KeepsNodes-appended false nodes goal at n is = is

pub KeepsGoals-appended : {I R : Type 0} (grew : Bool) (nodes : List (CacheNode I R)) (goal : I)
    → KeepsGoals nodes (appended grew nodes goal)
KeepsGoals-appended grew nodes goal =
    KeepsGoals-from nodes (appended grew nodes goal) (KeepsNodes-appended grew nodes goal)

pub Grown-appended : {I R : Type 0} (says : Verdicts R) (grew : Bool) (nodes : List (CacheNode I R)) (goal : I)
    → theory.Grown (shapes_of says nodes) (shapes_of says (appended grew nodes goal))
Grown-appended says true nodes goal =
    subst (theory.Grown (shapes_of says nodes)) (sym (map-append (shape_of says) nodes (open_node goal ∷ [])))
    (append_grows (shapes_of says nodes))
Grown-appended says false nodes goal = λ at verdict edges is. is

AreRuns-grown : {I R : Type 0} (says : Verdicts R) (scripts : I → List (Reply R) → Request I R)
    (nodes : List (CacheNode I R)) (goal : I)
    → AreRuns says scripts nodes → AreRuns says scripts (nodes ++ open_node goal ∷ [])
AreRuns-grown says scripts nodes goal h at n run is ended = elim (get_cases nodes (open_node goal) at n is) [
  | inl old ↦ IsRun-kept says (scripts n.goal) nodes (nodes ++ open_node goal ∷ []) run
      (KeepsGoals-appended true nodes goal) (h at n run old ended)
  | inr new ↦ let none : None ≡ Some run = ap (λ x. x.run) new.1 ∙ ended in absurd cc
]

pub AreRuns-appended : {I R : Type 0} (says : Verdicts R) (scripts : I → List (Reply R) → Request I R) (grew : Bool)
    (nodes : List (CacheNode I R)) (goal : I)
    → AreRuns says scripts nodes → AreRuns says scripts (appended grew nodes goal)
AreRuns-appended says scripts true nodes goal h = AreRuns-grown says scripts nodes goal h
AreRuns-appended says scripts false nodes goal h = h

open_case : {I R : Type 0} (goal : I) (run : Option (EndedRun I R)) (gone : Bool) (P : I → Type 0)
    → IsSomeAnd (elim run [ None ↦ if gone then None else Some goal | Some r ↦ None ]) P
    → (run ≡ None) × (gone ≡ false) × P goal
open_case goal None true P h = absurd h
open_case goal None false P h = (refl, refl, h)
open_case goal (Some r) gone P h = absurd h

open_at : {I R : Type 0} (o : Option (CacheNode I R)) (P : I → Type 0)
    → IsSomeAnd (elim o [ None ↦ None | Some n ↦ goal_if_open n ]) P
    → (n : CacheNode I R) × (o ≡ Some n) × (n.run ≡ None) × P n.goal × (n.gone ≡ false)
open_at None P h = absurd h
open_at (Some n) P h = let w = open_case n.goal n.run n.gone P h in (n, refl, w.0, w.2, w.1)

-- the run of an open node ends
module _ {I R : Type 0} (nodes : List (CacheNode I R)) (k : ℕ) (run : EndedRun I R) (P : I → Type 0)
    (is_open : IsSomeAnd (open_goal nodes k) P) where
  -- the node before
  pub before : (n : CacheNode I R) × (slice_get nodes k ≡ Some n) × (n.run ≡ None) × P n.goal × (n.gone ≡ false)
  before = open_at (slice_get nodes k) P is_open

  abbrev after : CacheNode I R
  after = record before.0 { run = Some run }

  pub with_run-is : with_run nodes k run ≡ slice_set nodes k (record before.0 { run = Some run })
  with_run-is = ap (λ o. elim o [ None ↦ nodes | Some n ↦ slice_set nodes k (record n { run = Some run }) ]) before.1

  pub node_is : slice_get (with_run nodes k run) k ≡ Some (record before.0 { run = Some run })
  node_is = ap (λ more. slice_get more k) with_run-is ∙ get_set_same nodes k before.0 after before.1

  pub others_are : (at : ℕ) → (at ≡ k → ⊥) → slice_get (with_run nodes k run) at ≡ slice_get nodes at
  others_are at other = ap (λ more. slice_get more at) with_run-is ∙ get_set_other nodes k after at other

  pub KeepsGoals-ended : KeepsGoals nodes (with_run nodes k run)
  KeepsGoals-ended at goal h =
      elim (ℕ_discrete at k) [
        | yes e ↦
            let w = node_at (slice_get nodes k) goal (subst (λ x. IsNodeOf nodes x goal) e h) in
            let there : Some before.0 ≡ Some w.0 = sym before.1 ∙ w.1 in
            let same : before.0 ≡ w.0 = cc in
            subst (λ x. IsNodeOf (with_run nodes k run) x goal) (sym e)
            (IsNodeOf-from (with_run nodes k run) k after goal node_is (ap (λ n. n.goal) same ∙ w.2))
        | no d ↦ ap (option_map (λ n. n.goal)) (others_are at d) ∙ h
      ]

  pub Grown-ended : (says : Verdicts R) → theory.Grown (shapes_of says nodes) (shapes_of says (with_run nodes k run))
  Grown-ended says =
      subst (λ more. theory.Grown (shapes_of says nodes) (shapes_of says more)) (sym with_run-is)
      (subst (theory.Grown (shapes_of says nodes)) (sym (map-set (shape_of says) nodes k after))
      (finish_grows (shapes_of says nodes) k (run_shape says run)
      (slice_get-map (shape_of says) nodes k
      ∙ (ap (option_map (shape_of says)) before.1
      ∙ ap (λ r. Some (shape_of says (record before.0 { run = r }))) before.2))))

pub AreRuns-ended : {I R : Type 0} (says : Verdicts R) (scripts : I → List (Reply R) → Request I R)
    (nodes : List (CacheNode I R)) (k : ℕ) (run : EndedRun I R)
    → IsSomeAnd (open_goal nodes k) (λ goal. IsRun says (scripts goal) nodes run) → AreRuns says scripts nodes
    → AreRuns says scripts (with_run nodes k run)
AreRuns-ended {I} {R} says scripts nodes k run is_open h at n r there ended =
    let P : I → Type 0 = λ goal. IsRun says (scripts goal) nodes run in
    let kept = KeepsGoals-ended nodes k run P is_open in
    let w = before nodes k run P is_open in
    elim (ℕ_discrete at k) [
      | yes e ↦
          let both : Some (record w.0 { run = Some run }) ≡ Some n =
          sym (node_is nodes k run P is_open) ∙ (ap (slice_get (with_run nodes k run)) (sym e) ∙ there) in
          let goals : w.0.goal ≡ n.goal = cc in
          let runs : run ≡ r = cc in
          IsRun-kept says (scripts n.goal) nodes (with_run nodes k run) r kept
          (subst (λ g. IsRun says (scripts g) nodes r) goals (subst (IsRun says (scripts w.0.goal) nodes) runs w.3))
      | no d ↦
          IsRun-kept says (scripts n.goal) nodes (with_run nodes k run) r kept
          (h at n r (sym (others_are nodes k run P is_open at d) ∙ there) ended)
    ]
