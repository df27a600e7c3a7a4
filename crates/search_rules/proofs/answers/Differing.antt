-- Where there is one yes and one no, and each stored result is yes or no, no goal comes to another yes or no than is
-- stored: both have their graphs.
use Rattle.std.proofs.Common.{◌≡◌, ◌≢◌, ℕ, Bool, true, false, if◌then◌else◌, List, Option, None, Some, Result, Ok, Err}
use Rattle.std.proofs.Common.{IfErr, refl, sym, subst}
use Rattle.std.specs.Option.{IsSomeAnd}
use Rattle.open_graphs.specs.Graph as theory
use Rattle.list_lemmas.proofs.Lists.{mapped_some}
use Rattle.search_rules.specs.Below.{AnswersStoring, Cache, Conflict, CxOf, DelegateOf, Fault, graph_nodes_of}
use Rattle.search_rules.specs.Below.{GraphNode, IsDefinite, IsProofGraph, IsRefutationGraph, Memory, NodeId, Place}
use Rattle.search_rules.specs.Below.{Protocol, stored_at, StoredResult, Validation, verdicts}
use Rattle.search_rules.specs.Words.{BreaksOrder, Conflicts, HasOneOfEach, IfDiffers, IsCaused, IsMemoryOrOrder}
use Rattle.search_rules.specs.Words.{OtherResult, OtherThanStored, OutOfMemory, OutOfOrder, WantsMemory}

-- what follows for the result that differs
pub differs_then : {I R : Type 0} (fault : Fault I R) (P Q : R → Type 0) → ((r : R) → P r → Q r)
    → IfDiffers fault P → IfDiffers fault Q
differs_then Memory P Q more h = tt
differs_then (Protocol number) P Q more h = tt
differs_then (Conflict goal stored found) P Q more h = more found h
differs_then (Validation goal stored found) P Q more h = more found h

-- the fault tells of two results of this goal
abbrev pub IsAbout : {I R : Type 0} → Fault I R → I → Type 0
IsAbout (Conflict other stored found) goal = other ≡ goal
IsAbout (Validation other stored found) goal = other ≡ goal
IsAbout fault goal = ⊥

-- storing finds no other result to differ than the one to be stored
conflict_of : {I R : Type 0} (goal : I) (found stored : R) (b : Bool) (r : Result (Unit {0}) (Fault I R))
    → r ≡ (if b then Ok tt else Err (Conflict goal stored found))
    → IfErr r (λ fault. IfDiffers fault (λ other. other ≡ found))
conflict_of goal found stored true r is =
    subst (λ x. IfErr x (λ fault. IfDiffers fault (λ other. other ≡ found))) (sym is) tt
conflict_of goal found stored false r is =
    subst (λ x. IfErr x (λ fault. IfDiffers fault (λ other. other ≡ found))) (sym is) refl

memory_of : {I R : Type 0} (found : R) (r : Result (Unit {0}) (Fault I R)) → IfErr r (λ fault. fault ≡ Memory)
    → IfErr r (λ fault. IfDiffers fault (λ other. other ≡ found))
memory_of found (Ok u) h = tt
memory_of found (Err fault) h = subst (λ f. IfDiffers f (λ other. other ≡ found)) (sym h) tt

pub storing_differs : {I R T : Type 0} (equal : R → R → Bool) (goal : I) (found : R)
    (o : Option (StoredResult I R T)) (r : Result (Unit {0}) (Fault I R))
    → AnswersStoring equal goal o found r → IfErr r (λ fault. IfDiffers fault (λ other. other ≡ found))
storing_differs equal goal found None r is = memory_of found r is
storing_differs equal goal found (Some s) r is =
    conflict_of goal found s.result.result (equal s.result.result found) r is

-- two of the same verdict, where neither is yes and the other no
abbrev verdict_at : Bool → Bool → theory.Verdict
verdict_at holds fails = if holds then theory.Yes else if fails then theory.No else theory.Neither

agree : (y n z m : Bool) → verdict_at y n ≢ theory.Neither → verdict_at z m ≢ theory.Neither
    → (y ≡ true → m ≡ true → z ≡ true) → (n ≡ true → z ≡ true → y ≡ true) → verdict_at y n ≡ verdict_at z m
agree true n true m one other proved refuted = refl
agree true n false true one other proved refuted = let clash : false ≡ true = proved refl refl in absurd cc
agree true n false false one other proved refuted = absurd (other refl)
agree false true true m one other proved refuted = let clash : false ≡ true = refuted refl refl in absurd cc
agree false true false true one other proved refuted = refl
agree false true false false one other proved refuted = absurd (other refl)
agree false false z m one other proved refuted = absurd (one refl)

module _ {D C V P F I R A T : Type 0} (G : DelegateOf D C V P F I R A T) (X : CxOf C I R A T) (same : I → I → Bool)
    (cache : Cache C I R T) (one_of_each : HasOneOfEach (verdicts X)) where
  never_fails : (goal : I) (o : Option NodeId)
      → IsSomeAnd o (λ root. IsRefutationGraph (X.refutes cache.cx) (graph_nodes_of cache.nodes) root.0 goal)
      → ((others : List (GraphNode I)) (top : ℕ) → IsRefutationGraph (X.refutes cache.cx) others top goal → ⊥) → ⊥
  never_fails goal None graph never = graph
  never_fails goal (Some n) graph never = never (graph_nodes_of cache.nodes) n.0 graph

  never_holds : (goal : I) (o : Option NodeId)
      → IsSomeAnd o (λ root. IsProofGraph (X.proves cache.cx) (graph_nodes_of cache.nodes) root.0 goal)
      → ((others : List (GraphNode I)) (top : ℕ) → IsProofGraph (X.proves cache.cx) others top goal → ⊥) → ⊥
  never_holds goal None graph never = graph
  never_holds goal (Some n) graph never = never (graph_nodes_of cache.nodes) n.0 graph

  -- each result that is stored of the goal is yes or no
  abbrev pub IsDefiniteOf : I → Type 0
  IsDefiniteOf goal = (place : Place) (s : StoredResult I R T) → stored_at same cache.results goal place ≡ Some s
      → IsDefinite (verdicts X) s.result.result

  never_conflicts : (goal : I) (stored found : R) → IsDefiniteOf goal → IsDefinite (verdicts X) found
      → Conflicts G X same cache goal stored found → ⊥
  never_conflicts goal stored found definite found_definite h =
      let there = mapped_some (λ (s : StoredResult I R T). s.result.result)
      (stored_at same cache.results goal h.place) stored h.is_stored in
      let stored_definite : IsDefinite (verdicts X) stored =
      subst (IsDefinite (verdicts X)) there.2 (definite h.place there.0 there.1) in
      h.differs
      (one_of_each stored found stored_definite
      (agree (X.is_yes stored) (X.is_no stored) (X.is_yes found) (X.is_no found) stored_definite found_definite
      (λ holds fails. absurd (never_fails goal h.found_node (h.found_is.is_refuted fails).graph
      (h.stored_is.is_proved holds).never_refuted))
      (λ fails holds. absurd (never_holds goal h.found_node (h.found_is.is_proved holds).graph
      (h.stored_is.is_refuted fails).never_proved))))

  pub memory_or_order : (fault : Fault I R) → ((goal : I) → IsAbout fault goal → IsDefiniteOf goal)
      → IfDiffers fault (IsDefinite (verdicts X)) → IsCaused G X same cache fault → IsMemoryOrOrder fault
  memory_or_order fault definite decided (OutOfMemory is) = WantsMemory is
  memory_or_order fault definite decided (OutOfOrder goal replies number fits at is) = BreaksOrder number is
  memory_or_order fault definite decided (OtherResult goal stored found conflicts is) =
      absurd
      (never_conflicts goal stored found (definite goal (subst (λ f. IsAbout f goal) (sym is) refl))
      (subst (λ f. IfDiffers f (IsDefinite (verdicts X))) is decided) conflicts)
  memory_or_order fault definite decided (OtherThanStored goal stored found scoped conflicts is) =
      absurd
      (never_conflicts goal stored found (definite goal (subst (λ f. IsAbout f goal) (sym is) refl))
      (subst (λ f. IfDiffers f (IsDefinite (verdicts X))) is decided) conflicts)
