-- What answers and faults claim.
use Rattle.std.specs.Prelude.{◌≡◌, ◌≢◌, ◌⊎◌, ℕ, Bool, true, List, Option, Some}
use Rattle.std.specs.Option.{IsSomeAnd, option_map}
use Rattle.search_rules.specs.Below.{CxOf, DelegateOf, NodeId, Store, StoredResult, first_accepted, usable, Request}
use Rattle.search_rules.specs.Below.{Done, Reply, Fault, Conflict, Memory, Protocol, Validation, Place, IsFitting}
use Rattle.search_rules.specs.Below.{fault_after, request_after, stored_at, Cache, graph_nodes_of, GraphNode}
use Rattle.search_rules.specs.Below.{IsProofGraph, IsRefutationGraph, IsDefinite, verdict_of, Verdicts}
use Rattle.search_context.specs.declared.context.Answer.{Answer}

module _ {C I R A T : Type 0} (X : CxOf C I R A T) (cache : Cache C I R T) (goal : I) (node : Option NodeId) where
  -- the node is the root of a proof graph of the goal, which has no refutation graph anywhere
  pub record IsProved : Type 0 where
    pub graph : IsSomeAnd node (λ root. IsProofGraph (X.proves cache.cx) (graph_nodes_of cache.nodes) root.0 goal)
    pub never_refuted : (others : List (GraphNode I)) (top : ℕ)
        → IsRefutationGraph (X.refutes cache.cx) others top goal → ⊥

  -- the node is the root of a refutation graph of the goal, which has no proof graph anywhere
  pub record IsRefuted : Type 0 where
    pub graph : IsSomeAnd node (λ root. IsRefutationGraph (X.refutes cache.cx) (graph_nodes_of cache.nodes) root.0 goal)
    pub never_proved : (others : List (GraphNode I)) (top : ℕ) → IsProofGraph (X.proves cache.cx) others top goal → ⊥

  -- the result has its graph, if it is yes or no
  pub record IsShown (r : R) : Type 0 where
    pub is_proved : X.is_yes r ≡ true → IsProved
    pub is_refuted : X.is_no r ≡ true → IsRefuted

-- the result is yes if the goal has a proof graph anywhere, and no if it has a refutation graph
pub record Decides {C I R A T : Type 0} (X : CxOf C I R A T) (cx : C) (goal : I) (r : R) : Type 0 where
  pub proved : (nodes : List (GraphNode I)) (root : ℕ) → IsProofGraph (X.proves cx) nodes root goal → X.is_yes r ≡ true
  pub refuted : (nodes : List (GraphNode I)) (root : ℕ)
      → IsRefutationGraph (X.refutes cx) nodes root goal → X.is_no r ≡ true

-- a call for the goal at this depth is answered so by what is stored
abbrev pub IsRemembered : {I R T : Type 0} → (I → I → Bool)
    → Store I (StoredResult I R T) → I → ℕ → Answer R → Type 0
IsRemembered same results goal depth answer =
    IsSomeAnd (first_accepted (λ _. true) (usable same results goal depth))
    (λ hit. (hit.result ≡ answer.result) × (hit.node ≡ answer.node))

-- The goal came to the result: its script did after replies that fit, or it had its most runs.
abbrev pub ComesTo : {I R : Type 0} → (I → List (Reply R) → Request I R) → (I → R) → I → R → Type 0
ComesTo {I} {R} scripts limit_result goal r =
    ((replies : List (Reply R)) × IsFitting (scripts goal) replies
    × (request_after (scripts goal) replies ≡ Some (Done r)))
    ⊎ (r ≡ limit_result goal)

-- where the fault is that another result is stored than a goal came to, this holds of the one that it came to
abbrev pub IfDiffers : {I R : Type 0} → Fault I R → (R → Type 0) → Type 0
IfDiffers (Conflict goal stored found) Holds = Holds found
IfDiffers (Validation goal stored found) Holds = Holds found
IfDiffers fault Holds = Unit {0}

-- memory is out, or a request came out of order
pub data IsMemoryOrOrder {I R : Type 0} (fault : Fault I R) : Type 0 where
  WantsMemory : fault ≡ Memory → IsMemoryOrOrder fault
  BreaksOrder : (number : ℕ) → fault ≡ Protocol number → IsMemoryOrOrder fault

-- results that are both yes, or both no, are equal
abbrev pub HasOneOfEach : {R : Type 0} → Verdicts R → Type 0
HasOneOfEach {R} says = (x y : R) → IsDefinite says x → verdict_of says x ≡ verdict_of says y → x ≡ y

module _ {D C V P F I R A T : Type 0} (G : DelegateOf D C V P F I R A T) (X : CxOf C I R A T)
    (same : I → I → Bool) (cache : Cache C I R T) where
  -- The goal came to `found`, and the cache holds another result of it in the same place. Each of the two has its
  -- graph, if it is yes or no.
  pub record Conflicts (goal : I) (stored found : R) : Type 0 where
    pub place : Place
    pub is_stored : option_map (λ s. s.result.result) (stored_at same cache.results goal place) ≡ Some stored
    pub differs : stored ≢ found
    pub comes : ComesTo (G.script cache.cx) (G.fixpoint_overflow cache.cx) goal found
    pub stored_node : Option NodeId
    pub stored_is : IsShown X cache goal stored_node stored
    pub found_node : Option NodeId
    pub found_is : IsShown X cache goal found_node found

  -- memory is out, some goal's script makes a request out of order after replies that fit, two results conflict, or a
  -- goal in a scope came to another result than is stored
  pub data IsCaused (fault : Fault I R) : Type 0 where
    OutOfMemory : fault ≡ Memory → IsCaused fault
    OutOfOrder : (goal : I) (replies : List (Reply R)) (number : ℕ) → IsFitting (G.script cache.cx goal) replies
        → fault_after (G.script cache.cx goal) replies ≡ Some number → fault ≡ Protocol number → IsCaused fault
    OtherResult : (goal : I) (stored found : R) → Conflicts goal stored found
        → fault ≡ Conflict goal stored found → IsCaused fault
    OtherThanStored : (goal : I) (stored found : R) → G.scoped cache.cx goal ≡ true → Conflicts goal stored found
        → fault ≡ Validation goal stored found → IsCaused fault
