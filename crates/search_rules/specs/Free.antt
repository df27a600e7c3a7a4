-- Answers that rest on no goal under evaluation.
use Rattle.std.specs.Prelude.{◌≡◌, Bool, List, Option, Some}
use Rattle.search_rules.specs.Below.{Use, stack_of, no_heads, NodeId, Place, StoredResult, CacheNode, HasNode}
use Rattle.search_rules.specs.Below.{shapes_of, Store, stored_at, Verdicts}
use Rattle.search_rules.specs.Justified.{OpenRun, frames_of}

-- A definite result has a node of the goal whose graph leads to no goal under evaluation. Where no goal is under
-- evaluation, this says that it has its graph.
abbrev pub IsFree : {I R : Type 0} → Verdicts R → List (CacheNode I R)
    → List (OpenRun I R) → I → R → Option NodeId → Type 0
IsFree says nodes goals = HasNode says nodes
    (λ verdict n. Use (shapes_of says nodes) verdict (stack_of (frames_of says goals)) (λ depth. 0) 0 n no_heads)

-- the same of each stored result
abbrev pub AreFree : {I R T : Type 0} → Verdicts R → (I → I → Bool) → List (CacheNode I R) → List (OpenRun I R)
    → Store I (StoredResult I R T) → Type 0
AreFree {I} {R} {T} says same nodes goals results =
    (goal : I) (place : Place) (s : StoredResult I R T) → stored_at same results goal place ≡ Some s
    → IsFree says nodes goals goal s.result.result s.node
