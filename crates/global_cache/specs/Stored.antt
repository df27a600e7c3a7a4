-- What each stored result is worth: the graph that it comes with, and what is known of it by its place.
use Rattle.std.specs.Prelude.{◌≡◌, Bool, List, Some}
use Rattle.search_context.specs.declared.context.Request.{Request}
use Rattle.search_context.specs.declared.context.Reply.{Reply}
use Rattle.global_cache.specs.declared.results.Place.{Place}
use Rattle.global_cache.specs.declared.results.Place.TheVariants.{Success, WithOverflow}
use Rattle.global_cache.specs.declared.results.StoredResult.{StoredResult}
use Rattle.graph_nodes.specs.Nodes.{CacheNode}
use Rattle.graph_nodes.specs.Definite.{HasGraph}
use Rattle.search_context.specs.Rank.{IsPlain, IsBelowRank}
use Rattle.global_cache.specs.Store.{Store, stored_at}
use Rattle.search_context.specs.Verdicts.{Verdicts}

-- if the goal has a rank, its success is its plain value, and it met overflow only at a depth below the rank
abbrev pub IsPlainAt : {I R : Type 0} → (I → List (Reply R) → Request I R) → I → Place → R → Type 0
IsPlainAt scripts input Success r = IsPlain scripts input r
IsPlainAt scripts input (WithOverflow depth) r = IsBelowRank scripts input depth

-- a result of the goal may be stored at the place
pub record IsSoundResult {I R T : Type 0} (says : Verdicts R) (scripts : I → List (Reply R) → Request I R)
    (nodes : List (CacheNode I R)) (input : I) (place : Place) (stored : StoredResult I R T) : Type 0 where
  pub graph : HasGraph says nodes input stored.result.result stored.node
  pub plain : IsPlainAt scripts input place stored.result.result

-- each stored result is one that may be stored at its place
abbrev pub AreSoundResults : {I R T : Type 0} → (I → I → Bool) → Verdicts R → (I → List (Reply R) → Request I R)
    → List (CacheNode I R) → Store I (StoredResult I R T) → Type 0
AreSoundResults {I} {R} {T} same says scripts nodes results =
    (input : I) (place : Place) (s : StoredResult I R T)
    → stored_at same results input place ≡ Some s → IsSoundResult says scripts nodes input place s
