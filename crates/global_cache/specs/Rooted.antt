-- The nodes of stored results, as nodes are let go to which nothing leads any more.
use Rattle.std.specs.Prelude.{◌≡◌, ◌⊎◌, ◌<◌, ℕ, Bool, Contains, List, Some}
use Rattle.std.specs.Option.{IfSome}
use Rattle.search_context.specs.declared.context.NodeId.{NodeId}
use Rattle.global_cache.specs.declared.results.Place.{Place}
use Rattle.global_cache.specs.declared.results.StoredResult.{StoredResult}
use Rattle.global_cache.specs.Store.{Store, stored_at}

-- the node of each stored result is before this place, or is one of the roots
abbrev pub AreRooted : {I R T : Type 0} → (I → I → Bool) → ℕ → List NodeId
    → Store I (StoredResult I R T) → Type 0
AreRooted {I} {R} {T} same first roots results =
    (goal : I) (place : Place) (s : StoredResult I R T)
    → stored_at same results goal place ≡ Some s → IfSome s.node (λ n. (n.0 < first) ⊎ Contains roots n)
