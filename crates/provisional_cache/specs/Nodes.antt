-- The nodes to which entries lead.
use Rattle.std.specs.Prelude.{List}
use Rattle.std.specs.List.{filter_map, flat_map}
use Rattle.search_context.specs.declared.context.NodeId.{NodeId}
use Rattle.provisional_cache.specs.Provisional.{Lists}
use Rattle.provisional_cache.specs.declared.ProvisionalCacheEntry.{ProvisionalCacheEntry}

module _ {X I R A T : Type 0} where
  -- the nodes of the entries that have one
  abbrev pub nodes_of : List (ProvisionalCacheEntry X I R A T) → List NodeId
  nodes_of entries = filter_map (λ entry. entry.node) entries

  -- the same of the entries in all lists
  abbrev pub nodes_in : {K : Type 0} → Lists K (ProvisionalCacheEntry X I R A T) → List NodeId
  nodes_in lists = flat_map (λ list. nodes_of list.1) lists
