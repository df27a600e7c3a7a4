-- Where no goal is gone, no node goes.
use Rattle.std.proofs.Common.{◌≡◌, Bool, false, List, inl, inr, sym, ◌∙◌, arith}
use Rattle.std.proofs.lemmas.Option.{slice_get_cases, slice_get_past}
use Rattle.global_cache.specs.Words.{KeepsOtherNodes}
use Rattle.graph_nodes.proofs.HeldNodes.{same_by_places}
use Rattle.search_parts.specs.Below.{CacheNode}

pub nothing_goes : {I R : Type 0} (is_gone : I → Bool) → ((goal : I) → is_gone goal ≡ false)
    → (old new : List (CacheNode I R)) → KeepsOtherNodes is_gone old new → new ≡ old
nothing_goes is_gone none old new kept = same_by_places new old (λ at. elim (slice_get_cases old at).1 [
  | inl there ↦ kept.kept at there.0 there.2 (none there.0.goal) ∙ sym there.2
  | inr past ↦ slice_get_past new at (omega (arith, past.0, kept.as_many)) ∙ sym past.1
])
