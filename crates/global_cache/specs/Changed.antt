-- Rules change: what stays of scripts, of results and of nodes.
use Rattle.std.specs.Prelude.{◌≡◌, ◌&&◌, Bool, false, if◌then◌else◌, List, None}
use Rattle.search_context.specs.Rank.{AsksOnly}
use Rattle.search_context.specs.declared.context.Reply.{Reply}
use Rattle.search_context.specs.declared.context.Request.{Request}
use Rattle.global_cache.specs.declared.results.Place.{Place}
use Rattle.global_cache.specs.declared.results.Place.TheVariants.{Success}
use Rattle.global_cache.specs.Store.{same_place, Store, stored_at}
pub use Rattle.graph_nodes.specs.Forgotten.{is_among, KeepsOtherNodes}

-- Goals that are not gone have the scripts that they had, and ask only goals that are not gone.
pub record KeepsOthers {I R : Type 0} (is_gone : I → Bool)
    (before after : I → List (Reply R) → Request I R) : Type 0 where
  pub same : (goal : I) → is_gone goal ≡ false → (replies : List (Reply R))
      → before goal replies ≡ after goal replies
  pub stays : (goal : I) → is_gone goal ≡ false → AsksOnly (λ _ asked. is_gone asked ≡ false) (before goal)

-- of goals that are gone nothing is stored, and of all others what was stored
abbrev pub KeepsOtherResults : {I S : Type 0} → (I → I → Bool) → (I → Bool) → Store I S → Store I S → Type 0
KeepsOtherResults {I} same is_gone old new = (goal : I) (place : Place)
    → stored_at same new goal place ≡ (if is_gone goal then None else stored_at same old goal place)

-- of goals that are gone no success is stored, and all else is as it was
abbrev pub ForgetsSuccesses : {I S : Type 0} → (I → I → Bool) → (I → Bool) → Store I S → Store I S → Type 0
ForgetsSuccesses {I} same is_gone old new = (goal : I) (place : Place) → stored_at same new goal place
    ≡ (if is_gone goal && same_place Success place then None else stored_at same old goal place)
