-- Goals that decide, as far as a call's goal may reach them by questions.
use Rattle.std.specs.Prelude.{◌≡◌, ◌⊎◌, Bool, List, Some}
use Rattle.std.specs.Option.{option_map}
use Rattle.search_context.specs.Decisive.{AreDecided, IsDecidedKind}
use Rattle.search_context.specs.Run.{IsFitting, request_after}
use Rattle.search_graph.specs.Below.{Done, IsDefinite, PathKind, Place, Reply, Request, Store, stored_at}
use Rattle.search_graph.specs.Below.{StoredResult, Verdicts}
use Rattle.search_graph.specs.Reaching.{MayAsk, MayReach}

module _ {I R : Type 0} (says : Verdicts R) (scripts : I → List (Reply R) → Request I R) (top : I) where
  -- Each goal that is reached asks inductively and coinductively alone, and after answers that are yes or no its
  -- result is one of these.
  pub record DecidesFrom : Type 0 where
    pub asks : (goal asked : I) (kind : PathKind) → MayReach scripts top goal
        → MayAsk scripts goal kind asked → IsDecidedKind kind
    pub ends : (goal : I) (replies : List (Reply R)) (r : R)
        → MayReach scripts top goal → IsFitting (scripts goal) replies
        → AreDecided says replies → request_after (scripts goal) replies ≡ Some (Done r) → IsDefinite says r

  -- each result that is stored of a goal that is reached is yes or no
  abbrev pub AreDefiniteFrom : {T : Type 0} → (I → I → Bool) → Store I (StoredResult I R T) → Type 0
  AreDefiniteFrom {T} same results =
      (goal : I) → MayReach scripts top goal → (place : Place) (s : StoredResult I R T)
      → stored_at same results goal place ≡ Some s → IsDefinite says s.result.result

-- each result that is stored afterwards is yes or no, or was stored in its place before
abbrev pub StoresDefinite : {I R T : Type 0} → Verdicts R → (I → I → Bool)
    → (old new : Store I (StoredResult I R T)) → Type 0
StoresDefinite {I} {R} {T} says same old new =
    (goal : I) (place : Place) (s : StoredResult I R T) → stored_at same new goal place ≡ Some s
    → IsDefinite says s.result.result
    ⊎ (option_map (λ t. t.result.result) (stored_at same old goal place) ≡ Some s.result.result)
