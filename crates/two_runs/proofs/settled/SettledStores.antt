-- Where two runs of a goal are enough, provisional entries stand apart, and a move that fails leaves the
-- stored results settled.
use Rattle.std.proofs.Common.{◌≡◌, Bool, List, sym, inl, inr, subst}
use Rattle.two_runs.specs.Below.{AreFree, Cache, Call, CxOf, DelegateOf, KeepsFinished, Lists, OpenGoal}
use Rattle.two_runs.specs.Below.{ProvisionalCacheEntry, Received, Store, StoredResult, verdicts}
use Rattle.two_runs.specs.Evaluations.{EntriesSuitCall, IsSettledStore, NoneUsed, OneKind, Settles}
use Rattle.search_state.specs.declared.evaluation.Evaluation.{Evaluation}
use Rattle.search_rules.specs.Justified.{OpenRun}
use Rattle.two_runs.specs.Kinds.{StoredSuit}
use Rattle.two_runs.proofs.settled.SettledResults.{settled_finished}
use Rattle.two_runs.specs.Apart.{StandApart}
use Rattle.two_runs.proofs.kinds.StandingApart.{apart_none}

module _ {D C V P F I R A T : Type 0} (G : DelegateOf D C V P F I R A T)
    (same : I → I → Bool) (cx : C) (call : Call I) where
  -- the entries stand apart
  pub entries_apart : (results : Store I (StoredResult I R T)) (goals : List (OpenGoal C F I R A T))
      (entries : Lists I (ProvisionalCacheEntry C I R A T))
      → EntriesSuitCall G same cx call results goals entries → StandApart same results goals entries
  entries_apart results goals entries (NoneUsed off none) = apart_none same results goals entries none
  entries_apart results goals entries (OneKind kept) = kept.apart

module _ {D C V P F I R A T : Type 0} (G : DelegateOf D C V P F I R A T) (X : CxOf C I R A T)
    (same : I → I → Bool) (cx : C) where
  entries_suit : (call : Call I) (results : Store I (StoredResult I R T)) (goals : List (OpenGoal C F I R A T))
      (entries : Lists I (ProvisionalCacheEntry C I R A T)) → EntriesSuitCall G same cx call results goals entries
      → StoredSuit G.ENABLE_PROVISIONAL_CACHE (G.script cx) same call.goals results
  entries_suit call results goals entries (NoneUsed off none) = inl off
  entries_suit call results goals entries (OneKind kept) = inr kept.reached

  -- between two moves they are settled
  pub store_settled : (call : Call I) (given : Received R) (cache : Cache C I R T) (e : Evaluation D C V P F I R A T)
      → Settles G X same cx call given cache e → IsSettledStore G X same cx call.goals cache.nodes cache.results
  store_settled call given cache e s =
      record { settled = s.settling.settled; suit = entries_suit call cache.results e.goals e.provisional s.entries }

  -- and stay so where nothing is stored, and nodes are added or finished
  pub settled_stays : (goals : List I) (old new : Cache C I R T) (runs : List (OpenRun I R))
      → AreFree (verdicts X) same old.nodes runs old.results → KeepsFinished old.nodes new.nodes
      → new.results ≡ old.results → IsSettledStore G X same cx goals old.nodes old.results
      → IsSettledStore G X same cx goals new.nodes new.results
  settled_stays goals old new runs free kept unstored s =
      subst (IsSettledStore G X same cx goals new.nodes) (sym unstored)
      (record {
        settled = settled_finished (verdicts X) same old.nodes new.nodes kept runs old.results free goals s.settled;
        suit = s.suit;
      })
