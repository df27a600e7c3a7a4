-- What is stored of an answer that was given to the goal that asked for it.
use Rattle.std.proofs.Common.{◌≡◌, Bool, sym, ap, subst, ◌∙◌}
use Rattle.run_records.specs.declared.runs.Fate.{Fate}
use Rattle.search_rules.specs.Results.{NotStored, Put}
use Rattle.search_ends.specs.Storing.{IsStorable, PutsAnswer, Stores}
use Rattle.search_state.specs.declared.evaluation.Evaluation.{Evaluation}
use Rattle.search_ends.specs.Below.{Cache, CxOf, DelegateOf, EvaluationResult, IsStored, LeavesAnswer, PathKind, Store}
use Rattle.search_ends.specs.Below.{StoredResult, StoresAnswer}

module _ {C I R A T : Type 0} (answer given : EvaluationResult C I R A T) (left : LeavesAnswer answer given) where
  -- it has the heads that it had
  pub heads_given : given.heads ≡ answer.heads
  heads_given = ap (λ (a : EvaluationResult C I R A T). a.heads) left.others

  results_given : (same : I → I → Bool) (old new : Store I (StoredResult I R T)) (goal : I)
      → StoresAnswer same old new goal given → StoresAnswer same old new goal answer
  results_given same old new goal (NotStored kept) = NotStored kept
  results_given same old new goal (Put token none puts) =
      subst (StoresAnswer same old new goal) (left.whole (sym heads_given ∙ none)) (Put token none puts)

  -- what is put of it into the store is the answer as it was
  pub puts_given : (same : I → I → Bool) (goal : I) (fate : Fate R) (old new : Cache C I R T)
      → PutsAnswer same goal given fate old new → PutsAnswer same goal answer fate old new
  puts_given same goal fate old new puts = record {
    cache = puts.cache;
    stored = results_given same old.results new.results goal puts.stored;
    changes = puts.changes;
  }

module _ {D C V P F I R A T : Type 0} (G : DelegateOf D C V P F I R A T) (X : CxOf C I R A T)
    (answer given : EvaluationResult C I R A T) (left : LeavesAnswer answer given) where
  -- it may be stored if it might be before
  pub storable_given : (cache : Cache C I R T) (goal : I)
      → IsStorable G X cache goal answer → IsStorable G X cache goal given
  storable_given cache goal storable = subst (IsStorable G X cache goal) (sym left.others)
      (record { graph = storable.graph; plain = storable.plain; comes = storable.comes })

  -- what is stored of it, and its entry, are those of the answer as it was
  pub stores_given : (same : I → I → Bool) (step : PathKind) (goal : I) (fate : Fate R)
      (old new : Evaluation D C V P F I R A T) (cache : Cache C I R T)
      → Stores G X same step goal given fate old new cache → Stores G X same step goal answer fate old new cache
  stores_given same step goal fate old new cache stores =
      record {
        stored = λ is none.
            let whole = left.whole none in
            subst (IsStored same (X.token cache.cx) cache.results goal) whole
            (stores.stored is (heads_given answer given left ∙ none));
        compared = (subst (λ (a : EvaluationResult C I R A T). Stores G X same step goal a fate old new cache)
            left.others stores).compared;
        entry = (subst (λ (a : EvaluationResult C I R A T). Stores G X same step goal a fate old new cache)
            left.others stores).entry;
      }
