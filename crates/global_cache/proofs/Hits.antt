-- A look-up that tries the success first, and then the overflow result.
use Rattle.std.proofs.Common.{◌≡◌, ℕ, Bool, Option, Some, ◌++◌, refl, sym, ◌∙◌}
use Rattle.std.proofs.lemmas.List.Folds.{find-append}
use Rattle.std.specs.Option.{option_or}
use Rattle.global_cache.specs.Below.{NestedPaths}
use Rattle.global_cache.specs.Words.{Success, WithOverflow, StoredResult, Hit, successes, overflows, usable}
use Rattle.global_cache.specs.Words.{first_accepted, Store, stored_at}

pub looks_up : {I R T : Type 0} (accepts : NestedPaths I → Bool) (same : I → I → Bool)
    (store : Store I (StoredResult I R T)) (input : I) (available : ℕ)
    (success overflow : Option (StoredResult I R T)) (first later : Option (Hit I R T))
    → success ≡ stored_at same store input Success → overflow ≡ stored_at same store input (WithOverflow available)
    → first ≡ first_accepted accepts (successes available success)
    → later ≡ first_accepted accepts (overflows available overflow)
    → option_or first later ≡ first_accepted accepts (usable same store input available)
looks_up accepts same store input available success overflow first later s o f l =
    (λ i. option_or (f i) (l i))
    ∙ sym (find-append (λ hit. accepts hit.nested_goals) (successes available success) (overflows available overflow))
    ∙ (λ i. first_accepted accepts (successes available (s i) ++ overflows available (o i)))

-- a success that is used needs no look at the overflow result
pub finds_success : {I R T : Type 0} (accepts : NestedPaths I → Bool) (same : I → I → Bool)
    (store : Store I (StoredResult I R T)) (input : I) (available : ℕ)
    (success : Option (StoredResult I R T)) (hit : Hit I R T)
    → success ≡ stored_at same store input Success
    → Some hit ≡ first_accepted accepts (successes available success)
    → Some hit ≡ first_accepted accepts (usable same store input available)
finds_success accepts same store input available success hit s f =
    let overflow = stored_at same store input (WithOverflow available) in
    looks_up accepts same store input available success overflow (Some hit)
    (first_accepted accepts (overflows available overflow)) s refl f refl
