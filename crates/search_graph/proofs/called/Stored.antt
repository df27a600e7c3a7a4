-- What a call promises of stored results, and of the nodes that it leaves.
use Rattle.std.proofs.Common.{◌≡◌, Bool, true, false, List, Contains, Option, Some, None, Ok, IfOk, IfSome, ap, ap₂}
use Rattle.std.proofs.Common.{inl, inr, refl}
use Rattle.search_graph.proofs.called.Answering.{evaluated_recorded, evaluated_spares, evaluated_tells}
use Rattle.search_graph.proofs.called.Calling.{at_end, calmly, either, known_as, plainly}
use Rattle.search_graph.proofs.called.Limits.{among}
use Rattle.search_graph.proofs.promises.StoredDepths.{stores_within}
use Rattle.search_graph.proofs.turns.Loops.{call_among_begins, call_over, call_over_begins}
use Rattle.search_graph.specs.Below.{CxOf, DelegateOf, HaveNoOverflow, HaveNoOverflowOf, IsEnclosed, IsRemembered}
use Rattle.search_graph.specs.Below.{Place, stored_at, StoresWithin}
use Rattle.search_graph.specs.Called.{Called, found_in, HasRun}
use Rattle.search_graph.specs.Graph.{Graph}

-- what holds of something that is there holds of it in another way
if_some_then : {A : Type 0} (o : Option A) {P Q : A → Type 0} → IfSome o P → ((x : A) → P x → Q x) → IfSome o Q
if_some_then None h from = tt
if_some_then (Some x) h from = from x h

same_graph : {graph other : Graph} → graph.root_depth ≡ other.root_depth
    → graph.limits_met ≡ other.limits_met → graph ≡ other
same_graph depth met = ap₂ (λ d m. record { root_depth = d; limits_met = m }) depth met

module _ {D C V P F I R A T : Type 0} {G : DelegateOf D C V P F I R A T} {X : CxOf C I R A T} {same : I → I → Bool}
    {same_result : R → R → Bool} {call : Called C I R A T} (ran : HasRun G X same same_result call) where
  -- ---- what is stored when the call begins

  pub run_tells : call.looks_up ≡ true → G.scoped call.before.cache.cx call.goal ≡ false
      → IfSome (found_in same call.before.cache call.goal call.before.graph.root_depth) (λ hit.
      (call.result ≡ Ok (record { result = hit.result; node = hit.node })) × (call.after.starts ≡ call.before.starts)
      × (call.after.graph ≡ call.before.graph) × (call.after.cache ≡ call.before.cache))
  run_tells looked unscoped =
      if_some_then (found_in same call.before.cache call.goal call.before.graph.root_depth)
      (evaluated_tells ran.evaluated looked unscoped)
      (λ hit told. (
        told.told,
        told.same_starts,
        same_graph ran.same_depth (ap (λ e. e.limits_met) told.same_evaluation),
        told.same_cache,
      ))

  pub run_is_validated : call.looks_up ≡ true → G.scoped call.before.cache.cx call.goal ≡ true
      → IfOk call.result (λ answer. IfSome (found_in same call.before.cache call.goal call.before.graph.root_depth)
      (λ hit. answer.result ≡ hit.result))
  run_is_validated looked scoped =
      at_end ran (known_as ran false false) (plainly ran) (λ answer h. h.compared looked scoped)

  -- ---- and when it ends

  pub run_is_remembered : call.looks_up ≡ true → G.scoped call.before.cache.cx call.goal ≡ false → G.counts ≡ true
      → HaveNoOverflow same call.before.cache.results → call.before.graph.limits_met ≡ false
      → call.after.graph.limits_met ≡ false
      → IfOk call.result (IsRemembered same call.after.cache.results call.goal call.before.graph.root_depth)
  run_is_remembered looked unscoped counted none unmet still =
      at_end ran (known_as ran true false) (calmly ran none)
      (λ answer h. h.remembered (looked, unscoped) (inl ((counted, unmet, inl refl), still)))

  pub run_enclosed_is_remembered : (goals : List I)
      → IsEnclosed (G.script call.before.cache.cx) goals call.before.graph.root_depth call.goal
      → HaveNoOverflowOf (Contains goals) same call.before.cache.results → call.looks_up ≡ true
      → G.scoped call.before.cache.cx call.goal ≡ false
      → IfOk call.result (IsRemembered same call.after.cache.results call.goal call.before.graph.root_depth)
  run_enclosed_is_remembered goals enclosed none looked unscoped =
      at_end ran (among ran goals enclosed none)
      (call_among_begins G X call.before.cache.cx same call.goal call.before.graph.root_depth call.before.starts
      call.before.graph.limits_met ran.fits call.before.cache.results goals none)
      (λ answer h. h.remembered (looked, unscoped) (inr enclosed))

  pub run_is_recorded : call.noop ≡ false → call.after.cache.results ≡ call.before.cache.results
  run_is_recorded = evaluated_recorded ran.laws ran.at_outset ran.was_sound.runs ran.was_sound.results ran.evaluated

  pub run_spares : call.looks_up ≡ false → (place : Place) → stored_at same call.after.cache.results call.goal place
      ≡ stored_at same call.before.cache.results call.goal place
  run_spares = evaluated_spares ran.laws ran.at_outset ran.was_sound.runs ran.was_sound.results ran.evaluated

  pub run_requires_within : StoresWithin same call.before.graph.root_depth
      call.before.cache.results call.after.cache.results
  run_requires_within =
      let over = call_over same call.before.cache.results call.goal call.before.graph.root_depth call.before.starts
      call.before.graph.limits_met ran.fits in
      stores_within same call.before.graph.root_depth call.before.cache.results call.after.cache.results
      (either ran over (call_over_begins G X call.before.cache.cx same call.goal call.before.graph.root_depth
      call.before.starts call.before.graph.limits_met ran.fits call.before.cache.results)
      (λ answer h. h.store.within) (λ fault h. h.store.within))
