-- What a call promises where scripts decide after decided answers.
use Rattle.std.proofs.Common.{◌≡◌, Bool, true, false, Result, Ok, Err, IfOk, IfErr, refl, subst}
use Rattle.search_graph.proofs.called.Calling.{at_end, at_stop, definitely, either, known_as, run_is_grounded}
use Rattle.search_graph.proofs.called.Calling.{run_keeps, run_proves, run_refutes}
use Rattle.search_graph.proofs.promises.Promises.{definite_decides}
use Rattle.search_graph.specs.Below.{AreDefinite, CxOf, Decides, DelegateOf, IsDecisive, IsDefinite}
use Rattle.search_graph.specs.Below.{IsMemoryOrOrder, verdicts}
use Rattle.search_graph.specs.Called.{Called, HasRun}
use Rattle.search_rules.proofs.answers.Differing.{memory_or_order}
use Rattle.search_rules.specs.Claims.{HasOneOfEach}

-- what holds of an answer in three ways holds of it in a fourth
pub if_ok_all : {A E : Type 0} (result : Result A E) {P Q S B : A → Type 0} → IfOk result P → IfOk result Q
    → IfOk result S → ((answer : A) → P answer → Q answer → S answer → B answer) → IfOk result B
if_ok_all (Ok answer) p q s from = from answer p q s
if_ok_all (Err fault) p q s from = tt

pub if_err_both : {A E : Type 0} (result : Result A E) {P Q B : E → Type 0} → IfErr result P → IfErr result Q
    → ((fault : E) → P fault → Q fault → B fault) → IfErr result B
if_err_both (Ok answer) p q from = tt
if_err_both (Err fault) p q from = from fault p q

module _ {D C V P F I R A T : Type 0} {G : DelegateOf D C V P F I R A T} {X : CxOf C I R A T} {same : I → I → Bool}
    {same_result : R → R → Bool} {call : Called C I R A T} (ran : HasRun G X same same_result call)
    (decisive : IsDecisive (verdicts X) (G.script call.before.cache.cx))
    (all : AreDefinite (verdicts X) same call.before.cache.results) (unmet : call.after.graph.limits_met ≡ false) where
  pub run_is_definite : IfOk call.result (λ answer. IsDefinite (verdicts X) answer.result)
  run_is_definite =
      at_end ran (known_as ran false true) (definitely ran all) (λ answer h. h.ended.decided (decisive, refl) unmet)

  pub run_stores_definite : AreDefinite (verdicts X) same call.after.cache.results
  run_stores_definite = either ran (known_as ran false true) (definitely ran all)
      (λ answer h. h.store.definite (decisive, refl) unmet) (λ fault h. h.store.definite (decisive, refl) unmet)

  pub run_decides : IfOk call.result (λ answer. Decides X call.before.cache.cx call.goal answer.result)
  run_decides =
      if_ok_all call.result (run_proves ran) (run_refutes ran) run_is_definite
      (λ answer proved refuted definite.
      subst (λ cx. Decides X cx call.goal answer.result) (run_keeps ran).context
      (definite_decides G X call.after.cache call.goal answer.result answer.node proved refuted definite))

  pub run_fails_decided : HasOneOfEach (verdicts X) → IfErr call.result (λ fault. IsMemoryOrOrder fault)
  run_fails_decided one =
      if_err_both call.result
      (at_stop ran (known_as ran false true) (definitely ran all) (λ fault h. h.stopped.decided (decisive, refl) unmet))
      (run_is_grounded ran).caused
      (λ fault decided caused.
      memory_or_order G X same call.after.cache one fault (λ goal about. run_stores_definite goal) decided caused)
