-- What a call promises of plain values, of frames, and of limits.
use Rattle.std.proofs.Common.{◌≡◌, ℕ, ◌+◌, ◌≤◌, max, Bool, true, false, List, Contains, IfOk, IfErr, inl, inr, refl}
use Rattle.search_graph.proofs.called.Calling.{at_end, at_stop, calmly, either, known_as, plainly}
use Rattle.search_graph.proofs.promises.Promises.{ended_by_runs, ended_paid, ended_plain, ended_within, stopped_by_runs}
use Rattle.search_graph.proofs.promises.Promises.{stopped_paid, stopped_within}
use Rattle.search_graph.proofs.turns.Loops.{call_among, call_among_begins}
use Rattle.search_graph.specs.Below.{Call, CxOf, DelegateOf, frames_within, HasCounted, HaveNoOverflow}
use Rattle.search_graph.specs.Below.{HaveNoOverflowOf, IsEnclosed, IsPaid, IsPlainTo, IsPlainValue, Memory}
use Rattle.search_graph.specs.Called.{Called, HasRun}

module _ {D C V P F I R A T : Type 0} {G : DelegateOf D C V P F I R A T} {X : CxOf C I R A T} {same : I → I → Bool}
    {same_result : R → R → Bool} {call : Called C I R A T} (ran : HasRun G X same same_result call) where
  -- ---- plain values

  pub run_is_plain : (n : ℕ) → IsPlainTo (G.script call.before.cache.cx) n call.goal → n ≤ call.before.graph.root_depth
      → IfOk call.result (λ answer. IsPlainValue (G.script call.before.cache.cx) n call.goal answer.result)
  run_is_plain n plain within =
      at_end ran (known_as ran false false) (plainly ran)
      (λ answer h. ended_plain G X call.before.cache.cx (known_as ran false false) call.after.starts
      call.after.graph.limits_met answer.result h.ended n plain within)

  pub run_fails_plainly : (n : ℕ) → IsPlainTo (G.script call.before.cache.cx) n call.goal
      → n ≤ call.before.graph.root_depth → IfErr call.result (λ fault. fault ≡ Memory)
  run_fails_plainly n plain within =
      at_stop ran (known_as ran false false) (plainly ran) (λ fault h. h.stopped.plain n plain within)

  pub run_meets_none : (n : ℕ) → IsPlainTo (G.script call.before.cache.cx) n call.goal
      → n ≤ call.before.graph.root_depth → call.after.graph.limits_met ≡ call.before.graph.limits_met
  run_meets_none n plain within = either ran (known_as ran false false) (plainly ran)
      (λ answer h. h.ended.keeps.plain n plain within) (λ fault h. h.stopped.keeps.plain n plain within)

  -- ---- frames and limits

  pub run_is_within : call.after.starts ≤ call.before.starts
      + frames_within (max 1 G.FIXPOINT_STEP_LIMIT) (G.width call.before.cache.cx) call.before.graph.root_depth
  run_is_within =
      either ran (known_as ran false false) (plainly ran)
      (λ answer h. ended_within G X call.before.cache.cx (known_as ran false false) call.after.starts
      call.after.graph.limits_met answer.result h.ended)
      (λ fault h. stopped_within G X call.before.cache.cx (known_as ran false false) call.after.starts
      call.after.graph.limits_met fault h.stopped)

  pub run_limits_stay : call.before.graph.limits_met ≡ true → call.after.graph.limits_met ≡ true
  run_limits_stay = either ran (known_as ran false false) (plainly ran)
      (λ answer h. h.ended.keeps.stays) (λ fault h. h.stopped.keeps.stays)

  pub run_pays : G.counts ≡ true → HaveNoOverflow same call.before.cache.results → call.before.graph.limits_met ≡ false
      → call.after.graph.limits_met ≡ true
      → IsPaid (max 1 G.FIXPOINT_STEP_LIMIT) call.before.graph.root_depth G.last call.before.starts call.after.starts
  run_pays counted none unmet met =
      either ran (known_as ran true false) (calmly ran none)
      (λ answer h. ended_paid G X call.before.cache.cx (known_as ran true false) call.after.starts
      call.after.graph.limits_met answer.result h.ended counted refl unmet met)
      (λ fault h. stopped_paid G X call.before.cache.cx (known_as ran true false) call.after.starts
      call.after.graph.limits_met fault h.stopped counted refl unmet met)

  pub run_stores_none : G.counts ≡ true → HaveNoOverflow same call.before.cache.results
      → call.before.graph.limits_met ≡ false → call.after.graph.limits_met ≡ false
      → HaveNoOverflow same call.after.cache.results
  run_stores_none counted none unmet still =
      either ran (known_as ran true false) (calmly ran none)
      (λ answer h goal depth. h.store.overflow (inl ((counted, unmet, inl refl), still)) goal (inl refl) depth)
      (λ fault h goal depth. h.store.overflow (inl ((counted, unmet, inl refl), still)) goal (inl refl) depth)

  -- ---- among goals that no question leads out of

  module _ (goals : List I)
      (enclosed : IsEnclosed (G.script call.before.cache.cx) goals call.before.graph.root_depth call.goal)
      (none : HaveNoOverflowOf (Contains goals) same call.before.cache.results) where
    abbrev pub among : Call I
    among =
        call_among goals call.goal call.before.graph.root_depth call.before.starts call.before.graph.limits_met ran.fits

    pub run_refuses_none : HaveNoOverflowOf (Contains goals) same call.after.cache.results
    run_refuses_none =
        either ran among (call_among_begins G X call.before.cache.cx same call.goal call.before.graph.root_depth
        call.before.starts call.before.graph.limits_met ran.fits call.before.cache.results goals none)
        (λ answer h goal within depth. h.store.overflow (inr enclosed) goal (inr within) depth)
        (λ fault h goal within depth. h.store.overflow (inr enclosed) goal (inr within) depth)

    pub run_ends_by_runs : G.counts ≡ true → call.before.graph.limits_met ≡ false → call.after.graph.limits_met ≡ true
        → HasCounted G.last call.before.starts call.after.starts (max 1 G.FIXPOINT_STEP_LIMIT)
    run_ends_by_runs counted unmet met =
        either ran among (call_among_begins G X call.before.cache.cx same call.goal call.before.graph.root_depth
        call.before.starts call.before.graph.limits_met ran.fits call.before.cache.results goals none)
        (λ answer h. ended_by_runs G X call.before.cache.cx among call.after.starts call.after.graph.limits_met
        answer.result h.ended enclosed counted unmet met)
        (λ fault h. stopped_by_runs G X call.before.cache.cx among call.after.starts call.after.graph.limits_met fault
        h.stopped enclosed counted unmet met)
