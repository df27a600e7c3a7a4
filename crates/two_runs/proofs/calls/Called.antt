-- What a call promises where two runs of each goal are enough.
use Rattle.std.proofs.Common.{Bool, Contains, false, inl, inr, List, refl, Result, true, ℕ, ◌<◌, ◌^◌, ◌∙◌, ◌≡◌}
use Rattle.two_runs.specs.Evaluations.{IsSettledStore}
use Rattle.search_context.specs.declared.context.Answer.{Answer}
use Rattle.search_graph.proofs.called.Answering.{nothing_answers, stored_plainly}
use Rattle.search_graph.proofs.called.Decided.{run_decides, run_fails_decided, run_stores_definite}
use Rattle.search_graph.proofs.called.Limits.{run_refuses_none}
use Rattle.two_runs.proofs.turns.Ran.{call_ends_settled}
use Rattle.two_runs.proofs.turns.Steps.{begins_unmet, begins_unscoped, top_is_not_lone}
use Rattle.search_graph.proofs.turns.Loops.{call_of}
use Rattle.two_runs.specs.Below.{AreDefinite, AreRuns, AreSoundResults, Begins, Cache, Call, CxOf, DelegateOf, Fault}
use Rattle.two_runs.specs.Below.{HaveNoOverflowOf, PathKind, Store, StoredResult, verdicts}
use Rattle.search_graph.specs.Called.{begun, Called, Evaluated, found_in, HasRun, WasStored, WasWorkedOut}
use Rattle.search_graph.specs.Laws.{AreLaws}
use Rattle.two_runs.specs.Enough.{EndsSettled, IsDoneInTwoRuns, TwoRunsAreEnough}
use Rattle.search_graph.specs.Turns.{IsAtOutset}
use Rattle.two_runs.specs.Settled.{CallNeedsTwoRuns}
use Rattle.search_state.specs.declared.evaluation.Evaluation.{Evaluation}

-- the call of which it is known that no result of these goals was stored that met overflow, and that each
-- stored result was yes or no
abbrev call_deciding : {I : Type 0} (goals : List I) (input : I) (root starts : ℕ) (met : Bool) → root < 2 ^ 64 → Call I
call_deciding goals input root starts met fits =
    record (call_of input root starts met false true fits) { goals = goals }

module _ {D C V P F I R A T : Type 0} (G : DelegateOf D C V P F I R A T) (X : CxOf C I R A T) (cx : C)
    (same : I → I → Bool) (input : I) (root starts : ℕ) (met : Bool) (fits : root < 2 ^ 64)
    (results : Store I (StoredResult I R T)) where
  call_deciding_begins : (goals : List I) → HaveNoOverflowOf (Contains goals) same results
      → AreDefinite (verdicts X) same results
      → Begins G X cx same (call_deciding goals input root starts met fits) input root starts met results
  call_deciding_begins goals none all = record {
    outset = record { same_top = refl; same_root = refl; same_starts = refl; same_limits = refl };
    store = record {
      overflow = λ meets goal had depth. elim had [ inl calm ↦ absurd cc | inr among ↦ none goal among depth ];
      definite = λ decisive unmet. all;
      within = λ goal place s there. inr refl;
    };
  }

module _ {D C V P F I R A T : Type 0} {G : DelegateOf D C V P F I R A T} {X : CxOf C I R A T} {same : I → I → Bool}
    {same_result : R → R → Bool} {noop looks_up : Bool} (laws : AreLaws G X same same_result) {kind : PathKind}
    {goal : I} {old : Cache C I R T} {e : Evaluation D C V P F I R A T} {starts : ℕ}
    (outset : IsAtOutset old e) (are_runs : AreRuns (verdicts X) (G.script old.cx) old.nodes)
    (sound : AreSoundResults same (verdicts X) (G.script old.cx) old.nodes old.results) (looks : looks_up ≡ noop) where
  evaluated_settled :
      {result : Result (Answer R) (Fault I R)} {new : Cache C I R T} {after : Evaluation D C V P F I R A T}
      {later : ℕ} → Evaluated G X same same_result noop looks_up kind goal old e starts result new after later
      → EndsSettled G X same old.cx noop goal old e starts result new after
  evaluated_settled (WasStored hit found usable) = record {
    unmet = λ call at needs settled.
        begins_unmet G X old.cx call noop goal e.root_depth.0 starts e.limits_met needs at.outset;
    settles = λ call at needs settled. settled;
  }
  evaluated_settled (WasWorkedOut result new after later none fated ran) = record {
    unmet = λ call at needs settled. (over call at needs settled).unmet call at needs settled;
    settles = λ call at needs settled. (over call at needs settled).settles call at needs settled;
  }
    where
      over :
          (call : Call I) → Begins G X old.cx same call goal e.root_depth.0 starts e.limits_met old.results
          → CallNeedsTwoRuns G X old.cx call noop → IsSettledStore G X same old.cx call.goals old.nodes old.results
          → EndsSettled G X same old.cx noop goal old e starts result new after
      over call at needs settled =
          let looked = looks ∙ needs.needs.unrecorded in
          let unscoped = begins_unscoped G X old.cx call noop goal e.root_depth.0 starts e.limits_met needs at.outset in
          let found = found_in same old goal e.root_depth.0 in
          call_ends_settled laws outset are_runs sound fated result ran
          (stored_plainly looks_up (G.scoped old.cx goal) found looked unscoped)
          (top_is_not_lone G X old.cx same call noop old.results goal e.root_depth.0 starts e.limits_met
          needs settled.settled.require at.outset
          (nothing_answers looks_up (G.scoped old.cx goal) found none looked unscoped))

module _ {D C V P F I R A T : Type 0} {G : DelegateOf D C V P F I R A T} {X : CxOf C I R A T} {same : I → I → Bool}
    {same_result : R → R → Bool} {call : Called C I R A T} (ran : HasRun G X same same_result call) (goals : List I)
    (enough : TwoRunsAreEnough G X same goals call.before.cache call.before.graph.root_depth call.goal call.noop)
    (looks : call.looks_up ≡ call.noop) (unmet : call.before.graph.limits_met ≡ false) where
  -- what is known of the call
  abbrev deciding : Call I
  deciding = call_deciding goals call.goal call.before.graph.root_depth call.before.starts
      call.before.graph.limits_met ran.fits

  begins : Begins G X call.before.cache.cx same deciding call.goal call.before.graph.root_depth call.before.starts
      call.before.graph.limits_met call.before.cache.results
  begins = call_deciding_begins G X call.before.cache.cx same call.goal call.before.graph.root_depth call.before.starts
      call.before.graph.limits_met ran.fits call.before.cache.results goals enough.no_overflow enough.definite

  needs : CallNeedsTwoRuns G X call.before.cache.cx deciding call.noop
  needs = record { needs = enough.needs; all_definite = refl; unmet = unmet }

  settled : EndsSettled G X same call.before.cache.cx call.noop call.goal call.before.cache
      (begun G X same same_result call.before.graph ran.drafts) call.before.starts call.result call.after.cache
      (record ran.left { limits_met = call.after.graph.limits_met })
  settled = evaluated_settled ran.laws ran.at_outset ran.was_sound.runs ran.was_sound.results looks ran.evaluated

  run_needs_two : call.after.graph.limits_met ≡ false
  run_needs_two = settled.unmet deciding begins needs enough.settled

  pub is_done : IsDoneInTwoRuns G X same goals call
  is_done = record {
    unmet = run_needs_two;
    decides = run_decides ran enough.needs.decisive enough.definite run_needs_two;
    faults = run_fails_decided ran enough.needs.decisive enough.definite run_needs_two enough.needs.one_of_each;
    no_overflow = run_refuses_none ran goals enough.needs.enclosed enough.no_overflow;
    definite = run_stores_definite ran enough.needs.decisive enough.definite run_needs_two;
    settled = settled.settles deciding begins needs enough.settled;
  }
