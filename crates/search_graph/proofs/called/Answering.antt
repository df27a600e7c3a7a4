-- What follows of an evaluation, whether a stored result answers the goal or it is worked out.
use Rattle.std.proofs.Common.{◌≡◌, ◌∙◌, ℕ, Bool, true, false, Option, None, Result, Ok, Some, ap, ap₂, refl, sym, subst}
use Rattle.std.specs.Option.{IfSome, IsSomeAnd}
use Rattle.between_moves.proofs.Keeping.{cache_stays}
use Rattle.run_records.specs.declared.runs.Fate.TheVariants as becomes
use Rattle.search_context.specs.declared.context.Answer.{Answer}
use Rattle.search_graph.proofs.ran.Calls.{works_out}
use Rattle.search_graph.specs.Below.{AreRuns, AreSoundResults, Cache, CxOf, DelegateOf, Fault, HasGraph, Hit}
use Rattle.search_graph.specs.Below.{IsRemembered, KeepsCache, PathKind, Place, stored_at, verdicts}
use Rattle.search_graph.specs.Called.{Evaluated, found_in, WasStored, WasWorkedOut}
use Rattle.search_graph.specs.Calls.{Evaluates, IsGrounded, IsOfFate, IsOfStored}
use Rattle.search_graph.specs.Laws.{AreLaws}
use Rattle.search_graph.specs.Turns.{IsAtOutset}
use Rattle.search_rules.proofs.moves.Questions.{if_ok_then}
use Rattle.search_rules.proofs.moves.StoredAnswers.{stored_ends}
use Rattle.search_rules.specs.Words.{answered_by, fate_for}
use Rattle.search_state.specs.declared.evaluation.Evaluation.{Evaluation}

-- what answers a goal was looked for, and the goal is in no scope
answers_plainly : {H : Type 0} (looks_up in_scope : Bool) (found : Option H) (hit : H)
    → answered_by looks_up in_scope found ≡ Some hit → (looks_up ≡ true) × (in_scope ≡ false) × (found ≡ Some hit)
answers_plainly false in_scope found hit is = absurd cc
answers_plainly true true found hit is = absurd cc
answers_plainly true false found hit is = (refl, refl, is)

-- where nothing answers it, it is because of that, or nothing is found
pub nothing_answers : {H : Type 0} (looks_up in_scope : Bool) (found : Option H)
    → answered_by looks_up in_scope found ≡ None → looks_up ≡ true → in_scope ≡ false → found ≡ None
nothing_answers looks_up in_scope found none looked unscoped =
    sym (ap₂ (λ up scoped. answered_by up scoped found) looked unscoped) ∙ none

-- then its result is stored, where it was looked for and is in no scope,
pub stored_plainly : {I R T : Type 0} (looks_up in_scope : Bool) (found : Option (Hit I R T)) → looks_up ≡ true
    → in_scope ≡ false → fate_for looks_up in_scope found ≡ becomes.Stored
stored_plainly looks_up in_scope found looked unscoped = ap₂ (λ up scoped. fate_for up scoped found) looked unscoped

-- and compared with the stored one in a scope,
compared_with : {I R T : Type 0} (found : Option (Hit I R T)) (r : R) → IsOfFate (fate_for true true found) r
    → IfSome found (λ hit. r ≡ hit.result)
compared_with None r h = tt
compared_with (Some hit) r h = h hit.result refl

compared_in_scope : {I R T : Type 0} (looks_up in_scope : Bool) (found : Option (Hit I R T)) (r : R)
    → IsOfFate (fate_for looks_up in_scope found) r → IsOfStored looks_up in_scope found r
compared_in_scope false in_scope found r h looked scoped = absurd cc
compared_in_scope true false found r h looked scoped = absurd cc
compared_in_scope true true found r h looked scoped = compared_with found r h

-- and neither where it was not looked for
not_looked_for : {I R T : Type 0} (looks_up in_scope : Bool) (found : Option (Hit I R T)) → looks_up ≡ false
    → fate_for looks_up in_scope found ≡ becomes.NotStored
not_looked_for looks_up in_scope found unlooked = ap (λ up. fate_for up in_scope found) unlooked

module _ {D C V P F I R A T : Type 0} {G : DelegateOf D C V P F I R A T} {X : CxOf C I R A T} {same : I → I → Bool}
    {same_result : R → R → Bool} {noop looks_up : Bool} (laws : AreLaws G X same same_result) {kind : PathKind}
    {goal : I} {old : Cache C I R T} {e : Evaluation D C V P F I R A T} {starts : ℕ}
    (outset : IsAtOutset old e) (are_runs : AreRuns (verdicts X) (G.script old.cx) old.nodes)
    (sound : AreSoundResults same (verdicts X) (G.script old.cx) old.nodes old.results) where
  -- the stored result, or what the goal is worked out to, ends the call
  pub evaluated_evaluates :
      {result : Result (Answer R) (Fault I R)} {new : Cache C I R T} {after : Evaluation D C V P F I R A T}
      {later : ℕ} → Evaluated G X same same_result noop looks_up kind goal old e starts result new after later
      → Evaluates G X same old.cx ((looks_up ≡ true) × (G.scoped old.cx goal ≡ false))
      (IsOfStored looks_up (G.scoped old.cx goal) (found_in same old goal e.root_depth.0))
      goal old e starts result new after later
  evaluated_evaluates (WasStored hit found usable) =
      let plainly = answers_plainly looks_up (G.scoped old.cx goal) (found_in same old goal e.root_depth.0) hit found in
      record {
        ended = λ call at. record {
          ended = stored_ends G X old.cx call same old.results goal e.root_depth.0 starts e.limits_met hit usable at;
          store = at.store;
          remembered = λ looked meets.
              subst (λ top. IsRemembered same old.results top call.root
              (record { result = hit.result; node = hit.node })) (sym at.outset.same_top)
              (subst (λ root. IsRemembered same old.results goal root (record { result = hit.result; node = hit.node }))
              (sym at.outset.same_root)
              (subst (λ o. IsSomeAnd o (λ h. (h.result ≡ hit.result) × (h.node ≡ hit.node)))
              (sym plainly.2) (refl, refl)));
          compared = λ looked scoped. let clash : true ≡ false = sym scoped ∙ plainly.1 in absurd cc;
        };
        stopped = λ call at. tt;
      }
  evaluated_evaluates (WasWorkedOut result new after later none fated ran) =
      let works = works_out laws outset are_runs sound fated result ran in
      record {
        ended = λ call at.
            if_ok_then result _ _ (works.evaluates.ended call at)
            (λ answer h. record {
              ended = h.ended;
              store = h.store;
              remembered = λ plainly. h.remembered (stored_plainly looks_up (G.scoped old.cx goal)
                  (found_in same old goal e.root_depth.0) plainly.0 plainly.1);
              compared = compared_in_scope looks_up (G.scoped old.cx goal)
                  (found_in same old goal e.root_depth.0) answer.result h.compared;
            });
        stopped = works.evaluates.stopped;
      }

  -- the answer has its graph, or the fault its cause
  pub evaluated_is_grounded :
      {result : Result (Answer R) (Fault I R)} {new : Cache C I R T} {after : Evaluation D C V P F I R A T}
      {later : ℕ} → Evaluated G X same same_result noop looks_up kind goal old e starts result new after later
      → IsGrounded G X same goal new result
  evaluated_is_grounded (WasStored hit found usable) = record {
    has_graph =
        subst (λ r. HasGraph (verdicts X) old.nodes goal r hit.node) usable.result_is
        (subst (HasGraph (verdicts X) old.nodes goal usable.stored.result.result) usable.node_is
        (sound goal usable.place usable.stored usable.is_stored).graph);
    caused = tt;
  }
  evaluated_is_grounded (WasWorkedOut result new after later none fated ran) =
      (works_out laws outset are_runs sound fated result ran).grounded

  pub evaluated_keeps :
      {result : Result (Answer R) (Fault I R)} {new : Cache C I R T} {after : Evaluation D C V P F I R A T}
      {later : ℕ} → Evaluated G X same same_result noop looks_up kind goal old e starts result new after later
      → KeepsCache same e.goals old new
  evaluated_keeps (WasStored hit found usable) = cache_stays same e.goals old
  evaluated_keeps (WasWorkedOut result new after later none fated ran) =
      (works_out laws outset are_runs sound fated result ran).keeps

  -- a builder that records leaves the stored results as they were,
  pub evaluated_recorded :
      {result : Result (Answer R) (Fault I R)} {new : Cache C I R T} {after : Evaluation D C V P F I R A T}
      {later : ℕ} → Evaluated G X same same_result noop looks_up kind goal old e starts result new after later
      → noop ≡ false → new.results ≡ old.results
  evaluated_recorded (WasStored hit found usable) = λ records. refl
  evaluated_recorded (WasWorkedOut result new after later none fated ran) =
      (works_out laws outset are_runs sound fated result ran).spares.recorded

  -- and a goal that is not looked for leaves its own
  pub evaluated_spares :
      {result : Result (Answer R) (Fault I R)} {new : Cache C I R T} {after : Evaluation D C V P F I R A T}
      {later : ℕ} → Evaluated G X same same_result noop looks_up kind goal old e starts result new after later
      → looks_up ≡ false → (place : Place)
      → stored_at same new.results goal place ≡ stored_at same old.results goal place
  evaluated_spares (WasStored hit found usable) = λ unlooked place. refl
  evaluated_spares (WasWorkedOut result new after later none fated ran) = λ unlooked.
      (works_out laws outset are_runs sound fated result ran).spares.spared
      (not_looked_for looks_up (G.scoped old.cx goal) (found_in same old goal e.root_depth.0) unlooked)

-- nothing changes where the stored result is told
pub record IsTold {D C V P F I R A T : Type 0} (hit : Hit I R T) (old : Cache C I R T)
    (e : Evaluation D C V P F I R A T) (starts : ℕ) (result : Result (Answer R) (Fault I R)) (new : Cache C I R T)
    (after : Evaluation D C V P F I R A T) (later : ℕ) : Type 0 where
  pub told : result ≡ Ok (record { result = hit.result; node = hit.node })
  pub same_starts : later ≡ starts
  pub same_evaluation : after ≡ e
  pub same_cache : new ≡ old

module _ {D C V P F I R A T : Type 0} {G : DelegateOf D C V P F I R A T} {X : CxOf C I R A T} {same : I → I → Bool}
    {same_result : R → R → Bool} {noop looks_up : Bool} {kind : PathKind} {goal : I} {old : Cache C I R T}
    {e : Evaluation D C V P F I R A T} {starts : ℕ} where
  -- a stored result that is looked for in no scope is told
  pub evaluated_tells :
      {result : Result (Answer R) (Fault I R)} {new : Cache C I R T} {after : Evaluation D C V P F I R A T}
      {later : ℕ} → Evaluated G X same same_result noop looks_up kind goal old e starts result new after later
      → looks_up ≡ true → G.scoped old.cx goal ≡ false
      → IfSome (found_in same old goal e.root_depth.0) (λ hit. IsTold hit old e starts result new after later)
  evaluated_tells (WasStored hit found usable) = λ looked unscoped.
      let plainly = answers_plainly looks_up (G.scoped old.cx goal) (found_in same old goal e.root_depth.0) hit found in
      subst (λ o. IfSome o
      (λ h. IsTold h old e starts (Ok (record { result = hit.result; node = hit.node })) old e starts)) (sym plainly.2)
      (record { told = refl; same_starts = refl; same_evaluation = refl; same_cache = refl })
  evaluated_tells (WasWorkedOut result new after later none fated ran) = λ looked unscoped.
      subst (λ o. IfSome o (λ h. IsTold h old e starts result new after later)) (sym
      (nothing_answers looks_up (G.scoped old.cx goal) (found_in same old goal e.root_depth.0) none looked unscoped)) tt
