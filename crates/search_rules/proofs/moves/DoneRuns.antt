-- What a run that ended came to, and what storing that keeps of the cache.
use Rattle.std.proofs.Common.{◌≡◌, ℕ, ◌<◌, ◌≤◌, ◌&&◌, ◌||◌, if◌then◌else◌, Bool, true, false, List, [], ◌∷◌, Some}
use Rattle.std.proofs.Common.{Result, Ok, Err, IfErr, option_map, refl, sym, ap, ap₂, ◌∙◌, subst, inl, inr, arith}
use Rattle.search_rules.specs.Below.{DelegateOf, CxOf, Fault, Request, Done, Reply, Place, Success, WithOverflow}
use Rattle.search_rules.specs.Below.{StoredResult, OpenGoal, StackEntry, IsDefinite, IsPlainTo, HasNoRank, IsPlain}
use Rattle.search_rules.specs.Below.{IsBelowRank, Store, stored_at, same_key, IsPlainAt, IsSafeOutcome, is_in_cycle}
use Rattle.search_rules.specs.Below.{newest, Stood, Verdicts, verdicts}
use Rattle.global_cache.proofs.Stores.{put_cases}
use Rattle.evaluations.proofs.Mirrors.{leaves_calm, leaves_safe, requested_fits}
use Rattle.search_rules.specs.Words.{Call, CallMeetsNone, Decidedly, IfDiffers, limits, bound, IsCounted, KeepsStore}
use Rattle.search_rules.specs.Words.{seen, HasAsked, AreDefinite, HaveNoOverflowOf, HadNoOverflow, MayPut}
use Rattle.search_rules.specs.Words.{RequireWithin, Same, WithResult, MayPutNewest, NewestComesTo, NewestIsPlain}
use Rattle.search_rules.specs.Words.{IsNewestPlainTo, place_of_item}
use Rattle.search_rules.proofs.answers.Differing.{differs_then}
use Rattle.search_rules.proofs.moves.Moves.{asker_requires, done_definite, ends_newest, leaving}
use Rattle.search_rules.proofs.moves.Moves.{outcome_of, met_none_before}

-- where a result belongs, by whether it met overflow
plain_at : {I R : Type 0} (scripts : I → List (Reply R) → Request I R) (goal : I) (r : R) (required : ℕ) (b : Bool)
    → (b ≡ false → IsPlain scripts goal r) → (b ≡ true → IsBelowRank scripts goal required)
    → IsPlainAt scripts goal (if b then WithOverflow required else Success) r
plain_at scripts goal r required true value low = low refl
plain_at scripts goal r required false value low = value refl

unranked_at : {I R : Type 0} (scripts : I → List (Reply R) → Request I R) (goal : I) (r : R) (place : Place)
    → HasNoRank scripts goal → IsPlainAt scripts goal place r
unranked_at scripts goal r Success none = λ n p. absurd (none n p)
unranked_at scripts goal r (WithOverflow depth) none = λ n p. absurd (none n p)

success_at : (required : ℕ) (b : Bool) → (b ≡ true → ⊥) → (if b then WithOverflow required else Success) ≡ Success
success_at required true never = absurd (never refl)
success_at required false never = refl

-- what stands for a goal that had its most runs is what it came to
pub limit_comes : {X F I R A T : Type 0} (scripts : I → List (Reply R) → Request I R) (limit_result : I → R)
    (goals : List (OpenGoal X F I R A T)) (e : StackEntry X I R A T) (r : R)
    → option_map (λ s. s.0) (newest goals) ≡ Some e → r ≡ limit_result e.input
    → NewestComesTo scripts limit_result goals r
limit_comes scripts limit_result [] e r is result = absurd cc
limit_comes scripts limit_result (s ∷ below) e r is result =
    let same : s.0 ≡ e = cc in inr (result ∙ ap (λ (d : StackEntry _ _ _ _ _). limit_result d.input) (sym same))

-- what stops a call for each fault, or for one that is want of memory where ranks fit
pub stopped_each : {V E : Type 0} (answer : Result V E) (P : E → Type 0) → ((fault : E) → P fault) → IfErr answer P
stopped_each (Ok v) P stops = tt
stopped_each (Err fault) P stops = stops fault

pub stopped_by : {V E : Type 0} (answer : Result V E) (P Q : E → Type 0)
    → ((fault : E) → Q fault → P fault) → IfErr answer Q → IfErr answer P
stopped_by (Ok v) P Q stops h = tt
stopped_by (Err fault) P Q stops h = stops fault h

pub stopped_by_both : {V E : Type 0} (answer : Result V E) (P Q S : E → Type 0)
    → ((fault : E) → Q fault → S fault → P fault) → IfErr answer Q → IfErr answer S → IfErr answer P
stopped_by_both (Ok v) P Q S stops h k = tt
stopped_by_both (Err fault) P Q S stops h k = stops fault h k

module _ {D C V P F I R A T : Type 0} (G : DelegateOf D C V P F I R A T) (X : CxOf C I R A T) (cx : C) (call : Call I)
    (ahead : ℕ) (done : R) (starts : ℕ) (met : Bool) where
  -- the run's result is the script's
  pub newest_comes : (limit_result : I → R) (goals : List (OpenGoal C F I R A T))
      → HasAsked G X cx call ahead (Done done) goals starts met → NewestComesTo (G.script cx) limit_result goals done
  newest_comes limit_result [] h = absurd h.asked.mirror
  newest_comes limit_result (s ∷ below) h =
      let e = ends_newest G X cx call ahead done (s ∷ below) starts met h in
      inl (e.replies, e.is_fitting, e.is_done)

  safe_of : (s : OpenGoal C F I R A T) (below : List (OpenGoal C F I R A T))
      → HasAsked G X cx call ahead (Done done) (s ∷ below) starts met
      → IsSafeOutcome (G.script cx) s.0.input s.0.available_depth.0 (outcome_of G X cx done s)
  safe_of s below h = leaves_safe (seen G X cx) (Stood G X cx) (G.script cx) (limits G X cx call)
      (IsCounted G X cx call) call.top (bound G X cx call) ahead done (outcome_of G X cx done s) s below starts met
      h.asked (leaving G X cx done done s (inl refl))

  -- and may be stored as far as ranks go,
  pub newest_plain : (goals : List (OpenGoal C F I R A T)) → HasAsked G X cx call ahead (Done done) goals starts met
      → NewestIsPlain (G.script cx) goals done
  newest_plain [] h = absurd h.asked.mirror
  newest_plain (s ∷ below) h =
      let safe = safe_of s below h in
      plain_at (G.script cx) s.0.input done s.0.state.required_depth
      (s.0.state.encountered_overflow || s.1.met_overflow_before) safe.value
      (λ over n p. let low : s.0.available_depth.0 < n = safe.overflow over n p in omega (arith, low, safe.within))

  -- as may any result of a goal in a cycle
  pub limited_plain : (goals : List (OpenGoal C F I R A T)) (r : R)
      → ((s : OpenGoal C F I R A T) (below : List (OpenGoal C F I R A T))
      → goals ≡ s ∷ below → is_in_cycle s.0.state ≡ true)
      → HasAsked G X cx call ahead (Done done) goals starts met → NewestIsPlain (G.script cx) goals r
  limited_plain [] r cycle h = absurd h.asked.mirror
  limited_plain (s ∷ below) r cycle h =
      let in_cycle : is_in_cycle s.0.state ≡ true = cycle s below refl in
      let safe = leaves_safe (seen G X cx) (Stood G X cx) (G.script cx) (limits G X cx call) (IsCounted G X cx call)
      call.top (bound G X cx call) ahead done (record {
        result = r;
        required = s.0.state.required_depth;
        met_overflow = s.0.state.encountered_overflow || s.1.met_overflow_before;
        in_cycle = true;
      }) s below starts met h.asked
      (record { result = inr in_cycle; required = refl; met_overflow = refl; in_cycle = λ e. in_cycle }) in
      unranked_at (G.script cx) s.0.input r (place_of_item s) (safe.cycle refl)

  -- where the root's rank fits its depth, the newest goal has a rank and met no overflow
  pub newest_ranked : (goals : List (OpenGoal C F I R A T)) (n : ℕ) → IsPlainTo (G.script cx) n call.top → n ≤ call.root
      → HasAsked G X cx call ahead (Done done) goals starts met → (m : ℕ) × IsNewestPlainTo (G.script cx) m goals
  newest_ranked [] n p fits h = absurd h.asked.mirror
  newest_ranked (s ∷ below) n p fits h =
      let room = (requested_fits (seen G X cx) (Stood G X cx) (G.script cx) (limits G X cx call) (IsCounted G X cx call)
      call.top (bound G X cx call) ahead (Done done) s below starts met n p fits h.asked).0 in (
        room.0,
        (
          room.1,
          success_at s.0.state.required_depth (s.0.state.encountered_overflow || s.1.met_overflow_before)
              (λ over. let low : s.0.available_depth.0 < room.0 = (safe_of s below h).overflow over room.0 room.1 in
              omega (arith, low, room.2)),
          room.2,
        ),
      )

  -- so storing its result fails for want of memory alone
  pub memory_alone : {V E : Type 0} (answer : Result V E) (memory : E) (goals : List (OpenGoal C F I R A T))
      → ((m : ℕ) → IsNewestPlainTo (G.script cx) m goals → IfErr answer (λ fault. fault ≡ memory))
      → HasAsked G X cx call ahead (Done done) goals starts met
      → IfErr answer (λ fault. (n : ℕ) → IsPlainTo (G.script cx) n call.top → n ≤ call.root → fault ≡ memory)
  memory_alone (Ok v) memory goals plain h = tt
  memory_alone (Err fault) memory goals plain h = λ n p fits. let m = newest_ranked goals n p fits h in plain m.0 m.1

  -- a result that differs from a stored one is the run's, so it is yes or no where the delegate is decisive
  pub differs_definite : {V : Type 0} (answer : Result V (Fault I R)) (goals : List (OpenGoal C F I R A T))
      → IfErr answer (λ fault. IfDiffers fault (λ found. found ≡ done))
      → HasAsked G X cx call ahead (Done done) goals starts met
      → IfErr answer (λ fault. Decidedly G X cx call met (IfDiffers fault (IsDefinite (verdicts X))))
  differs_definite (Ok v) goals differs h = tt
  differs_definite (Err fault) goals differs h = λ decisive unmet.
      differs_then fault (λ found. found ≡ done) (IsDefinite (verdicts X)) (λ found is. subst (IsDefinite (verdicts X))
      (sym is) (done_definite G X cx call ahead done goals starts met h decisive unmet)) differs

  -- as long as the call meets none, the newest goal met no overflow
  pub calm_of : (s : OpenGoal C F I R A T) (below : List (OpenGoal C F I R A T)) → CallMeetsNone G X cx call met
      → HasAsked G X cx call ahead (Done done) (s ∷ below) starts met
      → (s.0.state.encountered_overflow || s.1.met_overflow_before) ≡ false
  calm_of s below meets h = leaves_calm (seen G X cx) (Stood G X cx) (G.script cx) (limits G X cx call)
      (IsCounted G X cx call) call.top (bound G X cx call) ahead done (outcome_of G X cx done s) s below starts met
      h.asked (leaving G X cx done done s (inl refl)) meets

-- a success is at no place of an overflow result
apart : {I : Type 0} (same : I → I → Bool) (goal other : I) (depth : ℕ)
    → same_key same (goal, Success) (other, WithOverflow depth) ≡ false
apart same goal other depth = at (same goal other)
  where
    at : (b : Bool) → (b && false) ≡ false
    at true = refl
    at false = refl

module _ {I R T : Type 0} (same : I → I → Bool) (by_value : (x y : I) → same x y ≡ true → x ≡ y)
    (before after : Store I (StoredResult I R T)) (goal : I) (place : Place) (required : ℕ) (r : R) where
  put_without_overflow : (of : I → Type 0) → place ≡ Success → MayPut same before after goal place required r
      → HaveNoOverflowOf of same before → HaveNoOverflowOf of same after
  put_without_overflow of success (Same is) none = subst (HaveNoOverflowOf of same) (sym is) none
  put_without_overflow of success (WithResult s result depth puts) none = λ other is_of depth.
      puts.others other (WithOverflow depth) (ap (λ p. same_key same (goal, p) (other, WithOverflow depth)) success
      ∙ apart same goal other depth) ∙ none other is_of depth

  put_definite : (says : Verdicts R) → IsDefinite says r → MayPut same before after goal place required r
      → AreDefinite says same before → AreDefinite says same after
  put_definite says definite (Same is) all = subst (AreDefinite says same) (sym is) all
  put_definite says definite (WithResult s result depth puts) all =
      λ other at t there. elim (put_cases same by_value before after goal place s puts other at) [
        | inl w ↦
            let here : Some s ≡ Some t = sym puts.here ∙ ap₂ (stored_at same after) w.0 w.1 ∙ there in
            let e : s ≡ t = cc in
            subst (IsDefinite says) (sym result ∙ ap (λ (u : StoredResult I R T). u.result.result) e) definite
        | inr unchanged ↦ all other at t (sym unchanged ∙ there)
      ]

  put_within : (most : ℕ) (stood : I → Place → ℕ → Bool) → required ≤ most
      → MayPut same before after goal place required r → RequireWithin same most stood before
      → RequireWithin same most stood after
  put_within most stood fits (Same is) all = subst (RequireWithin same most stood) (sym is) all
  put_within most stood fits (WithResult s result depth puts) all =
      λ other at t there. elim (put_cases same by_value before after goal place s puts other at) [
        | inl w ↦
            let here : Some s ≡ Some t = sym puts.here ∙ ap₂ (stored_at same after) w.0 w.1 ∙ there in
            let e : s ≡ t = cc in
            inl (subst (λ n. n ≤ most) (sym depth ∙ ap (λ (u : StoredResult I R T). u.required_depth) e) fits)
        | inr unchanged ↦ all other at t (sym unchanged ∙ there)
      ]

module _ {D C V P F I R A T : Type 0} (G : DelegateOf D C V P F I R A T) (X : CxOf C I R A T) (cx : C)
    (call : Call I) (same : I → I → Bool) where
  -- what is stored of the newest goal requires no more than the root depth
  pub newest_within : ((x y : I) → same x y ≡ true → x ≡ y) → (before after : Store I (StoredResult I R T))
      (ahead : ℕ) (done r : R) (goals : List (OpenGoal C F I R A T)) (starts : ℕ) (met : Bool)
      → MayPutNewest same goals r before after → HasAsked G X cx call ahead (Done done) goals starts met
      → RequireWithin same call.root call.stood before → RequireWithin same call.root call.stood after
  newest_within by_value before after ahead done r [] starts met put h all = absurd put
  newest_within by_value before after ahead done r (s ∷ below) starts met put h all =
      put_within same by_value before after s.0.input (place_of_item s) s.0.state.required_depth r call.root call.stood
      (asker_requires G X cx call ahead (Done done) s below starts met h) put all

  -- and as long as the call meets none, that is no overflow result
  put_met_none : ((x y : I) → same x y ≡ true → x ≡ y) → (before after : Store I (StoredResult I R T)) (ahead : ℕ)
      (done r : R) (goals : List (OpenGoal C F I R A T)) (starts : ℕ) (met : Bool) → CallMeetsNone G X cx call met
      → MayPutNewest same goals r before after → HasAsked G X cx call ahead (Done done) goals starts met
      → HaveNoOverflowOf (HadNoOverflow call) same before → HaveNoOverflowOf (HadNoOverflow call) same after
  put_met_none by_value before after ahead done r [] starts met meets put h none = absurd put
  put_met_none by_value before after ahead done r (s ∷ below) starts met meets put h none =
      put_without_overflow same by_value before after s.0.input (place_of_item s)
      s.0.state.required_depth r (HadNoOverflow call)
      (ap (λ b. if b then WithOverflow s.0.state.required_depth else Success)
      (calm_of G X cx call ahead done starts met s below meets h)) put none

  -- the result of a run keeps what the call keeps of them,
  pub put_keeps : ((x y : I) → same x y ≡ true → x ≡ y) → (before after : Store I (StoredResult I R T)) (ahead : ℕ)
      (done : R) (goals : List (OpenGoal C F I R A T)) (starts : ℕ) (met : Bool)
      → MayPutNewest same goals done before after → HasAsked G X cx call ahead (Done done) goals starts met
      → KeepsStore G X cx same call met before → KeepsStore G X cx same call met after
  put_keeps by_value before after ahead done [] starts met put h keeps = absurd put
  put_keeps by_value before after ahead done (s ∷ below) starts met put h keeps = record {
    overflow = λ meets.
        put_met_none by_value before after ahead done done (s ∷ below) starts met meets put h (keeps.overflow meets);
    definite =
        λ decisive unmet. put_definite same by_value before after s.0.input (place_of_item s) s.0.state.required_depth
        done (verdicts X) (done_definite G X cx call ahead done (s ∷ below) starts met h decisive unmet)
        put (keeps.definite decisive unmet);
    within = newest_within by_value before after ahead done done (s ∷ below) starts met put h keeps.within;
  }

  -- and so does any result of a goal that had its most runs, which meets a limit
  pub limited_keeps : ((x y : I) → same x y ≡ true → x ≡ y) → (before after : Store I (StoredResult I R T))
      (ahead : ℕ) (done r : R) (goals : List (OpenGoal C F I R A T)) (starts : ℕ) (met : Bool)
      → MayPutNewest same goals r before after → HasAsked G X cx call ahead (Done done) goals starts met
      → KeepsStore G X cx same call met before → KeepsStore G X cx same call true after
  limited_keeps by_value before after ahead done r goals starts met put h keeps = record {
    overflow = λ meets. let was = met_none_before G X cx call met meets in
        put_met_none by_value before after ahead done r goals starts met was put h (keeps.overflow was);
    definite = λ decisive unmet. absurd cc;
    within = newest_within by_value before after ahead done r goals starts met put h keeps.within;
  }
