-- A stored result answers the newest goal's question, or the call.
use Rattle.std.proofs.Common.{◌≡◌, ℕ, ◌<◌, ◌≤◌, Bool, true, false, List, ◌∷◌, Some, None, refl, sym, ap, ◌∙◌}
use Rattle.std.proofs.Common.{subst, arith}
use Rattle.std.proofs.Math.Bool.{or-false}
use Rattle.search_rules.specs.Below.{DelegateOf, CxOf, Evaluate, Answer, PathKind, WithOverflow, StoredResult, OpenGoal}
use Rattle.search_rules.specs.Below.{StackEntry, IsDefinite, Hit, NestedPaths, IsPlainTo, Store, stored_at, Outcome}
use Rattle.search_rules.specs.Below.{IsAllowed, IsSafeOutcome, with_replies, TakesReply, Received, Run, with_depth}
use Rattle.search_rules.specs.Below.{with_nested_goals, is_in_cycle, Stood, verdicts}
use Rattle.evaluations.specs.Frames.{answered}
use Rattle.evaluations.proofs.Mirrors.{answered_waits}
use Rattle.search_rules.specs.Words.{Call, runs, limits, bound, IsCounted, Begins, KeepsStore, seen, HasAsked}
use Rattle.search_rules.specs.Words.{CallGoesOn, HasEnded, IsUsable, UsesStored, AreDefinite}
use Rattle.search_rules.specs.Words.{HadNoOverflow, HaveNoOverflowOf}
use Rattle.search_rules.proofs.moves.DecidedGoals.{changed_decided}
use Rattle.search_rules.proofs.moves.Moves.{asks_known, some_frames, some_runs}

module _ {D C V P F I R A T : Type 0} (G : DelegateOf D C V P F I R A T) (X : CxOf C I R A T) (cx : C) (call : Call I)
    (same : I → I → Bool) (results : Store I (StoredResult I R T)) where
  abbrev Goal : Type 0
  Goal = OpenGoal C F I R A T

  -- what the theory is told of a used result
  abbrev outcome_of_hit : Hit I R T → Outcome R
  outcome_of_hit hit = record {
    result = hit.result;
    required = hit.required_depth;
    met_overflow = hit.encountered_overflow;
    in_cycle = false;
  }

  module _ (goal : I) (depth : ℕ) (hit : Hit I R T) (u : IsUsable same (G.script cx) results goal depth hit) where
    usable_is_safe : IsSafeOutcome (G.script cx) goal depth (outcome_of_hit hit)
    usable_is_safe = record { value = u.value; overflow = u.overflow; cycle = λ c. absurd cc; within = u.within }

    -- where no overflow is stored, none was met
    met_none_at : (of : I → Type 0) → of goal → (b : Bool) → hit.encountered_overflow ≡ b
        → HaveNoOverflowOf of same results → hit.encountered_overflow ≡ false
    met_none_at of is_of false is none = is
    met_none_at of is_of true is none =
        let there : stored_at same results goal (WithOverflow depth) ≡ Some u.stored =
        subst (λ p. stored_at same results goal p ≡ Some u.stored) (u.place_is is) u.is_stored in
        let clash : None ≡ Some u.stored = sym (none goal is_of depth) ∙ there in
        absurd cc

    met_none : (of : I → Type 0) → of goal → HaveNoOverflowOf of same results → hit.encountered_overflow ≡ false
    met_none of is_of none = met_none_at of is_of hit.encountered_overflow refl none

    hit_is_definite : AreDefinite (verdicts X) same results → IsDefinite (verdicts X) hit.result
    hit_is_definite all = subst (IsDefinite (verdicts X)) u.result_is (all goal u.place u.stored u.is_stored)

  -- the newest goal takes it over
  stored_taken : (entry : StackEntry C I R A T) (run : Run C F I R A T) (hit : Hit I R T) (nested : NestedPaths I)
      → TakesReply (seen G X cx) (Stood G X cx) (G.script cx) (λ g. answered g (outcome_of_hit hit)) (Answer hit.result)
      (entry, run) (
        record entry {
          state = with_nested_goals (with_depth entry.state hit.required_depth hit.encountered_overflow) nested;
        },
        run,
      )
  stored_taken entry run hit nested = record {
    same = λ replies. ap (λ b. record (with_replies (seen G X cx (
      record entry {
        state = with_nested_goals (with_depth entry.state hit.required_depth hit.encountered_overflow) nested;
      },
      run,
    )) (Answer hit.result ∷ replies)) { in_cycle = b }) (or-false (is_in_cycle entry.state));
    stood = λ replies stood. stood;
  }

  pub stored_goes_on : (ahead : ℕ) (kind : PathKind) (goal : I) (depth : ℕ) (received : Received R)
      (old new : List Goal) (starts : ℕ) (met : Bool)
      → ((s : Goal) (below : List Goal) → old ≡ s ∷ below → IsAllowed (seen G X cx s) depth)
      → UsesStored same (G.script cx) results kind goal depth received old new → KeepsStore G X cx same call met results
      → HasAsked G X cx call ahead (Evaluate kind goal) old starts met
      → CallGoesOn G X cx call ahead received.reply new starts met
  stored_goes_on ahead kind goal depth received old new starts met may uses keeps h =
      let t = uses.takes in
      let later : Goal = (
        record t.entry {
          state = with_nested_goals
              (with_depth t.entry.state uses.hit.required_depth uses.hit.encountered_overflow) t.nested;
        },
        t.run,
      ) in
      let was : HasAsked G X cx call ahead (Evaluate kind goal) ((t.entry, t.run) ∷ t.below) starts met =
      subst (λ v. HasAsked G X cx call ahead (Evaluate kind goal) v starts met) t.was h in
      let w = answered_waits (seen G X cx) (Stood G X cx) (G.script cx) (limits G X cx call) (IsCounted G X cx call)
      call.top (bound G X cx call) (some_runs G.FIXPOINT_STEP_LIMIT) ahead starts met (t.entry, t.run) t.below kind
      goal depth (outcome_of_hit uses.hit) (
        record t.entry {
          state = with_nested_goals
              (with_depth t.entry.state uses.hit.required_depth uses.hit.encountered_overflow) t.nested;
        },
        t.run,
      )
      (may (t.entry, t.run) t.below t.was) (usable_is_safe goal depth uses.hit uses.usable)
      (λ meets. met_none goal depth uses.hit uses.usable (HadNoOverflow call)
      (asks_known G X cx call ahead kind goal old starts met meets h) (keeps.overflow meets))
      (stored_taken t.entry t.run uses.hit t.nested) was.asked in
      subst (λ (given : Received R). CallGoesOn G X cx call ahead given.reply new starts met) (sym uses.is)
      (subst (λ v. CallGoesOn G X cx call ahead (Answer uses.hit.result) v starts met) (sym t.is)
      (record {
        waiting = record {
          waits = w.0;
          keeps = h.keeps;
          decided = λ decisive unmet. (
            changed_decided (verdicts X) (t.entry, t.run) (
              record t.entry {
                state = with_nested_goals
                    (with_depth t.entry.state uses.hit.required_depth uses.hit.encountered_overflow) t.nested;
              },
              t.run,
            ) t.below refl
                (λ here. record { replies = here.replies; provisional = here.provisional })
                (was.decided decisive unmet),
            hit_is_definite goal depth uses.hit uses.usable (keeps.definite decisive unmet),
          );
        };
        falls = w.1;
      }))

  -- a stored result that answers the call
  module _ (hit : Hit I R T) (u : IsUsable same (G.script cx) results call.top call.root hit) where
    calm_at : (n : ℕ) → IsPlainTo (G.script cx) n call.top → n ≤ call.root → (b : Bool)
        → hit.encountered_overflow ≡ b → hit.encountered_overflow ≡ false
    calm_at n p fits false is = is
    calm_at n p fits true is = let low : call.root < n = u.overflow is n p in absurd (omega arith)

    calm : (n : ℕ) → IsPlainTo (G.script cx) n call.top → n ≤ call.root → hit.encountered_overflow ≡ false
    calm n p fits = calm_at n p fits hit.encountered_overflow refl

    ends_call : KeepsStore G X cx same call call.limits_met results
        → HasEnded G X cx call hit.result call.starts call.limits_met
    ends_call keeps = record {
      outcome = outcome_of_hit hit;
      result_is = refl;
      ends = record {
        safe = usable_is_safe call.top call.root hit u;
        plain = λ n p fits. (u.value (calm n p fits) n p, calm n p fits, refl);
        within = let some = some_frames (runs G X cx) (G.width cx) call.root (some_runs G.FIXPOINT_STEP_LIMIT) in
            omega arith;
        paid = λ counted met. let unmet : call.limits_met ≡ false = counted.1 in absurd cc;
        by_runs = λ counted enclosed met. let unmet : call.limits_met ≡ false = counted.1 in absurd cc;
      };
      keeps = record { stays = λ was. was; plain = λ n p fits. refl };
      decided = λ decisive unmet. hit_is_definite call.top call.root hit u (keeps.definite decisive unmet);
    }

  pub stored_ends : (input : I) (root starts : ℕ) (met : Bool) (hit : Hit I R T)
      → IsUsable same (G.script cx) results input root hit → Begins G X cx same call input root starts met results
      → HasEnded G X cx call hit.result starts met
  stored_ends input root starts met hit u b =
      subst (λ m. HasEnded G X cx call hit.result starts m) b.outset.same_limits
      (subst (λ n. HasEnded G X cx call hit.result n call.limits_met) b.outset.same_starts
      (ends_call hit (rw b.outset.same_top (rw b.outset.same_root u))
      (subst (λ m. KeepsStore G X cx same call m results) (sym b.outset.same_limits) b.store)))
