-- Each move of the search is a move of the theory of evaluations.
use Rattle.std.proofs.Common.{◌≡◌, ℕ, zero, suc, ◌+◌, ◌-◌, ◌*◌, ◌/◌, ◌^◌, ◌<◌, ◌≤◌, max, nat_eq, if◌then◌else◌, Bool}
use Rattle.std.proofs.Common.{true, false, List, [], ◌∷◌, length, map, reverse, Contains, Option, Some, None, IfSome}
use Rattle.std.proofs.Common.{unwrap_or, refl, sym, ap, ◌∙◌, subst, arith, ap₂, inl, inr, ◌||◌, ◌⊎◌, is_some}
use Rattle.std.proofs.Common.{mul-le-mul_left, mul-le-mul_right}
use Rattle.std.specs.List.{list_any}
use Rattle.std.proofs.lemmas.Bool.{or_right, true≢false}
use Rattle.std.proofs.lemmas.Bool.Decides.{nat_tests}
use Rattle.search_rules.specs.Below.{CacheNode, DelegateOf, CxOf, Request, Evaluate, Done, Reply, Begin, Answer}
use Rattle.search_rules.specs.Below.{PathKind, NodeId, AvailableDepth, StackDepth, EntryState, Heads, NestedPaths}
use Rattle.search_rules.specs.Below.{OpenGoal, StackEntry, depth_below, frames_within, Verdict, Fault, Memory, Protocol}
use Rattle.search_rules.specs.Below.{IsFitting, progress_after, order_fault, fault_after, CountsOne, Steps}
use Rattle.search_rules.specs.Below.{IsCycleResult, Outcome, run_again, IsAllowed, HasNoRank, IsPlainTo, AreSafe}
use Rattle.search_rules.specs.Below.{IsRooted, IsEvaluating, at, Ends, with_replies, TakesStep, TakesReply, ItemLeaves}
use Rattle.search_rules.specs.Below.{IsAmong, AreSeen, Mirror, Waits, Run, Next, Step, Finished, Received, overflowed}
use Rattle.search_rules.specs.Below.{first_entry, with_nested_goals, is_in_cycle, cycle_head, some_heads, TakesAnswer}
use Rattle.search_rules.specs.Below.{requested, fault_of, IsReplySorted, Stood, CanStep, IsVerdict, received_by}
use Rattle.search_rules.specs.Below.{HasStepped, IsStepFault, NoMemoryLeft, OutOfOrder, path_kind_from, IsDecidedKind}
use Rattle.search_rules.specs.Below.{IsDecidedReply, AreDecided, IsDecisive, IsDefinite, AnswersNewest, rerun_with}
use Rattle.search_rules.specs.Below.{with_no_record, verdicts}
use Rattle.evaluations.specs.Frames.{Frame, answered}
use Rattle.evaluations.proofs.Mirrors.{step_requests, can_take, refused_waits, answered_waits, pushed_waits}
use Rattle.evaluations.proofs.Mirrors.{rerun_waits, popped_waits, popped_at_limit_waits, last_item_ends}
use Rattle.evaluations.proofs.Mirrors.{last_item_ends_at_limit, last_run_stops, failed_rerun_stops, WaitsWithLess}
use Rattle.evaluations.proofs.Mirrors.{first_waits, waits_stops, requested_stops, failed_push_stops, cycle_found}
use Rattle.evaluations.proofs.Mirrors.{requested_fits, requested_by, asked_among, none_refused}
use Rattle.evaluations.proofs.Evaluations.{evaluation_stops, fitting_meets_no_limit}
use Rattle.evaluations.proofs.Plains.{unranked_is_safe}
use Rattle.search_rules.specs.Words.{EndsNewest, Call, runs, limits, bound, IsCounted, CallMeetsNone, CallIsEnclosed}
use Rattle.search_rules.specs.Words.{HadNoOverflow, KeepsLimits, AllDecided, Decidedly, IfDiffers, seen, IsWaiting}
use Rattle.search_rules.specs.Words.{work_left, HasAsked, CallGoesOn, HasStopped, Leads, first_run, Pushes, Reruns}
use Rattle.search_rules.specs.Words.{CanLeave, NewestLeaves, ClosesCycle}
use Rattle.run_records.proofs.ProgressLaws.{records_new, records_received, fault_is}
use Rattle.search_rules.proofs.moves.DecidedGoals.{below_decided, changed_decided, cycle_decided, newest_decided}
use Rattle.search_rules.proofs.moves.DecidedGoals.{pushed_decided, replied_decided}

or_none : (a b : Bool) → (a || b) ≡ false → b ≡ false
or_none true b none = absurd cc
or_none false b none = none

pub some_runs : (n : ℕ) → 1 ≤ max 1 n
some_runs n = omega arith

allowed_by : (a divisor depth : ℕ) (none overflow : Bool) → nat_eq a 0 ≡ none → 2 ≤ divisor
    → Some depth ≡ (if none then None else if overflow then Some (a / divisor) else Some (a - 1))
    → (depth < a) × (overflow ≡ false → a ≡ suc depth)
allowed_by a divisor depth true overflow at more is = absurd cc
allowed_by a divisor depth false true at more is =
    let some : 0 < a = grind (arith, nat_tests) in
    let same : depth ≡ a / divisor = cc in
    let twice : 2 * (a / divisor) ≤ divisor * (a / divisor) = mul-le-mul_right (a / divisor) more in
    (omega arith, λ calm. absurd cc)
allowed_by a divisor depth false false at more is =
    let some : 0 < a = grind (arith, nat_tests) in
    let same : depth ≡ a - 1 = cc in
    (omega arith, λ calm. omega arith)

-- the depth of a question is less than that of its asker, and one less if no overflow was met
pub allowed : {X I R A T : Type 0} (divisor depth : ℕ) (e : StackEntry X I R A T) → 2 ≤ divisor
    → Some depth ≡ depth_below divisor e
    → (depth < e.available_depth.0) × (e.state.encountered_overflow ≡ false → e.available_depth.0 ≡ suc depth)
allowed divisor depth e more is = allowed_by e.available_depth.0 divisor depth (nat_eq e.available_depth.0 0)
    e.state.encountered_overflow refl more is

-- an evaluation has its root's frame at least
pub some_frames : (runs width depth : ℕ) → 1 ≤ runs → 1 ≤ frames_within runs width depth
unfolding frames_within
some_frames runs width zero some = some
some_frames runs width (suc depth) some =
    let more : runs * 1 ≤ runs * (1 + width * frames_within runs width depth) = mul-le-mul_left runs (omega arith) in
    omega arith

module _ {D C V P F I R A T : Type 0} (G : DelegateOf D C V P F I R A T) (X : CxOf C I R A T) (cx : C) where
  -- the outcome of a popped goal
  abbrev pub outcome_of : R → OpenGoal C F I R A T → Outcome R
  outcome_of r s = record {
    result = r;
    required = s.0.state.required_depth;
    met_overflow = s.0.state.encountered_overflow || s.1.met_overflow_before;
    in_cycle = some_heads s.0.state.heads;
  }

  -- what a popped goal leaves: its run's result, or, of a goal in a cycle, any result
  pub leaving : (done r : R) (s : OpenGoal C F I R A T) → (r ≡ done) ⊎ (is_in_cycle s.0.state ≡ true)
      → ItemLeaves done (seen G X cx s) (outcome_of r s)
  leaving done r s result = record {
    result = result;
    required = refl;
    met_overflow = refl;
    in_cycle = or_right (is_some s.0.state.usages) (some_heads s.0.state.heads);
  }

module _ {D C V P F I R A T : Type 0} (G : DelegateOf D C V P F I R A T)
    (X : CxOf C I R A T) (cx : C) (call : Call I) where
  abbrev Goal : Type 0
  Goal = OpenGoal C F I R A T

  -- a frame that waits for a reply is there,
  pub some_waits : (reply : Reply R) (goals : List Goal) (starts : ℕ) (met : Bool)
      → IsWaiting G X cx call reply goals starts met → 0 < length goals
  some_waits reply [] starts met h = absurd h.waits.mirror
  some_waits reply (s ∷ below) starts met h = omega arith

  -- and can take it,
  pub can_step : (reply : Reply R) (goals : List Goal) (starts : ℕ) (met : Bool)
      → IsWaiting G X cx call reply goals starts met → CanStep G X cx reply goals
  can_step reply [] starts met h = absurd h.waits.mirror
  can_step reply (s ∷ below) starts met h =
      let can = can_take (seen G X cx) (Stood G X cx) (G.script cx) (limits G X cx call) (IsCounted G X cx call)
      call.top (bound G X cx call) reply s below starts met h.waits in
      (can.0, can.1.0, can.2)

  -- and the record says what it has had
  pub can_step_record : (reply : Reply R) (s : Goal) (below : List Goal) (starts : ℕ) (met : Bool)
      → IsWaiting G X cx call reply (s ∷ below) starts met
      → (earlier : List (Reply R)) × Stood G X cx s earlier × IsFitting (G.script cx s.0.input) (reply ∷ earlier)
  can_step_record reply s below starts met h = can_take (seen G X cx) (Stood G X cx) (G.script cx) (limits G X cx call)
      (IsCounted G X cx call) call.top (bound G X cx call) reply s below starts met h.waits

  -- the record of a step
  module _ (entry : StackEntry C I R A T) (run : Run C F I R A T) (frame : F) (verdict : Verdict) (given : Received R)
      (request : Request I R) (steps : Steps G.stands G.script run.frame given.reply request frame)
      (sorted : IsReplySorted (verdicts X) given.reply verdict given.node) where
    record_after : fault_of (received_by G X cx run given verdict) request ≡ None → (earlier : List (Reply R))
        → Stood G X cx (entry, run) earlier → IsFitting (G.script cx entry.input) (given.reply ∷ earlier)
        → (request ≡ G.script cx entry.input (given.reply ∷ earlier)) × Stood G X cx (
          entry,
          record run { frame = frame; progress = requested (received_by G X cx run given verdict) request },
        ) (given.reply ∷ earlier)
    record_after orderly earlier stood fits =
        let made = steps cx entry.input earlier stood.0 fits in
        let told = fault_is (verdicts X) (G.script cx entry.input) run.progress earlier given.reply verdict given.node
        stood.1 fits.0 sorted request made.0 in (
          made.0,
          (
            made.1,
            records_received (verdicts X) (G.script cx entry.input) run.progress earlier given.reply verdict given.node
                stood.1 fits.0 sorted request made.0
                (ap (λ q. order_fault (progress_after (G.script cx entry.input) (given.reply ∷ earlier)) (Some q))
                made.0 ∙ sym told ∙ orderly),
          ),
        )

    -- a fault of the order is one of the script
    pub fault_after_step : (number : ℕ) → fault_of (received_by G X cx run given verdict) request ≡ Some number
        → (earlier : List (Reply R)) → Stood G X cx (entry, run) earlier
        → IsFitting (G.script cx entry.input) (given.reply ∷ earlier)
        → fault_after (G.script cx entry.input) (given.reply ∷ earlier) ≡ Some number
    fault_after_step number disorderly earlier stood fits =
        let made = steps cx entry.input earlier stood.0 fits in
        sym (fault_is (verdicts X) (G.script cx entry.input) run.progress earlier given.reply verdict given.node stood.1
        fits.0 sorted request made.0) ∙ disorderly

  -- the newest goal gets one reply more, which is decided
  pub stepped_decided : (given : Received R) (request : Request I R) (old new : List Goal)
      → HasStepped G X cx given request old new → IsDecidedReply (verdicts X) given.reply
      → AllDecided (verdicts X) old → AllDecided (verdicts X) new
  stepped_decided given request old new s reply all =
      subst (AllDecided (verdicts X)) (sym s.is)
      (changed_decided (verdicts X) (s.entry, s.run) (
        s.entry,
        record s.run { frame = s.frame; progress = requested (received_by G X cx s.run given s.verdict) request },
      ) s.below refl
      (λ here. record {
        replies = replied_decided (verdicts X) s.run.progress.replies given.reply reply here.replies;
        provisional = here.provisional;
      })
      (subst (AllDecided (verdicts X)) s.was all))

  -- and then has made a request
  pub step_asks : (given : Received R) (request : Request I R) (old new : List Goal) (starts : ℕ) (met : Bool)
      (s : HasStepped G X cx given request old new)
      → IsReplySorted (verdicts X) given.reply s.verdict given.node → IsWaiting G X cx call given.reply old starts met
      → HasAsked G X cx call (work_left G X cx old) request new starts met
  step_asks given request old new starts met s sorted h =
      let later : Run C F I R A T =
      record s.run { frame = s.frame; progress = requested (received_by G X cx s.run given s.verdict) request } in
      let was : IsWaiting G X cx call given.reply ((s.entry, s.run) ∷ s.below) starts met =
      subst (λ v. IsWaiting G X cx call given.reply v starts met) s.was h in
      let takes : TakesStep (seen G X cx) (Stood G X cx) (G.script cx) given.reply request (s.entry, s.run) (
        s.entry,
        record s.run { frame = s.frame; progress = requested (received_by G X cx s.run given s.verdict) request },
      ) =
      record {
        falls = s.falls;
        same = refl;
        steps = record_after s.entry s.run s.frame s.verdict given request s.steps sorted s.in_order;
      } in
      let asks = step_requests (seen G X cx) (Stood G X cx) (G.script cx) (limits G X cx call) (IsCounted G X cx call)
      call.top (bound G X cx call) given.reply request (s.entry, s.run) (
        s.entry,
        record s.run { frame = s.frame; progress = requested (received_by G X cx s.run given s.verdict) request },
      ) s.below starts met takes was.waits in
      subst (λ v. HasAsked G X cx call (work_left G X cx v) request new starts met) (sym s.was)
      (subst (λ v. HasAsked G X cx call (work_left G X cx ((s.entry, s.run) ∷ s.below)) request v starts met) (sym s.is)
      (record {
        asked = asks;
        keeps = h.keeps;
        decided = λ decisive unmet.
            let d = was.decided decisive unmet in
            changed_decided (verdicts X) (s.entry, s.run) (
              s.entry,
              record s.run { frame = s.frame; progress = requested (received_by G X cx s.run given s.verdict) request },
            ) s.below refl
            (λ here. record {
              replies = replied_decided (verdicts X) s.run.progress.replies given.reply d.1 here.replies;
              provisional = here.provisional;
            }) d.0;
      }))

  -- or has failed: a fault of the order is one of a script, and comes not where the root's rank fits
  disorder_stops : (given : Received R) (entry : StackEntry C I R A T) (run : Run C F I R A T) (frame : F)
      (verdict : Verdict) (below : List Goal) (request : Request I R) (number : ℕ) (fault : Fault I R) (starts : ℕ)
      (met : Bool) (frames : List (Frame I R)) → Steps G.stands G.script run.frame given.reply request frame
      → IsReplySorted (verdicts X) given.reply verdict given.node
      → fault_of (received_by G X cx run given verdict) request ≡ Some number → fault ≡ Protocol number
      → Mirror (seen G X cx) (Stood G X cx) given.reply ((entry, run) ∷ below) frames → IsEvaluating (G.script cx)
      (limits G X cx call) (IsCounted G X cx call) call.top (bound G X cx call) (at frames starts met)
      → KeepsLimits G X cx call met → HasStopped G X cx call fault starts met
  disorder_stops given entry run frame verdict below request number fault starts met [] steps
      sorted disorderly is m e k = absurd m
  disorder_stops given entry run frame verdict below request number fault starts met
      (f ∷ fs) steps sorted disorderly is m e k =
      let goal : f.goal ≡ entry.input = ap (λ g. g.goal) m.0.is in
      let replies : f.replies ≡ given.reply ∷ m.0.earlier = ap (λ g. g.replies) m.0.is in
      let fits : IsFitting (G.script cx entry.input) (given.reply ∷ m.0.earlier) =
      subst (λ g. IsFitting (G.script cx g.goal) g.replies) m.0.is e.safe.0.fitting in
      let told = fault_after_step entry run frame verdict given request steps sorted number
      disorderly m.0.earlier m.0.stood fits in
      record {
        stops = evaluation_stops (G.script cx) (limits G X cx call) (IsCounted G X cx call) call.top
            (bound G X cx call) (at (f ∷ fs) starts met) e;
        keeps = k;
        plain = λ n p room.
            let none = (fitting_meets_no_limit (G.script cx) (limits G X cx call) (IsCounted G X cx call) call.top
            (bound G X cx call) n f fs starts met p room e).3 in
            let here : fault_after (G.script cx entry.input) (given.reply ∷ m.0.earlier) ≡ None =
            subst (λ g. fault_after (G.script cx g.goal) g.replies ≡ None) m.0.is none in
            let clash : None ≡ Some number = sym here ∙ told in
            absurd cc;
        decided = λ decisive unmet. subst (λ f. IfDiffers f (IsDefinite (verdicts X))) (sym is) tt;
      }

  -- a step that failed
  pub step_stops : (given : Received R) (goals : List Goal) (fault : Fault I R) (starts : ℕ) (met : Bool)
      → ((verdict : Verdict) → IsVerdict (verdicts X) given.reply verdict
      → IsReplySorted (verdicts X) given.reply verdict given.node) → IsStepFault G X cx given goals fault
      → IsWaiting G X cx call given.reply goals starts met → HasStopped G X cx call fault starts met
  step_stops given goals fault starts met sorts (NoMemoryLeft is) h =
      record {
        stops = waits_stops (seen G X cx) (Stood G X cx) (G.script cx) (limits G X cx call) (IsCounted G X cx call)
            call.top (bound G X cx call) given.reply goals starts met h.waits;
        keeps = h.keeps;
        plain = λ n p room. is;
        decided = λ decisive unmet. subst (λ f. IfDiffers f (IsDefinite (verdicts X))) (sym is) tt;
      }
  step_stops given goals fault starts met sorts
      (OutOfOrder entry run frame verdict below request number was is_verdict steps disorderly is) h =
      let there : IsWaiting G X cx call given.reply ((entry, run) ∷ below) starts met =
      subst (λ v. IsWaiting G X cx call given.reply v starts met) was h in
      disorder_stops given entry run frame verdict below request number fault starts met there.waits.frames steps
      (sorts verdict is_verdict) disorderly is there.waits.mirror there.waits.evaluating there.keeps

  -- where the delegate is decisive, the newest goal's questions and its result are decided
  asked_kind : (ahead : ℕ) (kind : PathKind) (goal : I) (goals : List Goal) (starts : ℕ) (met : Bool)
      → HasAsked G X cx call ahead (Evaluate kind goal) goals starts met
      → IsDecisive (verdicts X) (G.script cx) → IsDecidedKind kind
  asked_kind ahead kind goal [] starts met h decisive = absurd h.asked.mirror
  asked_kind ahead kind goal (s ∷ below) starts met h decisive =
      let by = requested_by (seen G X cx) (Stood G X cx) (G.script cx) (limits G X cx call) (IsCounted G X cx call)
      call.top (bound G X cx call) ahead (Evaluate kind goal) s below starts met h.asked in
      decisive.asks s.0.input goal by.0 kind by.2 by.3

  pub done_definite : (ahead : ℕ) (done : R) (goals : List Goal) (starts : ℕ) (met : Bool)
      → HasAsked G X cx call ahead (Done done) goals starts met
      → Decidedly G X cx call met (IsDefinite (verdicts X) done)
  done_definite ahead done [] starts met h decisive unmet = absurd h.asked.mirror
  done_definite ahead done (s ∷ below) starts met h decisive unmet =
      let by = requested_by (seen G X cx) (Stood G X cx) (G.script cx) (limits G X cx call) (IsCounted G X cx call)
      call.top (bound G X cx call) ahead (Done done) s below starts met h.asked in
      let here = (newest_decided (verdicts X) s below (h.decided decisive unmet)).replies in
      decisive.0.ends s.0.input by.0 done by.2 (subst (AreDecided (verdicts X)) by.1.1.replies_are here) by.3

  -- a goal that takes an answer over stays decided
  pub answered_decided : (step : PathKind) (required : ℕ) (overflow : Bool) (answer : Heads) (old new : List Goal)
      → AnswersNewest step required overflow answer old new → AllDecided (verdicts X) old → AllDecided (verdicts X) new
  answered_decided step required overflow answer old new a h =
      subst (AllDecided (verdicts X)) (sym a.is)
      (changed_decided (verdicts X) (a.entry, a.run) (record a.entry { state = a.state }, a.run) a.below refl
      (λ here. record {
        replies = here.replies;
        provisional = subst (λ (o : Option R). IfSome o (IsDefinite (verdicts X)))
            (sym (ap (λ (s : EntryState C I R A T). s.provisional_result) a.takes.others)) here.provisional;
      })
      (subst (AllDecided (verdicts X)) a.was h))

  -- a goal without depth asks: the question is refused
  pub refused_goes_on : (ahead : ℕ) (kind : PathKind) (goal : I) (r : R) (s : Goal) (below : List Goal)
      (nested : NestedPaths I) (starts : ℕ) (met : Bool) → s.0.available_depth.0 ≡ 0
      → HasAsked G X cx call ahead (Evaluate kind goal) (s ∷ below) starts met → CallGoesOn G X cx call ahead (Answer r)
      ((overflowed (record s.0 { state = with_nested_goals s.0.state nested }), s.1) ∷ below) starts true
  refused_goes_on ahead kind goal r s below nested starts met none h =
      let w = refused_waits (seen G X cx) (Stood G X cx) (G.script cx) (limits G X cx call) (IsCounted G X cx call)
      call.top (bound G X cx call) (some_runs G.FIXPOINT_STEP_LIMIT) ahead starts met s below kind goal r (
        overflowed (record s.0 { state = with_nested_goals s.0.state nested }),
        s.1,
      ) none (record { same = λ replies. refl; stood = λ replies stood. stood }) h.asked in
      record {
        waiting = record {
          waits = w.0;
          keeps = record {
            stays = λ was. refl;
            plain = λ n p fits.
                let deep : 0 < s.0.available_depth.0 = (requested_fits (seen G X cx) (Stood G X cx) (G.script cx)
                (limits G X cx call) (IsCounted G X cx call) call.top (bound G X cx call) ahead (Evaluate kind goal) s
                below starts met n p fits h.asked).1 kind goal refl in
                absurd (omega arith);
          };
          decided = λ decisive unmet. absurd (true≢false unmet);
        };
        falls = w.1;
      }

  among_at : (eq : I → I → Bool) (goal : I) (s : Goal) (below : List Goal) (b : Bool) → eq goal s.0.input ≡ b
      → ((x y : I) → eq x y ≡ true → x ≡ y) → (b || list_any (λ t. eq goal t.0.input) below) ≡ true
      → (list_any (λ t. eq goal t.0.input) below ≡ true → IsAmong (seen G X cx) goal below)
      → IsAmong (seen G X cx) goal (s ∷ below)
  among_at eq goal s below true same exact is lower = inl (sym (exact goal s.0.input same))
  among_at eq goal s below false differs exact is lower = inr (lower is)

  among : (eq : I → I → Bool) → ((x y : I) → eq x y ≡ true → x ≡ y) → (goal : I) (goals : List Goal)
      → list_any (λ s. eq goal s.0.input) goals ≡ true → IsAmong (seen G X cx) goal goals
  among eq exact goal [] is = absurd cc
  among eq exact goal (s ∷ below) is =
      among_at eq goal s below (eq goal s.0.input) refl exact is (among eq exact goal below)

  -- an answer is taken over
  takes_answer : (r : R) (step : PathKind) (required : ℕ) (overflow : Bool) (answer : Heads)
      (entry : StackEntry C I R A T) (run : Run C F I R A T) (parent : StackDepth) (state : EntryState C I R A T)
      → TakesAnswer parent step required overflow answer entry.state state
      → TakesReply (seen G X cx) (Stood G X cx) (G.script cx) (λ g. answered g (record {
        result = r;
        required = required;
        met_overflow = overflow;
        in_cycle = some_heads answer;
      })) (Answer r) (entry, run) (record entry { state = state }, run)
  takes_answer r step required overflow answer entry run parent state takes = record {
    same = λ replies.
        ap (λ b. record (with_replies (answered (seen G X cx (entry, run)) (record {
          result = r;
          required = required;
          met_overflow = overflow;
          in_cycle = some_heads answer;
        })) (Answer r ∷ replies)) { in_cycle = b }) (sym takes.in_cycle)
        ∙ ap (λ s. record (with_replies (seen G X cx (record entry { state = s }, run)) (Answer r ∷ replies)) {
          in_cycle = is_in_cycle state;
        }) (sym takes.others);
    stood = λ replies stood. stood;
  }

  -- a goal that is under evaluation is asked: it has no rank, so that any answer is safe
  pub cycle_goes_on : (eq : I → I → Bool) → ((x y : I) → eq x y ≡ true → x ≡ y)
      → ((kind : PathKind) (goal : I) → IsCycleResult X.is_yes X.is_no kind (G.initial_result cx kind goal))
      → (ahead : ℕ) (kind : PathKind) (goal : I) (received : Received R) (depth : ℕ) (head : StackDepth)
      (old new : List Goal) (starts : ℕ) (met : Bool)
      → ((s : Goal) (below : List Goal) → old ≡ s ∷ below → IsAllowed (seen G X cx s) depth)
      → list_any (λ t. eq goal t.0.input) old ≡ true → ClosesCycle G X cx eq kind goal head received old new
      → HasAsked G X cx call ahead (Evaluate kind goal) old starts met
      → CallGoesOn G X cx call ahead received.reply new starts met
  cycle_goes_on eq exact sorts ahead kind goal reply depth head old new starts met may found c h =
      let t = c.takes in
      let cycle : PathKind = path_kind_from (reverse (map (λ s. s.0) old)) head.0 kind in
      let r : R = unwrap_or c.entry.state.provisional_result
      (G.initial_result cx (path_kind_from (reverse (map (λ s. s.0) old)) head.0 kind) goal) in
      let was : HasAsked G X cx call ahead (Evaluate kind goal) ((t.entry, t.run) ∷ t.below) starts met =
      subst (λ v. HasAsked G X cx call ahead (Evaluate kind goal) v starts met) t.was h in
      let no_rank = cycle_found (seen G X cx) (Stood G X cx) (G.script cx) (limits G X cx call) (IsCounted G X cx call)
      call.top (bound G X cx call) ahead kind goal ((t.entry, t.run) ∷ t.below) starts met was.asked
      (among eq exact goal ((t.entry, t.run) ∷ t.below)
      (subst (λ v. list_any (λ (u : Goal). eq goal u.0.input) v ≡ true) t.was found)) in
      let w = answered_waits (seen G X cx) (Stood G X cx) (G.script cx) (limits G X cx call) (IsCounted G X cx call)
      call.top (bound G X cx call) (some_runs G.FIXPOINT_STEP_LIMIT) ahead starts met (t.entry, t.run) t.below kind goal
      depth (record { result = r; required = 0; met_overflow = false; in_cycle = true })
      (record t.entry { state = t.state }, t.run)
      (may (t.entry, t.run) t.below t.was) (unranked_is_safe (G.script cx) goal depth
      (record { result = r; required = 0; met_overflow = false; in_cycle = true }) no_rank (omega arith))
      (λ meets. refl)
      (takes_answer r kind 0 false ((head, cycle_head kind cycle) ∷ []) t.entry t.run
      (record { 0 = length t.below }) t.state t.takes) was.asked in
      subst (λ given. CallGoesOn G X cx call ahead given new starts met) (sym (ap (λ given. given.reply) c.is))
      (record {
        waiting = record {
          waits = subst (λ v. Waits (seen G X cx) (Stood G X cx) (G.script cx) (limits G X cx call)
              (IsCounted G X cx call) call.top (bound G X cx call) (Answer r) v starts met) (sym t.is) w.0;
          keeps = h.keeps;
          decided = λ decisive unmet.
              let d = h.decided decisive unmet in (
                answered_decided kind 0 false ((
                  head,
                  cycle_head kind (path_kind_from (reverse (map (λ s. s.0) old)) head.0 kind),
                ) ∷ []) old new t d,
                cycle_decided (verdicts X) old head.0 kind c.entry
                    (G.initial_result cx (path_kind_from (reverse (map (λ s. s.0) old)) head.0 kind) goal) d
                    (asked_kind ahead kind goal old starts met h decisive.0) c.is_at
                    (sorts (path_kind_from (reverse (map (λ s. s.0) old)) head.0 kind) goal),
              );
        };
        falls = subst (λ v. work_left G X cx v < ahead) (sym t.is) w.1;
      })

  -- a provisional entry of a goal without a rank is taken over
  pub provisional_goes_on : (ahead : ℕ) (kind : PathKind) (goal : I) (r : R) (overflow : Bool) (answer : Heads)
      (depth : ℕ) (old new : List Goal) (starts : ℕ) (met : Bool)
      → ((s : Goal) (below : List Goal) → old ≡ s ∷ below → IsAllowed (seen G X cx s) depth)
      → HasNoRank (G.script cx) goal → (CallMeetsNone G X cx call met → overflow ≡ false)
      → Decidedly G X cx call met (IsDefinite (verdicts X) r) → AnswersNewest kind 0 overflow answer old new
      → HasAsked G X cx call ahead (Evaluate kind goal) old starts met
      → CallGoesOn G X cx call ahead (Answer r) new starts met
  provisional_goes_on ahead kind goal r overflow answer depth old new starts met may no_rank calm definite t h =
      let was : HasAsked G X cx call ahead (Evaluate kind goal) ((t.entry, t.run) ∷ t.below) starts met =
      subst (λ v. HasAsked G X cx call ahead (Evaluate kind goal) v starts met) t.was h in
      let w = answered_waits (seen G X cx) (Stood G X cx) (G.script cx) (limits G X cx call) (IsCounted G X cx call)
      call.top (bound G X cx call) (some_runs G.FIXPOINT_STEP_LIMIT) ahead starts met (t.entry, t.run) t.below kind goal
      depth (record { result = r; required = 0; met_overflow = overflow; in_cycle = some_heads answer })
      (record t.entry { state = t.state }, t.run)
      (may (t.entry, t.run) t.below t.was) (unranked_is_safe (G.script cx) goal depth (record {
        result = r;
        required = 0;
        met_overflow = overflow;
        in_cycle = some_heads answer;
      }) no_rank (omega arith)) calm
      (takes_answer r kind 0 overflow answer t.entry t.run (record { 0 = length t.below }) t.state t.takes) was.asked in
      record {
        waiting = record {
          waits = subst (λ v. Waits (seen G X cx) (Stood G X cx) (G.script cx) (limits G X cx call)
              (IsCounted G X cx call) call.top (bound G X cx call) (Answer r) v starts met) (sym t.is) w.0;
          keeps = h.keeps;
          decided = λ decisive unmet. (
            answered_decided kind 0 overflow answer old new t (h.decided decisive unmet),
            definite decisive unmet,
          );
        };
        falls = subst (λ v. work_left G X cx v < ahead) (sym t.is) w.1;
      }

  -- in an enclosed call no goal that asks is without depth, and what it asks is one of the goals
  pub enclosed_asker : (ahead : ℕ) (request : Request I R) (s : Goal) (below : List Goal) (starts : ℕ) (met : Bool)
      → CallIsEnclosed G X cx call → s.0.available_depth.0 ≡ 0
      → HasAsked G X cx call ahead request (s ∷ below) starts met → ⊥
  enclosed_asker ahead request s below starts met enclosed none h =
      none_refused (seen G X cx) (Stood G X cx) (G.script cx) (limits G X cx call) (IsCounted G X cx call) call.top
      (bound G X cx call) ahead request s below starts met h.asked enclosed none

  pub enclosed_asks : (ahead : ℕ) (kind : PathKind) (goal : I) (goals : List Goal) (starts : ℕ) (met : Bool)
      → CallIsEnclosed G X cx call → HasAsked G X cx call ahead (Evaluate kind goal) goals starts met
      → Contains call.goals goal
  enclosed_asks ahead kind goal goals starts met enclosed h =
      asked_among (seen G X cx) (Stood G X cx) (G.script cx) (limits G X cx call) (IsCounted G X cx call) call.top
      (bound G X cx call) ahead kind goal goals starts met h.asked enclosed

  -- so as long as the call meets none, no overflow result was stored of it before
  pub asks_known : (ahead : ℕ) (kind : PathKind) (goal : I) (goals : List Goal) (starts : ℕ) (met : Bool)
      → CallMeetsNone G X cx call met
      → HasAsked G X cx call ahead (Evaluate kind goal) goals starts met → HadNoOverflow call goal
  asks_known ahead kind goal goals starts met meets h = elim meets [
    | inl c ↦ elim c.0.2 [
      | inl none ↦ inl none
      | inr enclosed ↦ inr (enclosed_asks ahead kind goal goals starts met enclosed h)
    ]
    | inr enclosed ↦ inr (enclosed_asks ahead kind goal goals starts met enclosed h)
  ]

  -- a call that meets none though a limit was met is enclosed, so it met none before
  pub met_none_before : (met : Bool) → CallMeetsNone G X cx call true → CallMeetsNone G X cx call met
  met_none_before met meets = elim meets [ inl c ↦ absurd (true≢false c.1) | inr enclosed ↦ inr enclosed ]

  -- a goal that is asked and isn't under evaluation is not among the goals
  pub not_among : (eq : I → I → Bool) → ((x : I) → eq x x ≡ true) → (goal : I) (goals : List Goal)
      → list_any (λ s. eq goal s.0.input) goals ≡ false → IsAmong (seen G X cx) goal goals → ⊥
  not_among eq own goal [] absent among = among
  not_among eq own goal (s ∷ below) absent among = elim among [
    | inl same ↦
        let here : eq goal s.0.input ≡ true = ap (eq goal) same ∙ own goal in
        let clash : true ≡ false = sym (ap (λ b. b || list_any (λ t. eq goal t.0.input) below) here) ∙ absent in
        absurd cc
    | inr lower ↦
        not_among eq own goal below (or_none (eq goal s.0.input) (list_any (λ t. eq goal t.0.input) below) absent) lower
  ]

  -- the asked goal was pushed
  pub pushed_goes_on : {before after : List (CacheNode I R)} → (ahead : ℕ) (kind : PathKind) (goal : I)
      (depth : AvailableDepth) (s : Goal) (below new : List Goal) (starts now : ℕ) (met : Bool)
      → IsAllowed (seen G X cx s) depth.0 → (IsAmong (seen G X cx) goal (s ∷ below) → ⊥) → now ≤ starts + 1
      → (G.counts ≡ true → CountsOne G.last starts now) → Pushes G X cx goal kind depth before after (s ∷ below) new
      → HasAsked G X cx call ahead (Evaluate kind goal) (s ∷ below) starts met
      → CallGoesOn G X cx call ahead Begin new now met
  pushed_goes_on ahead kind goal depth s below new starts now met may absent one counted push h =
      let w = pushed_waits (seen G X cx) (Stood G X cx) (G.script cx) (limits G X cx call) (IsCounted G X cx call)
      call.top (bound G X cx call) (some_runs G.FIXPOINT_STEP_LIMIT) ahead starts met s below kind goal depth.0 now (
        first_entry goal kind depth push.own,
        first_run G X cx push.frame push.own push.becomes,
      ) may absent push.fresh.within refl (push.fresh.stood, records_new (verdicts X) (G.script cx goal))
      (record { at_most = one; exactly = λ c. counted c.0 }) h.asked in
      subst (λ v. CallGoesOn G X cx call ahead Begin v now met) (sym push.is)
      (record {
        waiting = record {
          waits = w.0;
          keeps = h.keeps;
          decided = λ decisive unmet. (
            pushed_decided (verdicts X) (
              first_entry goal kind depth push.own,
              first_run G X cx push.frame push.own push.becomes,
            ) (s ∷ below) (record { replies = tt; provisional = tt })
                (asked_kind ahead kind goal (s ∷ below) starts met h decisive.0) (h.decided decisive unmet),
            tt,
          );
        };
        falls = w.1;
      })

  -- the newest goal is run again, which is in a cycle and hasn't had its most runs
  again_seen : (item : Goal) (r : R) (target : Option NodeId) (frame : F) (own : NodeId)
      → is_in_cycle item.0.state ≡ true
      → seen G X cx (rerun_with r target frame own (with_no_record item)) ≡ run_again (seen G X cx item) (G.left frame)
  again_seen item r target frame own cycle =
      let next : item.1.finished_runs + 1 ≡ suc item.1.finished_runs = omega arith in
      ap₂ (λ b n. record (seen G X cx item) {
        left = G.left frame;
        finished_runs = n;
        met_overflow = false;
        met_before = item.1.met_overflow_before || item.0.state.encountered_overflow;
        in_cycle = b;
      }) (sym cycle) next

  pub rerun_goes_on : (ahead : ℕ) (done : R) (old new : List Goal) (starts now : ℕ) (met : Bool)
      → ((s : Goal) (below : List Goal) → old ≡ s ∷ below
      → (is_in_cycle s.0.state ≡ true) × (s.1.finished_runs + 1 < runs G X cx))
      → now ≤ starts + 1 → (G.counts ≡ true → CountsOne G.last starts now) → Reruns G X cx done old new
      → HasAsked G X cx call ahead (Done done) old starts met → CallGoesOn G X cx call ahead Begin new now met
  rerun_goes_on ahead done old new starts now met may one counted again h =
      let was : HasAsked G X cx call ahead (Done done) (again.item ∷ again.below) starts met =
      subst (λ v. HasAsked G X cx call ahead (Done done) v starts met) again.was h in
      let can = may again.item again.below again.was in
      let w = rerun_waits (seen G X cx) (Stood G X cx) (G.script cx) (limits G X cx call) (IsCounted G X cx call)
      call.top (bound G X cx call) (some_runs G.FIXPOINT_STEP_LIMIT) ahead starts met again.item again.below done now
      (rerun_with done again.target again.frame again.own (with_no_record again.item))
      can.1 again.fresh.within (again_seen again.item done again.target again.frame again.own can.0)
      (again.fresh.stood, records_new (verdicts X) (G.script cx again.item.0.input))
      (record { at_most = one; exactly = λ c. counted c.0 }) was.asked in
      subst (λ v. CallGoesOn G X cx call ahead Begin v now met) (sym again.is)
      (record {
        waiting = record {
          waits = w.0;
          keeps = h.keeps;
          decided = λ decisive unmet. (
            changed_decided (verdicts X) again.item
                (rerun_with done again.target again.frame again.own (with_no_record again.item)) again.below refl
                (λ here. record {
                  replies = tt;
                  provisional = done_definite ahead done old starts met h decisive unmet;
                }) (was.decided decisive unmet),
            tt,
          );
        };
        falls = w.1;
      })

  -- its further run failed to start
  pub failed_rerun_stopped : (ahead : ℕ) (done : R) (goals : List Goal) (starts now : ℕ) (met : Bool)
      → ((s : Goal) (below : List Goal) → goals ≡ s ∷ below → s.1.finished_runs + 1 < runs G X cx) → starts ≤ now
      → now ≤ starts + 1 → HasAsked G X cx call ahead (Done done) goals starts met
      → HasStopped G X cx call Memory now met
  failed_rerun_stopped ahead done [] starts now met may more one h = absurd h.asked.mirror
  failed_rerun_stopped ahead done (s ∷ below) starts now met may more one h = record {
    stops = failed_rerun_stops (seen G X cx) (Stood G X cx) (G.script cx) (limits G X cx call) (IsCounted G X cx call)
        call.top (bound G X cx call) ahead (Done done) now s below starts met (may s below refl) more one h.asked;
    keeps = h.keeps;
    plain = λ n p room. refl;
    decided = λ decisive unmet. tt;
  }

  -- a limit was met by a goal in a cycle
  limit_kept : (ahead : ℕ) (request : Request I R) (s : Goal) (below : List Goal) (starts : ℕ) (met : Bool)
      → is_in_cycle s.0.state ≡ true → HasAsked G X cx call ahead request (s ∷ below) starts met
      → KeepsLimits G X cx call true
  limit_kept ahead request s below starts met cycle h = record {
    stays = λ was. refl;
    plain = λ n p fits.
        let calm : is_in_cycle s.0.state ≡ false =
        (requested_fits (seen G X cx) (Stood G X cx) (G.script cx) (limits G X cx call) (IsCounted G X cx call) call.top
        (bound G X cx call) ahead request s below starts met n p fits h.asked).2 in
        let clash : true ≡ false = sym cycle ∙ calm in
        absurd cc;
  }

  -- and the goal could not be popped
  pub limited_stopped : (ahead : ℕ) (done : R) (goals : List Goal) (fault : Fault I R) (starts : ℕ) (met : Bool)
      → ((s : Goal) (below : List Goal) → goals ≡ s ∷ below
      → (is_in_cycle s.0.state ≡ true) × (runs G X cx ≤ s.1.finished_runs + 1))
      → HasAsked G X cx call ahead (Done done) goals starts met → HasStopped G X cx call fault starts true
  limited_stopped ahead done [] fault starts met may h = absurd h.asked.mirror
  limited_stopped ahead done (s ∷ below) fault starts met may h =
      let can = may s below refl in
      record {
        stops = last_run_stops (seen G X cx) (Stood G X cx) (G.script cx) (limits G X cx call) (IsCounted G X cx call)
            call.top (bound G X cx call) ahead (Done done) s below starts met can.1 h.asked;
        keeps = limit_kept ahead (Done done) s below starts met can.0 h;
        plain = λ n p fits.
            let calm : is_in_cycle s.0.state ≡ false =
            (requested_fits (seen G X cx) (Stood G X cx) (G.script cx) (limits G X cx call) (IsCounted G X cx call)
            call.top (bound G X cx call) ahead (Done done) s below starts met n p fits h.asked).2 in
            let clash : true ≡ false = sym can.0 ∙ calm in
            absurd cc;
        decided = λ decisive unmet. absurd cc;
      }

  -- its start failed
  pub failed_push_stopped : (ahead : ℕ) (kind : PathKind) (goal : I) (depth : ℕ) (s : Goal) (below : List Goal)
      (starts now : ℕ) (met : Bool) → IsAllowed (seen G X cx s) depth → starts ≤ now → now ≤ starts + 1
      → HasAsked G X cx call ahead (Evaluate kind goal) (s ∷ below) starts met → HasStopped G X cx call Memory now met
  failed_push_stopped ahead kind goal depth s below starts now met may more one h = record {
    stops = failed_push_stops (seen G X cx) (Stood G X cx) (G.script cx) (limits G X cx call) (IsCounted G X cx call)
        call.top (bound G X cx call) (some_runs G.FIXPOINT_STEP_LIMIT) ahead kind goal depth now s
        below starts met may more one h.asked;
    keeps = h.keeps;
    plain = λ n p room. refl;
    decided = λ decisive unmet. tt;
  }

  -- the goal could not be popped, or there was no memory for an answer
  pub asked_stopped_by : (ahead : ℕ) (request : Request I R) (goals : List Goal) (fault : Fault I R) (starts : ℕ)
      (met : Bool) → ((n : ℕ) → IsPlainTo (G.script cx) n call.top → n ≤ call.root → fault ≡ Memory)
      → Decidedly G X cx call met (IfDiffers fault (IsDefinite (verdicts X)))
      → HasAsked G X cx call ahead request goals starts met → HasStopped G X cx call fault starts met
  asked_stopped_by ahead request goals fault starts met plain decided h = record {
    stops = requested_stops (seen G X cx) (Stood G X cx) (G.script cx) (limits G X cx call) (IsCounted G X cx call)
        call.top (bound G X cx call) ahead request goals starts met h.asked;
    keeps = h.keeps;
    plain = plain;
    decided = decided;
  }

  pub asked_stopped : (ahead : ℕ) (request : Request I R) (goals : List Goal) (starts : ℕ) (met : Bool)
      → HasAsked G X cx call ahead request goals starts met → HasStopped G X cx call Memory starts met
  asked_stopped ahead request goals starts met h =
      asked_stopped_by ahead request goals Memory starts met (λ n p room. refl) (λ decisive unmet. tt) h

  -- the depths on the stack fall from the root's on, and no goal requires more than it has
  falling : (f : Frame I R) (below : List (Frame I R)) → IsRooted call.top call.root (f ∷ below)
      → AreSafe (G.script cx) (f ∷ below) → f.available ≤ call.root
  falling f [] rooted safe = omega (arith, rooted.1)
  falling f (g ∷ below) rooted safe = omega (arith, safe.1.1.is_less, falling g below rooted safe.2)

  -- a goal that asks has no greater depth than the root
  pub asker_fits : (ahead : ℕ) (request : Request I R) (s : Goal) (below : List Goal) (starts : ℕ) (met : Bool)
      → HasAsked G X cx call ahead request (s ∷ below) starts met → s.0.available_depth.0 ≤ call.root
  asker_fits ahead request s below starts met h =
      let same : h.asked.f.available ≡ s.0.available_depth.0 = ap (λ g. g.available) h.asked.mirror.0.is in
      omega (arith, same, falling h.asked.f h.asked.below h.asked.evaluating.rooted h.asked.evaluating.safe)

  -- and requires no more
  pub asker_requires : (ahead : ℕ) (request : Request I R) (s : Goal) (below : List Goal) (starts : ℕ) (met : Bool)
      → HasAsked G X cx call ahead request (s ∷ below) starts met → s.0.state.required_depth ≤ call.root
  asker_requires ahead request s below starts met h =
      let same : h.asked.f.required ≡ s.0.state.required_depth = ap (λ g. g.required) h.asked.mirror.0.is in
      omega (
        arith,
        same,
        h.asked.evaluating.safe.0.within,
        falling h.asked.f h.asked.below h.asked.evaluating.rooted h.asked.evaluating.safe,
      )

  leave_fits : (s p : Goal) (below : List Goal) (f : Frame I R) (frames : List (Frame I R)) (left : ℕ)
      → f.required ≡ s.0.state.required_depth → AreSeen (seen G X cx) (Stood G X cx) (p ∷ below) frames
      → IsRooted call.top call.root (f ∷ frames) → AreSafe (G.script cx) (f ∷ frames)
      → s.0.state.required_depth + 1 < 2 ^ 64
  leave_fits s p below f [] left same m rooted safe = absurd m
  leave_fits s p below f (q ∷ rest) left same m rooted safe =
      omega (arith, same, safe.0.within, safe.1.1.is_less, falling q rest rooted safe.2, call.fits)

  -- the newest goal may be popped
  pub can_leave : (ahead : ℕ) (r : R) (goals : List Goal) (starts : ℕ) (met : Bool)
      → HasAsked G X cx call ahead (Done r) goals starts met → CanLeave goals
  can_leave ahead r [] starts met h = absurd h.asked.mirror
  can_leave ahead r (s ∷ []) starts met h = tt
  can_leave ahead r (s ∷ p ∷ below) starts met h =
      leave_fits s p below h.asked.f h.asked.below h.asked.left (ap (λ g. g.required) h.asked.mirror.0.is)
      h.asked.mirror.1 h.asked.evaluating.rooted h.asked.evaluating.safe

  -- the only goal is that of the call
  only_top : (s : Goal) (f : Frame I R) (below : List (Frame I R)) → f.goal ≡ s.0.input
      → AreSeen (seen G X cx) (Stood G X cx) [] below → IsRooted call.top call.root (f ∷ below) → s.0.input ≡ call.top
  only_top s f [] same m rooted = sym same ∙ rooted.0
  only_top s f (q ∷ rest) same m rooted = absurd m

  -- and requires no more than its depth
  pub only_fits : (ahead : ℕ) (request : Request I R) (s : Goal) (starts : ℕ) (met : Bool)
      → HasAsked G X cx call ahead request (s ∷ []) starts met
      → (s.0.input ≡ call.top) × (s.0.state.required_depth ≤ call.root)
  only_fits ahead request s starts met h = (
    only_top s h.asked.f h.asked.below (ap (λ g. g.goal) h.asked.mirror.0.is)
        h.asked.mirror.1 h.asked.evaluating.rooted,
    asker_requires ahead request s [] starts met h,
  )

  -- and what comes then
  module _ (ahead : ℕ) (done r : R) (next : Next R) where
    popped_leads : (s p : Goal) (below new : List Goal) (starts : ℕ) (met after : Bool) (target : Option NodeId)
        → next ≡ Step (record { reply = Answer r; node = target }) → KeepsLimits G X cx call after
        → Decidedly G X cx call after (AllDecided (verdicts X) (p ∷ below) × IsDefinite (verdicts X) r)
        → (t : AnswersNewest s.0.step_kind_from_parent s.0.state.required_depth
        (s.0.state.encountered_overflow || s.1.met_overflow_before) s.0.state.heads (p ∷ below) new)
        → ((later : Goal) → TakesReply (seen G X cx) (Stood G X cx) (G.script cx)
        (λ g. answered g (outcome_of G X cx r s)) (Answer r) (t.entry, t.run) later
        → WaitsWithLess (seen G X cx) (Stood G X cx) (G.script cx) (limits G X cx call) (IsCounted G X cx call) call.top
        (bound G X cx call) ahead (Answer r) (later ∷ t.below) starts after)
        → Leads G X cx call ahead (s ∷ p ∷ below) next new starts after
    popped_leads s p below new starts met after target is keeps decided t waits =
        let w = waits (record t.entry { state = t.state }, t.run) (takes_answer r s.0.step_kind_from_parent
        s.0.state.required_depth (s.0.state.encountered_overflow || s.1.met_overflow_before) s.0.state.heads t.entry
        t.run (record { 0 = length t.below }) t.state t.takes) in
        subst (λ n. Leads G X cx call ahead (s ∷ p ∷ below) n new starts after) (sym is)
        (subst (λ v. CallGoesOn G X cx call ahead (Answer r) v starts after) (sym t.is) (record {
          waiting = record {
            waits = w.0;
            keeps = keeps;
            decided = λ decisive unmet.
                let d = decided decisive unmet in (
                  subst (AllDecided (verdicts X)) t.is (answered_decided s.0.step_kind_from_parent
                      s.0.state.required_depth (s.0.state.encountered_overflow || s.1.met_overflow_before)
                      s.0.state.heads (p ∷ below) new t d.0),
                  d.1,
                );
          };
          falls = w.1;
        }))

    ended_leads : (s : Goal) (new : List Goal) (starts : ℕ) (met after : Bool) (target : Option NodeId)
        → next ≡ Finished (record { result = r; node = target }) → new ≡ [] → KeepsLimits G X cx call after
        → Decidedly G X cx call after (IsDefinite (verdicts X) r)
        → HasAsked G X cx call ahead (Done done) (s ∷ []) starts met → Ends (G.script cx) (limits G X cx call)
        (IsCounted G X cx call) call.top (bound G X cx call) starts after (outcome_of G X cx r s)
        → Leads G X cx call ahead (s ∷ []) next new starts after
    ended_leads s new starts met after target is none keeps decided h ends =
        subst (λ n. Leads G X cx call ahead (s ∷ []) n new starts after) (sym is) (
          none,
          only_top s h.asked.f h.asked.below (ap (λ g. g.goal) h.asked.mirror.0.is)
              h.asked.mirror.1 h.asked.evaluating.rooted,
          record { outcome = outcome_of G X cx r s; result_is = refl; ends = ends; keeps = keeps; decided = decided },
        )

    -- where the run's result stands,
    pub leave_leads : (old new : List Goal) (starts : ℕ) (met : Bool) → r ≡ done → NewestLeaves r old next new
        → HasAsked G X cx call ahead (Done done) old starts met → Leads G X cx call ahead old next new starts met
    leave_leads [] new starts met same l h = absurd l
    leave_leads (s ∷ []) new starts met same l h =
        ended_leads s new starts met met l.0 l.1 l.2 h.keeps (λ decisive unmet.
        subst (IsDefinite (verdicts X)) (sym same) (done_definite ahead done (s ∷ []) starts met h decisive unmet)) h
        (last_item_ends (seen G X cx) (Stood G X cx) (G.script cx) (limits G X cx call) (IsCounted G X cx call) call.top
        (bound G X cx call) done (outcome_of G X cx r s) ahead starts met s
        (leaving G X cx done r s (inl same)) h.asked)
    leave_leads (s ∷ p ∷ below) new starts met same l h =
        let t = l.2 in
        let was : HasAsked G X cx call ahead (Done done) (s ∷ (t.entry, t.run) ∷ t.below) starts met =
        subst (λ v. HasAsked G X cx call ahead (Done done) (s ∷ v) starts met) t.was h in
        popped_leads s p below new starts met met l.0 l.1 h.keeps (λ decisive unmet. (
          below_decided (verdicts X) s (p ∷ below) (h.decided decisive unmet),
          subst (IsDefinite (verdicts X)) (sym same)
              (done_definite ahead done (s ∷ p ∷ below) starts met h decisive unmet),
        )) t
        (λ later takes.
        popped_waits (seen G X cx) (Stood G X cx) (G.script cx) (limits G X cx call) (IsCounted G X cx call) call.top
        (bound G X cx call) (some_runs G.FIXPOINT_STEP_LIMIT) ahead starts met s t.below done (outcome_of G X cx r s)
        (t.entry, t.run) later (leaving G X cx done r s (inl same)) takes was.asked)

    -- and where the goal had its most runs
    pub limited_leads : (old new : List Goal) (starts : ℕ) (met : Bool) → ((s : Goal) (below : List Goal)
        → old ≡ s ∷ below → (is_in_cycle s.0.state ≡ true) × (runs G X cx ≤ s.1.finished_runs + 1))
        → NewestLeaves r old next new → HasAsked G X cx call ahead (Done done) old starts met
        → Leads G X cx call ahead old next new starts true
    limited_leads [] new starts met may l h = absurd l
    limited_leads (s ∷ []) new starts met may l h =
        let can = may s [] refl in
        ended_leads s new starts met true l.0 l.1 l.2 (limit_kept ahead (Done done) s [] starts met can.0 h)
        (λ decisive unmet. absurd (true≢false unmet)) h
        (last_item_ends_at_limit (seen G X cx) (Stood G X cx) (G.script cx) (limits G X cx call) (IsCounted G X cx call)
        call.top (bound G X cx call) done (outcome_of G X cx r s) ahead starts met s can.1
        (leaving G X cx done r s (inr can.0)) h.asked)
    limited_leads (s ∷ p ∷ below) new starts met may l h =
        let can = may s (p ∷ below) refl in
        let t = l.2 in
        let was : HasAsked G X cx call ahead (Done done) (s ∷ (t.entry, t.run) ∷ t.below) starts met =
        subst (λ v. HasAsked G X cx call ahead (Done done) (s ∷ v) starts met) t.was h in
        popped_leads s p below new starts met true l.0 l.1
        (limit_kept ahead (Done done) s (p ∷ below) starts met can.0 h) (λ decisive unmet. absurd (true≢false unmet)) t
        (λ later takes.
        popped_at_limit_waits (seen G X cx) (Stood G X cx) (G.script cx) (limits G X cx call) (IsCounted G X cx call)
        call.top (bound G X cx call) (some_runs G.FIXPOINT_STEP_LIMIT) ahead starts met s t.below done
        (outcome_of G X cx r s) (t.entry, t.run) later can.1 (leaving G X cx done r s (inr can.0)) takes was.asked)

  -- the run that ended is on record
  pub ends_newest : (ahead : ℕ) (r : R) (goals : List Goal) (starts : ℕ) (met : Bool)
      → HasAsked G X cx call ahead (Done r) goals starts met → EndsNewest (verdicts X) (G.script cx) goals r
  ends_newest ahead r [] starts met h = absurd h.asked.mirror
  ends_newest ahead r (s ∷ below) starts met h =
      let by = requested_by (seen G X cx) (Stood G X cx) (G.script cx) (limits G X cx call) (IsCounted G X cx call)
      call.top (bound G X cx call) ahead (Done r) s below starts met h.asked in
      record { replies = by.0; is_fitting = by.2; is_done = by.3; on_record = by.1.1 }

  kept : (starts : ℕ) → KeepsLimits G X cx call call.limits_met
  kept starts = record { stays = λ was. was; plain = λ n p fits. refl }

  -- the root was pushed on an empty stack
  pub root_waits : (before after : List (CacheNode I R)) (kind : PathKind) (depth : AvailableDepth) (new : List Goal)
      (now : ℕ) → depth.0 ≡ call.root → now ≤ call.starts + 1 → (G.counts ≡ true → CountsOne G.last call.starts now)
      → Pushes G X cx call.top kind depth before after [] new → IsWaiting G X cx call Begin new now call.limits_met
  root_waits before after kind depth new now same one counted push =
      let item : Goal = (first_entry call.top kind depth push.own, first_run G X cx push.frame push.own push.becomes) in
      subst (λ v. IsWaiting G X cx call Begin v now call.limits_met) (sym push.is)
      (record {
        waits = first_waits (seen G X cx) (Stood G X cx) (G.script cx) (limits G X cx call) (IsCounted G X cx call)
            call.top (bound G X cx call) now call.limits_met (
              first_entry call.top kind depth push.own,
              first_run G X cx push.frame push.own push.becomes,
            ) refl (some_runs G.FIXPOINT_STEP_LIMIT) push.fresh.within
            (ap (λ n. record (seen G X cx (
              first_entry call.top kind depth push.own,
              first_run G X cx push.frame push.own push.becomes,
            )) { available = n }) same) (push.fresh.stood, records_new (verdicts X) (G.script cx call.top))
            (record { at_most = one; exactly = λ c. counted c.0 }) (λ c. c.1);
        keeps = kept now;
        decided = λ decisive unmet. (record { replies = tt; provisional = tt }, tt);
      })

  -- its start failed
  pub failed_root_stopped : (now : ℕ) → call.starts ≤ now → now ≤ call.starts + 1
      → HasStopped G X cx call Memory now call.limits_met
  failed_root_stopped now more one = record {
    stops = record {
      within = let some = some_frames (runs G X cx) (G.width cx) call.root (some_runs G.FIXPOINT_STEP_LIMIT) in
          omega (arith, some, one);
      paid = λ c met. let unmet : call.limits_met ≡ false = c.1 in absurd cc;
      by_runs = λ c e met. let unmet : call.limits_met ≡ false = c.1 in absurd cc;
    };
    keeps = kept now;
    plain = λ n p room. refl;
    decided = λ decisive unmet. tt;
  }
