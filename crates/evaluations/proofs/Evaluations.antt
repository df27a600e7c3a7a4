-- An evaluation as a whole goes on by every move.
use Rattle.std.proofs.Common.{◌≡◌, ◌≢◌, ℕ, ◌+◌, ◌<◌, ◌≤◌, min, Bool, true, false, inl, inr, List, [], ◌∷◌, Contains}
use Rattle.std.proofs.Common.{None, refl, sym, ◌∙◌, subst, arith, max, ◌||◌}
use Rattle.evaluations.specs.Below.{Request, Reply, Begin, frames_within, IsPlainTo, fault_after, Answer}
use Rattle.evaluations.specs.Words.{Frame, Outcome, fresh, stepped, replied, answered, run_again, Asks, IsAllowed}
use Rattle.evaluations.specs.Words.{IsSafeOutcome, LeavesOutcome, Spends, IsPrice, IsPriced, HaveFullDepths}
use Rattle.evaluations.specs.Words.{StayEnclosed, State, at, Limits, MeetsNone, IsStarted, Move, Pushed, Answered}
use Rattle.evaluations.specs.Words.{Refused, RunAgain, Popped, PoppedAtLimit, IsRooted, IsEvaluating, GoesOn, Ends}
use Rattle.evaluations.specs.Words.{Stops, AreSafe}
use Rattle.evaluations.specs.Evaluation.{EvaluationIsEnclosed, Noted}
use Rattle.evaluations.proofs.Plains.{push_keeps_safe, step_keeps_safe, reply_keeps_safe, answer_keeps_safe}
use Rattle.evaluations.proofs.Plains.{refusal_keeps_safe, rerun_keeps_safe, pop_keeps_safe, left_is_safe}
use Rattle.evaluations.proofs.Plains.{fitting_is_plain, push_keeps_room, room_is_enough}
use Rattle.evaluations.proofs.Counts.{step_spends, question_spends, rerun_spends, pop_spends, first_stays_within}
use Rattle.evaluations.proofs.Counts.{move_stays_within, starts_are_within}
use Rattle.evaluations.proofs.Enclosed.{answered_stays, asked_within, first_stays, left_calm, popped_stays}
use Rattle.evaluations.proofs.Enclosed.{pushed_stays, replied_stays, rerun_stays, some_depth, stepped_stays}
use Rattle.evaluations.proofs.Prices.{first_is_priced, push_keeps_priced, step_keeps_priced, reply_keeps_priced}
use Rattle.evaluations.proofs.Prices.{answer_keeps_priced, rerun_keeps_priced, pop_keeps_priced, later_keeps_priced}
use Rattle.evaluations.proofs.Prices.{refusal_is_paid, last_run_is_paid}

module _ {I R : Type 0} (scripts : I → List (Reply R) → Request I R) (limits : Limits I)
    (is_counted : Type 0) (top : I) where
  rooted_with : (f g : Frame I R) (below : List (Frame I R)) → g.goal ≡ f.goal → g.available ≡ f.available
      → IsRooted top limits.root (f ∷ below) → IsRooted top limits.root (g ∷ below)
  rooted_with f g [] same deep h = (same ∙ h.0, deep ∙ h.1)
  rooted_with f g (e ∷ below) same deep h = h

  pub root_is_evaluating : (first now : ℕ) (met : Bool) → 1 ≤ limits.runs → first ≤ limits.width
      → IsStarted limits.last is_counted limits.before now → (is_counted → met ≡ false)
      → IsEvaluating scripts limits is_counted top (limits.before + frames_within limits.runs limits.width limits.root)
      (at (replied (fresh top limits.root first) Begin ∷ []) now met)
  root_is_evaluating first now met some fits started unmet = record {
    rooted = (refl, refl);
    safe = reply_keeps_safe scripts (fresh top limits.root first) [] Begin tt
        (push_keeps_safe scripts [] top limits.root first tt tt);
    room = λ n p enough. ((n, p, enough), tt);
    within = first_stays_within I R limits.runs limits.width limits.before now top
        limits.root first some fits started.at_most;
    enclosed = λ e. replied_stays scripts limits.goals limits.root (fresh top limits.root first) [] Begin
        (first_stays scripts limits.goals limits.root top first e.within);
    priced = λ price fair c. subst (λ m. IsPriced {I = I} {R = R} price limits.root limits.last limits.before now m
        (replied (fresh top limits.root first) Begin ∷ [])) (sym (unmet c))
        (reply_keeps_priced I R price limits.root limits.last limits.before now false (fresh top limits.root first) []
        Begin (first_is_priced I R price limits.root limits.last limits.before now top first (started.exactly c)));
  }

  -- the two prices
  pub lower_price : IsPrice limits.runs limits.root
      (EvaluationIsEnclosed scripts limits is_counted top) (min limits.runs (limits.root + 1))
  lower_price = record { of_runs = omega arith; of_depth = inl (omega arith) }

  pub price_of_runs : EvaluationIsEnclosed scripts limits is_counted top
      → IsPrice limits.runs limits.root (EvaluationIsEnclosed scripts limits is_counted top) limits.runs
  price_of_runs e = record { of_runs = omega arith; of_depth = inr e }

  -- so long no frame met overflow
  pub depths_met_none : (bound starts : ℕ) (met : Bool) (frames : List (Frame I R))
      → MeetsNone scripts limits is_counted top met
      → IsEvaluating scripts limits is_counted top bound (at frames starts met) → HaveFullDepths limits.root frames
  depths_met_none bound starts met frames meets h = elim meets [
    | inl c ↦ ((h.priced 0 (record { of_runs = omega arith; of_depth = inl (omega arith) }) c.0).not_yet c.1).depths
    | inr e ↦ (h.enclosed e).depths
  ]

  popped_priced : (price starts : ℕ) (met : Bool) (child f : Frame I R) (below : List (Frame I R)) (o : Outcome R)
      → LeavesOutcome scripts child o
      → IsPriced price limits.root limits.last limits.before starts met (child ∷ f ∷ below)
      → IsPriced price limits.root limits.last limits.before starts met (answered f o ∷ below)
  popped_priced price starts met child f below o leaves h =
      let w = pop_keeps_priced I R price limits.root limits.last limits.before starts met child (f ∷ below) h in
      answer_keeps_priced I R price limits.root limits.last limits.before starts met f below o
      (λ e. leaves.met_overflow ∙ w.1 e) w.0

  popped_enclosed : (child f : Frame I R) (below : List (Frame I R)) (o : Outcome R) → LeavesOutcome scripts child o
      → StayEnclosed scripts limits.goals limits.root (child ∷ f ∷ below)
      → StayEnclosed scripts limits.goals limits.root (answered f o ∷ below)
  popped_enclosed child f below o leaves h =
      answered_stays scripts limits.goals limits.root f below o
      (leaves.met_overflow ∙ left_calm I R limits.root child (f ∷ below) h.depths)
      (popped_stays scripts limits.goals limits.root child (f ∷ below) h)

  module _ (bound : ℕ) (some : 1 ≤ limits.runs) where
    -- each price is kept
    abbrev KeepsPrices : (before now : ℕ) (met after : Bool) (old new : List (Frame I R)) → Type 0
    KeepsPrices before now met after old new =
        (price : ℕ) → IsPrice limits.runs limits.root (EvaluationIsEnclosed scripts limits is_counted top) price
        → is_counted → IsPriced price limits.root limits.last limits.before before met old
        → IsPriced price limits.root limits.last limits.before now after new

    -- the frame after its step, with other replies and what they changed
    abbrev changed : Frame I R → ℕ → List (Reply R) → ℕ → Bool → Bool → Frame I R
    changed f left replies required overflow cycle =
        record f { left = left; replies = replies; required = required; met_overflow = overflow; in_cycle = cycle }

    replying : (f : Frame I R) (below : List (Frame I R)) (left starts : ℕ) (met after : Bool)
        (replies : List (Reply R)) (required : ℕ) (overflow cycle : Bool)
        → left < f.left → AreSafe scripts (changed f left replies required overflow cycle ∷ below)
        → (EvaluationIsEnclosed scripts limits is_counted top
        → StayEnclosed scripts limits.goals limits.root (stepped f left ∷ below)
        → StayEnclosed scripts limits.goals limits.root (changed f left replies required overflow cycle ∷ below))
        → KeepsPrices starts starts met after (stepped f left ∷ below)
        (changed f left replies required overflow cycle ∷ below)
        → IsEvaluating scripts limits is_counted top bound (at (f ∷ below) starts met)
        → GoesOn scripts limits is_counted top bound (at (f ∷ below) starts met)
        (at (changed f left replies required overflow cycle ∷ below) starts after)
    replying f below left starts met after replies required overflow cycle less safe enclosed priced h =
        let spent = step_spends I R limits.runs limits.width f below left less in
        record {
          evaluating = record {
            rooted = rooted_with f (changed f left replies required overflow cycle) below refl refl h.rooted;
            safe = safe;
            room = h.room;
            within = move_stays_within I R limits.runs limits.width bound starts starts 0 (f ∷ below)
                (stepped f left ∷ below) spent (omega arith) h.within;
            enclosed = λ e. enclosed e (stepped_stays scripts limits.goals limits.root f below left (h.enclosed e));
            priced = λ price fair c. priced price fair c (step_keeps_priced I R price limits.root limits.last
                limits.before starts met f below left (h.priced price fair c));
          };
          falls = spent.steps;
        }

    popping : (child f : Frame I R) (below : List (Frame I R)) (left starts : ℕ) (met after : Bool) (o : Outcome R)
        → left < child.left → LeavesOutcome scripts child o
        → KeepsPrices starts starts met after (child ∷ f ∷ below) (child ∷ f ∷ below)
        → IsEvaluating scripts limits is_counted top bound (at (child ∷ f ∷ below) starts met)
        → GoesOn scripts limits is_counted top bound (at (child ∷ f ∷ below) starts met)
        (at (answered f o ∷ below) starts after)
    popping child f below left starts met after o less leaves priced h =
        let spent = pop_spends I R limits.runs limits.width child (f ∷ below) left less in
        record {
          evaluating = record {
            rooted = rooted_with f (answered f o) below refl refl h.rooted;
            safe = pop_keeps_safe scripts child f below o leaves h.safe;
            room = λ n p enough. (h.room n p enough).1;
            within = move_stays_within I R limits.runs limits.width bound starts starts 0 (child ∷ f ∷ below)
                (f ∷ below) spent (omega arith) h.within;
            enclosed = λ e. popped_enclosed child f below o leaves (h.enclosed e);
            priced = λ price fair c.
                popped_priced price starts after child f below o leaves (priced price fair c (h.priced price fair c));
          };
          falls = spent.steps;
        }

    pub move_goes_on : (old new : State I R) → Move scripts limits is_counted top old new
        → IsEvaluating scripts limits is_counted top bound old → GoesOn scripts limits is_counted top bound old new
    move_goes_on old new (Pushed {f = f} {below = below} {goal = goal} {depth = depth} {left = left} {first = first}
        {starts = starts} {now = now} {met = met} less asks allowed absent fits started) h =
        let spent =
        question_spends I R limits.runs limits.width f below goal depth left first some allowed.is_less less fits in
        let kept = step_keeps_safe scripts f below left h.safe in
        let again : IsAllowed (stepped f left) depth =
        record { is_less = allowed.is_less; is_next = allowed.is_next } in
        record {
          evaluating = record {
            rooted = rooted_with f (stepped f left) below refl refl h.rooted;
            safe = reply_keeps_safe scripts (fresh goal depth first) (stepped f left ∷ below) Begin tt
                (push_keeps_safe scripts (stepped f left ∷ below) goal depth first (asks, again) kept);
            room = λ n p enough.
                push_keeps_room scripts (stepped f left) below goal depth first asks again kept (h.room n p enough);
            within = move_stays_within I R limits.runs limits.width bound starts now 1 (f ∷ below)
                (fresh goal depth first ∷ stepped f left ∷ below) spent started.at_most h.within;
            enclosed = λ e.
                let stay = h.enclosed e in
                replied_stays scripts limits.goals limits.root (fresh goal depth first) (stepped f left ∷ below) Begin
                (pushed_stays scripts limits.goals limits.root (stepped f left) below goal depth first again
                (asked_within scripts limits.goals limits.root top f below goal e stay h.safe.0.fitting asks) absent
                (stepped_stays scripts limits.goals limits.root f below left stay));
            priced = λ price fair c. reply_keeps_priced I R price limits.root limits.last limits.before now met
                (fresh goal depth first) (stepped f left ∷ below) Begin
                (push_keeps_priced I R price limits.root limits.last limits.before starts now met (stepped f left) below
                goal depth first again (started.exactly c)
                (step_keeps_priced I R price limits.root limits.last limits.before starts met f
                below left (h.priced price fair c)));
          };
          falls = spent.steps;
        }
    move_goes_on old new
        (Noted {f = f} {below = below} {left = left} {starts = starts} {met = met} {reply = reply} less fits) h =
        replying f below left starts met met (reply ∷ f.replies) f.required f.met_overflow f.in_cycle less
        (reply_keeps_safe scripts (stepped f left) below reply fits (step_keeps_safe scripts f below left h.safe))
        (λ _. replied_stays scripts limits.goals limits.root (stepped f left) below reply)
        (λ price _ _. reply_keeps_priced I R price limits.root limits.last limits.before
        starts met (stepped f left) below reply) h
    move_goes_on old new (Answered {f = f} {below = below} {goal = goal} {depth = depth} {left = left} {starts = starts}
        {met = met} {o = o} less asks allowed outcome calm) h =
        replying f below left starts met met (Answer o.result ∷ f.replies) (max f.required (o.required + 1))
        (f.met_overflow || o.met_overflow) (f.in_cycle || o.in_cycle) less
        (answer_keeps_safe scripts (stepped f left) below goal depth o asks
        (record { is_less = allowed.is_less; is_next = allowed.is_next }) outcome
        (step_keeps_safe scripts f below left h.safe))
        (λ e. answered_stays scripts limits.goals limits.root (stepped f left) below o (calm (inr e)))
        (λ price _ c. answer_keeps_priced I R price limits.root limits.last limits.before starts met (stepped f left)
        below o (λ unmet. calm (inl (c, unmet)))) h
    move_goes_on old new (Refused {f = f} {below = below} {goal = goal} {left = left} {starts = starts}
        {met = met} {r = r} less asks none) h =
        let never : EvaluationIsEnclosed scripts limits is_counted top → ⊥ =
        λ e. some_depth scripts limits.goals limits.root f below e.fits (h.enclosed e) none in
        replying f below left starts met true (Answer r ∷ f.replies) f.required true f.in_cycle less
        (refusal_keeps_safe scripts (stepped f left) below goal r asks none
        (step_keeps_safe scripts f below left h.safe))
        (λ e _. absurd (never e))
        (λ price fair _ p. elim fair.of_depth [
          | inl low ↦ refusal_is_paid I R price limits.root limits.last limits.before starts
              met (stepped f left) below r low none p
          | inr e ↦ absurd (never e)
        ]) h
    move_goes_on old new (RunAgain {f = f} {below = below} {left = left} {first = first} {starts = starts} {now = now}
        {met = met} less again fits started) h =
        let spent = rerun_spends I R limits.runs limits.width f below left first again less fits in
        record {
          evaluating = record {
            rooted = rooted_with f (replied (run_again (stepped f left) first) Begin) below refl refl h.rooted;
            safe = reply_keeps_safe scripts (run_again (stepped f left) first) below Begin tt
                (rerun_keeps_safe scripts (stepped f left) below first (step_keeps_safe scripts f below left h.safe));
            room = h.room;
            within = move_stays_within I R limits.runs limits.width bound starts now 1 (f ∷ below)
                (run_again (stepped f left) first ∷ below) spent started.at_most h.within;
            enclosed =
                λ e. replied_stays scripts limits.goals limits.root (run_again (stepped f left) first) below Begin
                (rerun_stays scripts limits.goals limits.root (stepped f left) below first
                (stepped_stays scripts limits.goals limits.root f below left (h.enclosed e)));
            priced = λ price fair c. reply_keeps_priced I R price limits.root limits.last limits.before now met
                (run_again (stepped f left) first) below Begin
                (rerun_keeps_priced I R price limits.root limits.last limits.before starts now met
                (stepped f left) below first (started.exactly c)
                (step_keeps_priced I R price limits.root limits.last limits.before starts met f
                below left (h.priced price fair c)));
          };
          falls = spent.steps;
        }
    move_goes_on old new (Popped {child = child} {f = f} {below = below} {left = left} {starts = starts}
        {met = met} {o = o} less leaves) h =
        popping child f below left starts met met o less leaves (λ _ _ _ priced. priced) h
    move_goes_on old new (PoppedAtLimit {child = child} {f = f} {below = below} {left = left} {starts = starts}
        {met = met} {o = o} less leaves last_run) h =
        popping child f below left starts met true o less leaves (λ price fair _. last_run_is_paid I R price limits.root
        limits.last limits.before starts met child (f ∷ below) (omega (arith, fair.of_runs, last_run))) h

  pub last_frame_ends : (bound starts : ℕ) (met : Bool) (f : Frame I R) (o : Outcome R) → LeavesOutcome scripts f o
      → IsEvaluating scripts limits is_counted top bound (at (f ∷ []) starts met)
      → Ends scripts limits is_counted top bound starts met o
  last_frame_ends bound starts met f o leaves h =
      let safe = subst (λ d. IsSafeOutcome scripts top d o) h.rooted.1
      (subst (λ g. IsSafeOutcome scripts g f.available o) h.rooted.0 (left_is_safe scripts f o leaves h.safe.0)) in
      record {
        safe = safe;
        plain = λ n p fits. fitting_is_plain scripts top limits.root n o p fits safe;
        within = starts_are_within I R limits.runs limits.width bound starts (f ∷ []) h.within;
        paid = λ c e. (h.priced (min limits.runs (limits.root + 1)) lower_price c).paid e;
        by_runs = λ c e met_one. (h.priced limits.runs (price_of_runs e) c).paid met_one;
      }

  pub last_run_ends : (bound starts : ℕ) (met : Bool) (f : Frame I R) (o : Outcome R)
      → limits.runs ≤ f.finished_runs + 1 → LeavesOutcome scripts f o
      → IsEvaluating scripts limits is_counted top bound (at (f ∷ []) starts met)
      → Ends scripts limits is_counted top bound starts true o
  last_run_ends bound starts met f o last_run leaves h = last_frame_ends bound starts true f o leaves (record {
    rooted = h.rooted;
    safe = h.safe;
    room = h.room;
    within = h.within;
    enclosed = h.enclosed;
    priced = λ price fair c. last_run_is_paid I R price limits.root limits.last limits.before starts met f []
        (omega (arith, fair.of_runs, last_run)) (h.priced price fair c);
  })

  pub evaluation_stops : (bound : ℕ) (s : State I R) → IsEvaluating scripts limits is_counted top bound s
      → Stops scripts limits is_counted top bound s.starts s.limits_met
  evaluation_stops bound s h = record {
    within = starts_are_within I R limits.runs limits.width bound s.starts s.frames h.within;
    paid = λ c e. (h.priced (min limits.runs (limits.root + 1)) lower_price c).paid e;
    by_runs = λ c e met_one. (h.priced limits.runs (price_of_runs e) c).paid met_one;
  }

  pub failed_start_stops : (bound now : ℕ) (s : State I R) (new : List (Frame I R))
      → Spends limits.runs limits.width 1 s.frames new → s.starts ≤ now → now ≤ s.starts + 1
      → IsEvaluating scripts limits is_counted top bound s → Stops scripts limits is_counted top bound now s.limits_met
  failed_start_stops bound now s new spends more one h = record {
    within = starts_are_within I R limits.runs limits.width bound now new
        (move_stays_within I R limits.runs limits.width bound s.starts now 1 s.frames new spends one h.within);
    paid = λ c e. (later_keeps_priced I R (min limits.runs (limits.root + 1)) limits.root limits.last limits.before
        s.starts now s.limits_met s.frames more (h.priced (min limits.runs (limits.root + 1)) lower_price c)).paid e;
    by_runs = λ c e met_one. (later_keeps_priced I R limits.runs limits.root limits.last limits.before s.starts now
        s.limits_met s.frames more (h.priced limits.runs (price_of_runs e) c)).paid met_one;
  }

  pub fitting_meets_no_limit : (bound n : ℕ) (f : Frame I R) (below : List (Frame I R)) (starts : ℕ) (met : Bool)
      → IsPlainTo scripts n top → n ≤ limits.root
      → IsEvaluating scripts limits is_counted top bound (at (f ∷ below) starts met)
      → ((goal : I) → Asks scripts f goal → 0 < f.available) × (f.in_cycle ≡ false) × (f.met_overflow ≡ false)
      × (fault_after (scripts f.goal) f.replies ≡ None)
  fitting_meets_no_limit bound n f below starts met p fits h =
      let w = room_is_enough scripts f h.safe.0 (h.room n p fits).0 in
      (λ goal asks. let some : f.available ≢ 0 = w.0 goal asks in omega arith, w.3, w.1, w.4)

  pub enclosed_refuses_none : (bound : ℕ) (f : Frame I R) (below : List (Frame I R)) (starts : ℕ) (met : Bool)
      → EvaluationIsEnclosed scripts limits is_counted top
      → IsEvaluating scripts limits is_counted top bound (at (f ∷ below) starts met)
      → ((goal : I) → Asks scripts f goal → Contains limits.goals goal × (0 < f.available)) × (f.met_overflow ≡ false)
  enclosed_refuses_none bound f below starts met e h =
      let stay = h.enclosed e in (
        λ goal asks.
            let some : f.available ≢ 0 = some_depth scripts limits.goals limits.root f below e.fits stay in
            (asked_within scripts limits.goals limits.root top f below goal e stay h.safe.0.fitting asks, omega arith),
        stay.depths.1,
      )
