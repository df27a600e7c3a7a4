-- The items of a search mirror the frames from move to move.
use Rattle.std.proofs.Common.{◌≡◌, ℕ, ◌+◌, ◌*◌, ◌<◌, ◌≤◌, min, Bool, true, false, inl, inr, List, [], ◌∷◌, map}
use Rattle.std.proofs.Common.{Contains, Some, refl, sym, ◌∙◌, ap, ap₂, subst, arith}
use Rattle.evaluations.specs.Below.{Request, Reply, Evaluate, Done, Begin, Answer, PathKind, frames_within, IsPlainTo}
use Rattle.evaluations.specs.Below.{HasNoRank, request_after, IsReplyTo, IsFitting}
use Rattle.evaluations.specs.Words.{Frame, Outcome, fresh, stepped, replied, answered, refused, run_again, IsAllowed}
use Rattle.evaluations.specs.Words.{IsSafeOutcome, IsOnStack, LeavesOutcome, HasRoom, frames_ahead, frames_ahead_of}
use Rattle.evaluations.specs.Words.{steps_in_runs, steps_ahead, at, Limits, MeetsNone, IsStarted, Move, Pushed}
use Rattle.evaluations.specs.Words.{Answered, Refused, RunAgain, Popped, PoppedAtLimit, IsEvaluating, Ends, Stops}
use Rattle.evaluations.specs.Words.{with_replies, IsSeen, IsPending, AreSeen, Mirror, work, Waits, HasRequested}
use Rattle.evaluations.specs.Words.{TakesStep, TakesReply, ItemLeaves, IsAmong}
use Rattle.evaluations.specs.Evaluation.{EvaluationIsEnclosed, Noted}
use Rattle.evaluations.proofs.Evaluations.{root_is_evaluating, move_goes_on, last_frame_ends, last_run_ends}
use Rattle.evaluations.proofs.Evaluations.{evaluation_stops, failed_start_stops, fitting_meets_no_limit}
use Rattle.evaluations.proofs.Evaluations.{depths_met_none, lower_price, price_of_runs}
use Rattle.evaluations.proofs.Plains.{step_keeps_safe, left_is_safe, cycle_has_no_rank}
use Rattle.evaluations.proofs.Counts.{question_spends, rerun_spends}
use Rattle.evaluations.proofs.Enclosed.{asked_within, left_calm, some_depth}
use Rattle.evaluations.proofs.Prices.{last_run_is_paid}

module _ {E I R : Type 0} (seen : E → Frame I R) (stands : E → List (Reply R) → Type 0) (runs width : ℕ) where
  seen_ahead : (items : List E) (frames : List (Frame I R)) → AreSeen seen stands items frames
      → frames_ahead runs width frames ≡ frames_ahead runs width (map seen items)
  seen_ahead [] [] h = refl
  seen_ahead (e ∷ es) (f ∷ fs) h = ap₂ (λ a b. a + b) (ap (frames_ahead_of runs width) h.0.is) (seen_ahead es fs h.1)
  seen_ahead _ _ h = absurd h

  seen_steps : (items : List E) (frames : List (Frame I R)) → AreSeen seen stands items frames
      → steps_in_runs runs width frames ≡ steps_in_runs runs width (map seen items)
  seen_steps [] [] h = refl
  seen_steps (e ∷ es) (f ∷ fs) h = ap₂ (λ a b. a + b) (ap (λ g. g.left) h.0.is) (seen_steps es fs h.1)
  seen_steps _ _ h = absurd h

  pub mirror_work : (reply : Reply R) (items : List E) (frames : List (Frame I R))
      → Mirror seen stands reply items frames → steps_ahead runs width frames ≡ steps_ahead runs width (map seen items)
  mirror_work reply [] frames h = absurd h
  mirror_work reply (e ∷ es) [] h = absurd h
  mirror_work reply (e ∷ es) (f ∷ fs) h =
      ap₂ (λ a b. (width + 1) * a + b)
      (ap₂ (λ a b. a + b) (ap (frames_ahead_of runs width) h.0.is) (seen_ahead es fs h.1))
      (ap₂ (λ a b. a + b) (ap (λ g. g.left) h.0.is) (seen_steps es fs h.1))

module _ {E I R : Type 0} (seen : E → Frame I R) (stands : E → List (Reply R) → Type 0)
    (scripts : I → List (Reply R) → Request I R) where
  -- the frame of an item that took its step
  stepped_seen : (reply : Reply R) (request : Request I R) (old new : E) (f : Frame I R)
      → IsPending seen stands reply old f → TakesStep seen stands scripts reply request old new
      → IsFitting (scripts f.goal) f.replies
      → (request_after (scripts f.goal) f.replies ≡ Some request) × IsSeen seen stands new (stepped f (seen new).left)
  stepped_seen reply request old new f h t fits =
      let made = t.steps h.earlier h.stood (subst (λ g. IsFitting (scripts g.goal) g.replies) h.is fits) in
      subst (λ g. (request_after (scripts g.goal) g.replies ≡ Some request)
      × IsSeen seen stands new (stepped g (seen new).left)) (sym h.is)
      (ap Some (sym made.0), record { is = sym (ap (λ g. with_replies g (reply ∷ h.earlier)) t.same); stood = made.1 })

  -- the frame of an item that has a new reply to get
  pub reply_pending : (change : Frame I R → Frame I R) (reply : Reply R) (old new : E) (f : Frame I R)
      → IsSeen seen stands old f → TakesReply seen stands scripts change reply old new
      → IsPending seen stands reply new (change f)
  reply_pending change reply old new f h t =
      record { earlier = f.replies; is = ap change h.is ∙ t.same f.replies; stood = t.stood f.replies h.stood }

module _ {E I R : Type 0} (seen : E → Frame I R) (stands : E → List (Reply R) → Type 0)
    (scripts : I → List (Reply R) → Request I R) (limits : Limits I) (is_counted : Type 0) (top : I) (bound : ℕ) where
  requests_at : (reply : Reply R) (request : Request I R) (old new : E) (es : List E) (starts : ℕ)
      (met : Bool) (frames : List (Frame I R))
      → TakesStep seen stands scripts reply request old new → Mirror seen stands reply (old ∷ es) frames
      → IsEvaluating scripts limits is_counted top bound (at frames starts met)
      → HasRequested seen stands scripts limits is_counted top bound
      (work seen stands scripts limits is_counted top bound (old ∷ es)) request (new ∷ es) starts met
  requests_at reply request old new es starts met [] t m h = absurd m
  requests_at reply request old new es starts met (f ∷ below) t m h =
      let made = stepped_seen seen stands scripts reply request old new f m.0 t h.safe.0.fitting in
      let less : (seen new).left < (seen old).left = t.falls in
      let same : f.left ≡ (seen old).left = ap (λ g. g.left) m.0.is in
      record {
        f = f;
        below = below;
        left = (seen new).left;
        evaluating = h;
        falls = omega arith;
        requested = made.0;
        ahead_is = mirror_work seen stands limits.runs limits.width reply (old ∷ es) (f ∷ below) m;
        mirror = (made.1, m.1);
      }

  -- a step of the newest item, whose reply fits
  pub step_requests : (reply : Reply R) (request : Request I R) (old new : E) (es : List E) (starts : ℕ) (met : Bool)
      → TakesStep seen stands scripts reply request old new
      → Waits seen stands scripts limits is_counted top bound reply (old ∷ es) starts met
      → HasRequested seen stands scripts limits is_counted top bound
      (work seen stands scripts limits is_counted top bound (old ∷ es)) request (new ∷ es) starts met
  step_requests reply request old new es starts met t h =
      requests_at reply request old new es starts met h.frames t h.mirror h.evaluating

  -- and what the search does then, where it is a move
  pub move_waits : 1 ≤ limits.runs → (ahead : ℕ) (request : Request I R) (reply : Reply R) (items later : List E)
      (starts now : ℕ) (met after : Bool) (frames : List (Frame I R))
      (h : HasRequested seen stands scripts limits is_counted top bound ahead request items starts met)
      → Move scripts limits is_counted top (at (h.f ∷ h.below) starts met) (at frames now after)
      → Mirror seen stands reply later frames
      → Waits seen stands scripts limits is_counted top bound reply later now after
      × (work seen stands scripts limits is_counted top bound later < ahead)
  move_waits some ahead request reply items later starts now met after frames h move mirror =
      let on = move_goes_on scripts limits is_counted top bound some (at (h.f ∷ h.below) starts met)
      (at frames now after) move h.evaluating in
      let same = mirror_work seen stands limits.runs limits.width reply later frames mirror in
      let l : steps_ahead limits.runs limits.width frames < steps_ahead limits.runs limits.width (h.f ∷ h.below) =
      on.falls in
      (record { frames = frames; mirror = mirror; evaluating = on.evaluating }, rw (← same, ← h.ahead_is) l)

  -- a goal that is on the stack is among the items
  among_of : (goal : I) (items : List E) (frames : List (Frame I R)) → AreSeen seen stands items frames
      → IsOnStack scripts goal frames → IsAmong seen goal items
  among_of goal [] [] m on = on
  among_of goal [] (f ∷ fs) m on = absurd m
  among_of goal (e ∷ es) [] m on = absurd m
  among_of goal (e ∷ es) (f ∷ fs) m on = elim on [
    | inl same ↦ inl (sym (ap (λ g. g.goal) m.0.is) ∙ same)
    | inr lower ↦ inr (among_of goal es fs m.1 lower)
  ]

  -- ---- what the search does after a step, in its own terms

  abbrev Requested : ℕ → Request I R → List E → ℕ → Bool → Type 0
  Requested = HasRequested seen stands scripts limits is_counted top bound

  -- the newest item waits for the reply, with less work to do
  abbrev pub WaitsWithLess : ℕ → Reply R → List E → ℕ → Bool → Type 0
  WaitsWithLess ahead reply items starts met =
      Waits seen stands scripts limits is_counted top bound reply items starts met
      × (work seen stands scripts limits is_counted top bound items < ahead)

  allowed_at : (e : E) (f : Frame I R) (left depth : ℕ) → IsSeen seen stands e (stepped f left)
      → IsAllowed (seen e) depth → IsAllowed f depth
  allowed_at e f left depth s a =
      let b : IsAllowed (stepped f left) depth =
      subst (λ g. IsAllowed g depth) (sym s.is) (record { is_less = a.is_less; is_next = a.is_next }) in
      record { is_less = b.is_less; is_next = b.is_next }

  leaves_at : (e : E) (f : Frame I R) (left : ℕ) (r : R) (o : Outcome R) → IsSeen seen stands e (stepped f left)
      → request_after (scripts f.goal) f.replies ≡ Some (Done r) → ItemLeaves r (seen e) o → LeavesOutcome scripts f o
  leaves_at e f left r o s done l =
      let b : ItemLeaves r (stepped f left) o = subst (λ g. ItemLeaves r g o) (sym s.is)
      (record { result = l.result; required = l.required; met_overflow = l.met_overflow; in_cycle = l.in_cycle }) in
      record {
        result = elim b.result [ inl same ↦ inl (done ∙ ap (λ x. Some (Done x)) (sym same)) | inr cycle ↦ inr cycle ];
        required = b.required;
        met_overflow = b.met_overflow;
        in_cycle = b.in_cycle;
      }

  module _ (some : 1 ≤ limits.runs) (ahead starts : ℕ) (met : Bool) (e : E) (es : List E) where
    -- a request that isn't a question,
    pub noted_waits : (request : Request I R) (reply : Reply R) (later : E) → IsReplyTo (λ _ _. ⊥) (Some request) reply
        → TakesReply seen stands scripts (λ g. replied g reply) reply e later
        → Requested ahead request (e ∷ es) starts met → WaitsWithLess ahead reply (later ∷ es) starts met
    noted_waits request reply later fits takes h =
        move_waits some ahead request reply (e ∷ es) (later ∷ es) starts starts met met
        (replied (stepped h.f h.left) reply ∷ h.below) h
        (Noted h.falls (subst (λ q. IsReplyTo (λ _ _. ⊥) q reply) (sym h.requested) fits)) (
          reply_pending seen stands scripts (λ g. replied g reply) reply e later (stepped h.f h.left) h.mirror.0 takes,
          h.mirror.1,
        )

    -- a question that is answered at once,
    pub answered_waits : (kind : PathKind) (goal : I) (depth : ℕ) (o : Outcome R) (later : E) → IsAllowed (seen e) depth
        → IsSafeOutcome scripts goal depth o → (MeetsNone scripts limits is_counted top met → o.met_overflow ≡ false)
        → TakesReply seen stands scripts (λ g. answered g o) (Answer o.result) e later
        → Requested ahead (Evaluate kind goal) (e ∷ es) starts met
        → WaitsWithLess ahead (Answer o.result) (later ∷ es) starts met
    answered_waits kind goal depth o later allowed safe calm takes h =
        move_waits some ahead (Evaluate kind goal) (Answer o.result) (e ∷ es) (later ∷ es) starts starts met met
        (answered (stepped h.f h.left) o ∷ h.below) h
        (Answered h.falls (kind, h.requested) (allowed_at e h.f h.left depth h.mirror.0 allowed) safe calm) (
          reply_pending seen stands scripts (λ g. answered g o) (Answer o.result) e later
              (stepped h.f h.left) h.mirror.0 takes,
          h.mirror.1,
        )

    -- one at depth 0,
    pub refused_waits : (kind : PathKind) (goal : I) (r : R) (later : E) → (seen e).available ≡ 0
        → TakesReply seen stands scripts (λ g. refused g r) (Answer r) e later
        → Requested ahead (Evaluate kind goal) (e ∷ es) starts met
        → WaitsWithLess ahead (Answer r) (later ∷ es) starts true
    refused_waits kind goal r later none takes h =
        move_waits some ahead (Evaluate kind goal) (Answer r) (e ∷ es) (later ∷ es) starts starts met true
        (refused (stepped h.f h.left) r ∷ h.below) h
        (Refused h.falls (kind, h.requested) (ap (λ g. g.available) h.mirror.0.is ∙ none)) (
          reply_pending seen stands scripts (λ g. refused g r) (Answer r) e later (stepped h.f h.left) h.mirror.0 takes,
          h.mirror.1,
        )

    -- one whose goal is pushed,
    pub pushed_waits : (kind : PathKind) (goal : I) (depth now : ℕ) (new : E) → IsAllowed (seen e) depth
        → (IsAmong seen goal (e ∷ es) → ⊥) → (seen new).left ≤ limits.width
        → seen new ≡ fresh goal depth (seen new).left → stands new [] → IsStarted limits.last is_counted starts now
        → Requested ahead (Evaluate kind goal) (e ∷ es) starts met → WaitsWithLess ahead Begin (new ∷ e ∷ es) now met
    pushed_waits kind goal depth now new allowed absent fits same stood started h =
        move_waits some ahead (Evaluate kind goal) Begin (e ∷ es) (new ∷ e ∷ es) starts now met met
        (replied (fresh goal depth (seen new).left) Begin ∷ stepped h.f h.left ∷ h.below) h
        (Pushed h.falls (kind, h.requested) (allowed_at e h.f h.left depth h.mirror.0 allowed)
        (λ on. absent (among_of goal (e ∷ es) (stepped h.f h.left ∷ h.below) h.mirror on)) fits started)
        (record { earlier = []; is = sym (ap (λ g. with_replies g (Begin ∷ [])) same); stood = stood }, h.mirror)

    -- a run that ended, and is followed by another,
    pub rerun_waits : (r : R) (now : ℕ) (later : E) → (seen e).finished_runs + 1 < limits.runs
        → (seen later).left ≤ limits.width → seen later ≡ run_again (seen e) (seen later).left → stands later []
        → IsStarted limits.last is_counted starts now → Requested ahead (Done r) (e ∷ es) starts met
        → WaitsWithLess ahead Begin (later ∷ es) now met
    rerun_waits r now later again fits same stood started h =
        let runs : h.f.finished_runs ≡ (seen e).finished_runs = ap (λ g. g.finished_runs) h.mirror.0.is in
        move_waits some ahead (Done r) Begin (e ∷ es) (later ∷ es) starts now met met
        (replied (run_again (stepped h.f h.left) (seen later).left) Begin ∷ h.below) h
        (RunAgain h.falls (omega arith) fits started) (
          record {
            earlier = [];
            is = ap (λ g. replied (run_again g (seen later).left) Begin) h.mirror.0.is
                ∙ sym (ap (λ g. with_replies g (Begin ∷ [])) same);
            stood = stood;
          },
          h.mirror.1,
        )

    popped_at : (r : R) (o : Outcome R) (p later : E) (after : Bool) (below : List (Frame I R))
        (h : Requested ahead (Done r) (e ∷ p ∷ es) starts met)
        → h.below ≡ below → AreSeen seen stands (p ∷ es) below → ((q : Frame I R) (rest : List (Frame I R))
        → Move scripts limits is_counted top (at (h.f ∷ q ∷ rest) starts met) (at (answered q o ∷ rest) starts after))
        → TakesReply seen stands scripts (λ g. answered g o) (Answer o.result) p later
        → WaitsWithLess ahead (Answer o.result) (later ∷ es) starts after
    popped_at r o p later after [] h is m moves takes = absurd m
    popped_at r o p later after (q ∷ rest) h is m moves takes =
        move_waits some ahead (Done r) (Answer o.result) (e ∷ p ∷ es) (later ∷ es) starts
        starts met after (answered q o ∷ rest) h
        (subst (λ b. Move scripts limits is_counted top (at (h.f ∷ b) starts met)
        (at (answered q o ∷ rest) starts after)) (sym is) (moves q rest))
        (reply_pending seen stands scripts (λ g. answered g o) (Answer o.result) p later q m.0 takes, m.1)

    -- or by the pop of its goal, whose outcome answers the goal below it,
    pub popped_waits : (r : R) (o : Outcome R) (p later : E) → ItemLeaves r (seen e) o
        → TakesReply seen stands scripts (λ g. answered g o) (Answer o.result) p later
        → Requested ahead (Done r) (e ∷ p ∷ es) starts met
        → WaitsWithLess ahead (Answer o.result) (later ∷ es) starts met
    popped_waits r o p later leaves takes h =
        popped_at r o p later met h.below h refl h.mirror.1
        (λ q rest. Popped {left = h.left} h.falls (leaves_at e h.f h.left r o h.mirror.0 h.requested leaves)) takes

    -- where it may have been its last run,
    pub popped_at_limit_waits : (r : R) (o : Outcome R) (p later : E) → limits.runs ≤ (seen e).finished_runs + 1
        → ItemLeaves r (seen e) o → TakesReply seen stands scripts (λ g. answered g o) (Answer o.result) p later
        → Requested ahead (Done r) (e ∷ p ∷ es) starts met
        → WaitsWithLess ahead (Answer o.result) (later ∷ es) starts true
    popped_at_limit_waits r o p later last_run leaves takes h =
        let runs : h.f.finished_runs ≡ (seen e).finished_runs = ap (λ g. g.finished_runs) h.mirror.0.is in
        popped_at r o p later true h.below h refl h.mirror.1 (λ q rest. PoppedAtLimit {left = h.left} h.falls
        (leaves_at e h.f h.left r o h.mirror.0 h.requested leaves) (omega arith)) takes

  -- one item has one frame,
  alone : (below : List (Frame I R)) → AreSeen seen stands [] below → below ≡ []
  alone [] m = refl
  alone (q ∷ rest) m = absurd m

  last_evaluating : (ahead : ℕ) (request : Request I R) (starts : ℕ) (met : Bool) (e : E)
      (h : Requested ahead request (e ∷ []) starts met)
      → IsEvaluating scripts limits is_counted top bound (at (h.f ∷ []) starts met)
  last_evaluating ahead request starts met e h =
      subst (λ b. IsEvaluating scripts limits is_counted top bound (at (h.f ∷ b) starts met))
      (alone h.below h.mirror.1) h.evaluating

  -- and in the end the promises are kept
  pub last_item_ends : (r : R) (o : Outcome R) (ahead starts : ℕ) (met : Bool) (e : E) → ItemLeaves r (seen e) o
      → Requested ahead (Done r) (e ∷ []) starts met → Ends scripts limits is_counted top bound starts met o
  last_item_ends r o ahead starts met e leaves h =
      last_frame_ends scripts limits is_counted top bound starts met h.f o
      (leaves_at e h.f h.left r o h.mirror.0 h.requested leaves) (last_evaluating ahead (Done r) starts met e h)

  pub last_item_ends_at_limit : (r : R) (o : Outcome R) (ahead starts : ℕ) (met : Bool) (e : E)
      → limits.runs ≤ (seen e).finished_runs + 1 → ItemLeaves r (seen e) o
      → Requested ahead (Done r) (e ∷ []) starts met → Ends scripts limits is_counted top bound starts true o
  last_item_ends_at_limit r o ahead starts met e last_run leaves h =
      let runs : h.f.finished_runs ≡ (seen e).finished_runs = ap (λ g. g.finished_runs) h.mirror.0.is in
      last_run_ends scripts limits is_counted top bound starts met h.f o (omega arith)
      (leaves_at e h.f h.left r o h.mirror.0 h.requested leaves) (last_evaluating ahead (Done r) starts met e h)

  -- the newest item may take its step
  can_take_at : (reply : Reply R) (e : E) (es : List E) (starts : ℕ) (met : Bool) (frames : List (Frame I R))
      → Mirror seen stands reply (e ∷ es) frames
      → IsEvaluating scripts limits is_counted top bound (at frames starts met)
      → (earlier : List (Reply R)) × stands e earlier × IsFitting (scripts (seen e).goal) (reply ∷ earlier)
  can_take_at reply e es starts met [] m h = absurd m
  can_take_at reply e es starts met (f ∷ below) m h =
      (m.0.earlier, m.0.stood, subst (λ g. IsFitting (scripts g.goal) g.replies) m.0.is h.safe.0.fitting)

  pub can_take : (reply : Reply R) (e : E) (es : List E) (starts : ℕ) (met : Bool)
      → Waits seen stands scripts limits is_counted top bound reply (e ∷ es) starts met
      → (earlier : List (Reply R)) × stands e earlier × IsFitting (scripts (seen e).goal) (reply ∷ earlier)
  can_take reply e es starts met h = can_take_at reply e es starts met h.frames h.mirror h.evaluating

  -- an evaluation begins
  pub first_waits : (now : ℕ) (met : Bool) (e : E)
      → limits.before + frames_within limits.runs limits.width limits.root ≡ bound → 1 ≤ limits.runs
      → (seen e).left ≤ limits.width → seen e ≡ fresh top limits.root (seen e).left → stands e []
      → IsStarted limits.last is_counted limits.before now → (is_counted → met ≡ false)
      → Waits seen stands scripts limits is_counted top bound Begin (e ∷ []) now met
  first_waits now met e is some fits same stood started unmet = record {
    frames = replied (fresh top limits.root (seen e).left) Begin ∷ [];
    mirror = (record { earlier = []; is = sym (ap (λ g. with_replies g (Begin ∷ [])) same); stood = stood }, tt);
    evaluating = subst (λ b. IsEvaluating scripts limits is_counted top b
        (at (replied (fresh top limits.root (seen e).left) Begin ∷ []) now met)) is
        (root_is_evaluating scripts limits is_counted top (seen e).left now met some fits started unmet);
  }

  -- faults before a reply, and after a request
  pub waits_stops : (reply : Reply R) (items : List E) (starts : ℕ) (met : Bool)
      → Waits seen stands scripts limits is_counted top bound reply items starts met
      → Stops scripts limits is_counted top bound starts met
  waits_stops reply items starts met h =
      evaluation_stops scripts limits is_counted top bound (at h.frames starts met) h.evaluating

  pub requested_stops : (ahead : ℕ) (request : Request I R) (items : List E) (starts : ℕ) (met : Bool)
      → Requested ahead request items starts met → Stops scripts limits is_counted top bound starts met
  requested_stops ahead request items starts met h =
      evaluation_stops scripts limits is_counted top bound (at (h.f ∷ h.below) starts met) h.evaluating

  pub last_run_stops : (ahead : ℕ) (request : Request I R) (e : E) (es : List E) (starts : ℕ) (met : Bool)
      → limits.runs ≤ (seen e).finished_runs + 1 → Requested ahead request (e ∷ es) starts met
      → Stops scripts limits is_counted top bound starts true
  last_run_stops ahead request e es starts met last_run h =
      let runs : h.f.finished_runs ≡ (seen e).finished_runs = ap (λ g. g.finished_runs) h.mirror.0.is in
      record {
        within = (requested_stops ahead request (e ∷ es) starts met h).within;
        paid = λ c _. (last_run_is_paid I R (min limits.runs (limits.root + 1)) limits.root limits.last limits.before
            starts met h.f h.below (omega arith) (h.evaluating.priced (min limits.runs (limits.root + 1))
            (lower_price scripts limits is_counted top) c)).paid refl;
        by_runs = λ c e _.
            (last_run_is_paid I R limits.runs limits.root limits.last limits.before starts met h.f h.below (omega arith)
            (h.evaluating.priced limits.runs (price_of_runs scripts limits is_counted top e) c)).paid refl;
      }

  -- a start that failed, of a goal and of a further run
  pub failed_push_stops : 1 ≤ limits.runs
      → (ahead : ℕ) (kind : PathKind) (goal : I) (depth now : ℕ) (e : E) (es : List E) (starts : ℕ) (met : Bool)
      → IsAllowed (seen e) depth → starts ≤ now → now ≤ starts + 1
      → Requested ahead (Evaluate kind goal) (e ∷ es) starts met → Stops scripts limits is_counted top bound now met
  failed_push_stops some ahead kind goal depth now e es starts met allowed more one h =
      failed_start_stops scripts limits is_counted top bound now (at (h.f ∷ h.below) starts met)
      (fresh goal depth 0 ∷ stepped h.f h.left ∷ h.below)
      (question_spends I R limits.runs limits.width h.f h.below goal depth h.left 0 some
      (allowed_at e h.f h.left depth h.mirror.0 allowed).is_less h.falls (omega arith)) more one h.evaluating

  pub failed_rerun_stops : (ahead : ℕ) (request : Request I R) (now : ℕ) (e : E) (es : List E) (starts : ℕ) (met : Bool)
      → (seen e).finished_runs + 1 < limits.runs → starts ≤ now → now ≤ starts + 1
      → Requested ahead request (e ∷ es) starts met → Stops scripts limits is_counted top bound now met
  failed_rerun_stops ahead request now e es starts met again more one h =
      let runs : h.f.finished_runs ≡ (seen e).finished_runs = ap (λ g. g.finished_runs) h.mirror.0.is in
      failed_start_stops scripts limits is_counted top bound now (at (h.f ∷ h.below) starts met)
      (run_again (stepped h.f h.left) 0 ∷ h.below)
      (rerun_spends I R limits.runs limits.width h.f h.below h.left 0 (omega arith) h.falls (omega arith)) more
      one h.evaluating

  -- ---- what a search knows after a request

  seen_back : (e : E) (f : Frame I R) (left : ℕ) → IsSeen seen stands e (stepped f left) → (f.goal ≡ (seen e).goal)
      × (f.available ≡ (seen e).available) × (f.met_overflow ≡ (seen e).met_overflow) × (f.in_cycle ≡ (seen e).in_cycle)
  seen_back e f left s =
      (ap (λ g. g.goal) s.is, ap (λ g. g.available) s.is, ap (λ g. g.met_overflow) s.is, ap (λ g. g.in_cycle) s.is)

  -- the replies that led to the request
  pub requested_by : (ahead : ℕ) (request : Request I R) (e : E) (es : List E) (starts : ℕ) (met : Bool)
      → Requested ahead request (e ∷ es) starts met → (replies : List (Reply R)) × stands e replies
      × IsFitting (scripts (seen e).goal) replies × (request_after (scripts (seen e).goal) replies ≡ Some request)
  requested_by ahead request e es starts met h =
      let same = (seen_back e h.f h.left h.mirror.0).0 in (
        h.f.replies,
        h.mirror.0.stood,
        subst (λ g. IsFitting (scripts g) h.f.replies) same h.evaluating.safe.0.fitting,
        subst (λ g. request_after (scripts g) h.f.replies ≡ Some request) same h.requested,
      )

  -- what is left is safe, and without overflow as long as none is met: so it may be stored
  pub leaves_safe : (ahead : ℕ) (r : R) (o : Outcome R) (e : E) (es : List E) (starts : ℕ) (met : Bool)
      → Requested ahead (Done r) (e ∷ es) starts met → ItemLeaves r (seen e) o
      → IsSafeOutcome scripts (seen e).goal (seen e).available o
  leaves_safe ahead r o e es starts met h leaves =
      let same = seen_back e h.f h.left h.mirror.0 in
      subst (λ d. IsSafeOutcome scripts (seen e).goal d o) same.1
      (subst (λ g. IsSafeOutcome scripts g h.f.available o) same.0
      (left_is_safe scripts h.f o (leaves_at e h.f h.left r o h.mirror.0 h.requested leaves) h.evaluating.safe.0))

  pub leaves_calm : (ahead : ℕ) (r : R) (o : Outcome R) (e : E) (es : List E) (starts : ℕ) (met : Bool)
      → Requested ahead (Done r) (e ∷ es) starts met → ItemLeaves r (seen e) o
      → MeetsNone scripts limits is_counted top met → o.met_overflow ≡ false
  leaves_calm ahead r o e es starts met h leaves meets =
      (leaves_at e h.f h.left r o h.mirror.0 h.requested leaves).met_overflow
      ∙ left_calm I R limits.root h.f h.below
      (depths_met_none scripts limits is_counted top bound starts met (h.f ∷ h.below) meets h.evaluating)

  -- what an enclosed evaluation asks is one of the goals, and it is not refused
  pub asked_among : (ahead : ℕ) (kind : PathKind) (goal : I) (items : List E) (starts : ℕ) (met : Bool)
      → Requested ahead (Evaluate kind goal) items starts met
      → EvaluationIsEnclosed scripts limits is_counted top → Contains limits.goals goal
  asked_among ahead kind goal items starts met h e =
      asked_within scripts limits.goals limits.root top h.f h.below goal e (h.evaluating.enclosed e)
      h.evaluating.safe.0.fitting (kind, h.requested)

  pub none_refused : (ahead : ℕ) (request : Request I R) (e : E) (es : List E) (starts : ℕ) (met : Bool)
      → Requested ahead request (e ∷ es) starts met
      → EvaluationIsEnclosed scripts limits is_counted top → (seen e).available ≡ 0 → ⊥
  none_refused ahead request e es starts met h enclosed none =
      some_depth scripts limits.goals limits.root h.f h.below enclosed.fits (h.evaluating.enclosed enclosed)
      (ap (λ g. g.available) h.mirror.0.is ∙ none)

  -- a goal that is asked and is among the items has no rank
  on_stack : (goal : I) (items : List E) (frames : List (Frame I R)) → AreSeen seen stands items frames
      → IsAmong seen goal items → IsOnStack scripts goal frames
  on_stack goal [] frames m among = absurd among
  on_stack goal (e ∷ es) [] m among = absurd m
  on_stack goal (e ∷ es) (f ∷ fs) m among = elim among [
    | inl same ↦ inl (ap (λ g. g.goal) m.0.is ∙ same)
    | inr lower ↦ inr (on_stack goal es fs m.1 lower)
  ]

  pub cycle_found : (ahead : ℕ) (kind : PathKind) (goal : I) (items : List E) (starts : ℕ) (met : Bool)
      → Requested ahead (Evaluate kind goal) items starts met → IsAmong seen goal items → HasNoRank scripts goal
  cycle_found ahead kind goal items starts met h among =
      cycle_has_no_rank scripts (stepped h.f h.left) h.below goal
      (step_keeps_safe scripts h.f h.below h.left h.evaluating.safe) (kind, h.requested)
      (on_stack goal items (stepped h.f h.left ∷ h.below) h.mirror among)

  -- where the root's rank fits, every goal under evaluation has room, and none is refused, in a cycle or out of order
  pub requested_fits : (ahead : ℕ) (request : Request I R) (e : E) (es : List E) (starts : ℕ) (met : Bool) (n : ℕ)
      → IsPlainTo scripts n top → n ≤ limits.root
      → Requested ahead request (e ∷ es) starts met → HasRoom scripts (seen e)
      × ((kind : PathKind) (goal : I) → request ≡ Evaluate kind goal → 0 < (seen e).available)
      × ((seen e).in_cycle ≡ false) × ((seen e).met_overflow ≡ false)
  requested_fits ahead request e es starts met n p fits h =
      let same = seen_back e h.f h.left h.mirror.0 in
      let room = (h.evaluating.room n p fits).0 in
      let w =
      fitting_meets_no_limit scripts limits is_counted top bound n h.f h.below starts met p fits h.evaluating in (
        (room.0, subst (λ g. IsPlainTo scripts room.0 g) same.0 room.1, subst (λ d. room.0 ≤ d) same.1 room.2),
        λ kind goal is. subst (λ d. 0 < d) same.1 (w.0 goal (kind, h.requested ∙ ap Some is)),
        sym same.3 ∙ w.1,
        sym same.2 ∙ w.2,
      )
