-- One step of the newest goal's frame.
use Rattle.std.proofs.Common.{◌≡◌, ℕ, ◌-◌, ◌<◌, List, [], ◌∷◌, length, get_or, slice_set, Result, Ok, Err, IfOk, IfErr}
use Rattle.std.proofs.Common.{sym, ap, ◌∙◌, subst, arith}
use Rattle.open_goals.specs.Below.{DelegateOf, CxOf, Request, StackEntry, CanTake, Fault, Run, Received, IsRunFault}
use Rattle.open_goals.specs.Below.{RunOutOfMemory, RunOutOfOrder, RunSteps}
use Rattle.goal_changes.specs.Words.{paired, CanStep, HasStepped, IsStepFault, NoMemoryLeft, OutOfOrder}
use Rattle.search_context.specs.Delegate.{left_open, SeesOn}
use Rattle.goal_changes.specs.Frames.{frames_of}
use Rattle.open_goals.proofs.Pairs.{last_pair, length_of_view}
use Rattle.goal_changes.specs.OpenGoal.{OpenGoal}

module _ {D C V P F I R A T : Type 0} (G : DelegateOf D C V P F I R A T)
    (X : CxOf C I R A T) (cx : C) (given : Received R) where
  module _ (es : List (StackEntry C I R A T)) (fs : List (Run C F I R A T)) (view : List (OpenGoal C F I R A T))
      (same : length es ≡ length fs) (is : paired [] es fs ≡ view) (some : 0 < length view)
      (can : CanStep G X cx given.reply view) where
    some_run : 0 < length fs
    some_run = omega (arith, (length_of_view es fs view same is).1, some)

    -- the run at the last index can take the reply
    pub last_can_take : (n : ℕ) (run : Run C F I R A T) → n ≡ length fs - 1 → run ≡ get_or fs n run
        → CanTake G.stands G.script run.frame given.reply
    last_can_take n run at run_is =
        let last = last_pair [] es fs n run same (omega (arith, some_run)) in
        let shown : CanStep G X cx given.reply ((last.entry, get_or fs n run) ∷ last.rest) =
        subst (CanStep G X cx given.reply) (sym is ∙ last.is) can in
        let there : CanStep G X cx given.reply ((last.entry, run) ∷ last.rest) =
        subst (λ (x : Run C F I R A T). CanStep G X cx given.reply ((last.entry, x) ∷ last.rest)) (sym run_is) shown in
        record { cx = cx; goal = last.entry.input; replies = there.0; stood = there.1; is_fitting = there.2 }

    module _ (n : ℕ) (run : Run C F I R A T) (at : n ≡ length fs - 1)
        (run_is : run ≡ get_or fs n run) (after : Run C F I R A T) where
      -- the last run stepped
      pub last_stepped : (r : Result (Request I R) (Fault I R))
          → IfOk r (λ request. RunSteps G X cx given request run after)
          → IfOk r (λ request. HasStepped G X cx given request view (paired [] es (slice_set fs n after)))
      last_stepped (Err fault) stepped = tt
      last_stepped (Ok request) stepped =
          let last = last_pair [] es fs n run same (omega (arith, some_run)) in
          record {
            entry = last.entry;
            run = run;
            frame = stepped.frame;
            verdict = stepped.verdict;
            below = last.rest;
            was = sym is ∙ last.is ∙ ap (λ (x : Run C F I R A T). (last.entry, x) ∷ last.rest) (sym run_is);
            is = last.after_set after ∙ ap (λ (x : Run C F I R A T). (last.entry, x) ∷ last.rest) stepped.is;
            is_verdict = stepped.is_verdict;
            in_order = stepped.in_order;
            falls = stepped.falls;
            steps = stepped.steps;
          }

      -- or could not
      pub last_failed : (r : Result (Request I R) (Fault I R)) → IfErr r (λ fault. IsRunFault G X cx given run fault)
          → IfErr r (λ fault. IsStepFault G X cx given view fault)
      last_failed (Ok request) failed = tt
      last_failed (Err fault) (RunOutOfMemory memory) = NoMemoryLeft memory
      last_failed (Err fault) (RunOutOfOrder frame verdict request number is_verdict steps disorderly fault_is) =
          let last = last_pair [] es fs n run same (omega (arith, some_run)) in
          OutOfOrder last.entry run frame verdict last.rest request number
          (sym is ∙ last.is ∙ ap (λ (x : Run C F I R A T). (last.entry, x) ∷ last.rest) (sym run_is))
          is_verdict steps disorderly fault_is

      -- what the builder saw of the last run, it saw of the goals
      pub last_seen : (old new : P) (r : Result (Request I R) (Fault I R))
          → IfOk r (λ request. (below : List F) → SeesOn G.sees old new (run.frame ∷ below)
          (left_open request (after.frame ∷ below)))
          → IfOk r (λ request. SeesOn G.sees old new (frames_of view)
          (left_open request (frames_of (paired [] es (slice_set fs n after)))))
      last_seen old new (Err fault) seen = tt
      last_seen old new (Ok request) seen =
          let last = last_pair [] es fs n run same (omega (arith, some_run)) in
          let was : view ≡ (last.entry, run) ∷ last.rest =
          sym is ∙ last.is ∙ ap (λ (x : Run C F I R A T). (last.entry, x) ∷ last.rest) (sym run_is) in
          subst (λ v. SeesOn G.sees old new (frames_of v)
          (left_open request (frames_of (paired [] es (slice_set fs n after))))) (sym was)
          (subst (λ v. SeesOn G.sees old new (run.frame ∷ frames_of last.rest) (left_open request (frames_of v)))
          (sym (last.after_set after)) (seen (frames_of last.rest)))
