-- What becomes of the frames of the goals under evaluation, and of what the builder has seen of them.
use Rattle.std.proofs.Common.{◌≡◌, ◌<◌, List, [], ◌∷◌, Option, None, Some, length, arith, sym, ap, ◌∙◌, subst}
use Rattle.search_context.specs.Delegate.{SeesOn, without_newest}
use Rattle.search_context.specs.declared.context.NodeId.{NodeId}
use Rattle.search_context.specs.declared.context.Request.{Request}
use Rattle.search_context.specs.declared.context.Request.TheVariants.{Done, EnterCandidate, Evaluate, FinishCandidate}
use Rattle.search_context.specs.declared.context.Request.TheVariants.{Ignore}
use Rattle.goal_changes.specs.Candidates.{NotesCandidate}
use Rattle.goal_changes.specs.Frames.{frames_of}
use Rattle.goal_changes.specs.Items.{AnswersNewest, rerun_with, with_no_record}
use Rattle.goal_changes.specs.NestedGoals.{NotesOverflow, TakesStored}
use Rattle.goal_changes.specs.Newest.{change_newest}
use Rattle.goal_changes.specs.OpenGoal.{OpenGoal}
use Rattle.goal_changes.specs.declared.Next.{Next}
use Rattle.search_rules.specs.Moves.{NewestLeaves}

module _ {X F I R A T : Type 0} (old new : List (OpenGoal X F I R A T)) where
  -- an answer to the newest goal leaves them as they are,
  pub answered_frames : (step required overflow heads : _) → AnswersNewest step required overflow heads old new
      → frames_of new ≡ frames_of old
  answered_frames step required overflow heads h = ap frames_of h.is ∙ sym (ap frames_of h.was)

  pub refused_frames : (same : _) → NotesOverflow same old new → frames_of new ≡ frames_of old
  refused_frames same h = ap frames_of h.is ∙ sym (ap frames_of h.was)

  pub stored_frames : (same step hit : _) → TakesStored same step hit old new → frames_of new ≡ frames_of old
  stored_frames same step hit h = ap frames_of h.is ∙ sym (ap frames_of h.was)

module _ {X F I R A T : Type 0} where
  -- and so does what is noted of its candidates
  pub noted_frames : (request : Request I R) (old new : List (OpenGoal X F I R A T)) → NotesCandidate request old new
      → frames_of new ≡ frames_of old
  noted_frames EnterCandidate [] new h = ap frames_of h
  noted_frames EnterCandidate (s ∷ below) new h = ap frames_of h
  noted_frames FinishCandidate [] new h = ap frames_of h
  noted_frames FinishCandidate (s ∷ below) new h = ap frames_of h
  noted_frames (Ignore number) old new h = ap frames_of h.is ∙ sym (ap frames_of h.was)
  noted_frames (Evaluate kind goal) old new h = ap frames_of h
  noted_frames (Done r) old new h = ap frames_of h

  -- a goal that is run again has the frame of the new run
  pub reran_frames :
      (r : R) (target : Option NodeId) (frame : F) (own : NodeId) (old mid new : List (OpenGoal X F I R A T))
      → 0 < length old → mid ≡ change_newest with_no_record old
      → new ≡ change_newest (rerun_with r target frame own) mid
      → frame ∷ without_newest (frames_of old) ≡ frames_of new
  reran_frames r target frame own [] mid new some taken runs = absurd (omega (arith, some))
  reran_frames r target frame own (s ∷ below) mid new some taken runs =
      sym (ap frames_of (runs ∙ ap (change_newest (rerun_with r target frame own)) taken))

  -- a goal that is popped leaves those of the others
  pub popped_frames : (r : R) (old : List (OpenGoal X F I R A T)) (next : Next R) (new : List (OpenGoal X F I R A T))
      → NewestLeaves r old next new → frames_of new ≡ without_newest (frames_of old)
  popped_frames r [] next new h = absurd h
  popped_frames r (s ∷ []) next new h = ap frames_of h.2
  popped_frames r (s ∷ p ∷ below) next new h = answered_frames (p ∷ below) new _ _ _ _ h.2

module _ {P I F : Type 0} (sees : P → I → Option (List F) → Type 0) where
  -- what the builder saw it still sees where it did not change, or was only asked whether it records
  pub sees_same : (builder : P) (before after : List F) → after ≡ before → SeesOn sees builder builder before after
  sees_same builder before after is = record {
    at = λ goal seen. subst (λ frames. sees builder goal (Some frames)) (sym is) seen;
  }

  pub sees_still : (old new : P) (before after : List F)
      → ((goal : I) (frames : Option (List F)) → sees old goal frames → sees new goal frames)
      → after ≡ before → SeesOn sees old new before after
  sees_still old new before after kept is = record {
    at = λ goal seen. subst (λ frames. sees new goal (Some frames)) (sym is) (kept goal (Some before) seen);
  }

  -- one move after another
  pub sees_then : (old mid new : P) (before between after : List F) → SeesOn sees old mid before between
      → SeesOn sees mid new between after → SeesOn sees old new before after
  sees_then old mid new before between after h k = record { at = λ goal seen. k.at goal (h.at goal seen) }

  -- of equal frames
  pub sees_as : (old new : P) (before after same : List F) → SeesOn sees old new before after → same ≡ after
      → SeesOn sees old new before same
  sees_as old new before after same h is = subst (SeesOn sees old new before) (sym is) h
