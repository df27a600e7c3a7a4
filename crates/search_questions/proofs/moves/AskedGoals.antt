-- What a question leaves of the goals, of what becomes of their results, and of the scopes that they hold.
use Rattle.std.proofs.Common.{◌≡◌, ◌<◌, ◌||◌, ◌∙◌, ℕ, Bool, false, List, [], ◌∷◌, length, refl, sym, subst, ap, arith}
use Rattle.std.specs.List.{list_any}
use Rattle.run_records.specs.declared.runs.Fate.{Fate}
use Rattle.search_questions.specs.Below.{Cache, CxOf, DelegateOf, Fated, fates_of, IsFated, MovesFates, PathKind}
use Rattle.search_questions.specs.Below.{Received, OpenGoal, StayFrom}
use Rattle.search_state.specs.declared.evaluation.Evaluation.{Evaluation}
use Rattle.search_questions.specs.Words.{AskingLeadsTo, ByEntry, ByStored, OverCycle, Pushed, Refused}
use Rattle.search_rules.proofs.moves.Fates.{fates_noted, fates_stored, fates_taken}
use Rattle.search_rules.specs.Fates.{Push, Stay}
use Rattle.between_moves.specs.Scopes.{HoldScopes}
use Rattle.search_rules.proofs.records.EarlierNodes.{stay_noted, stay_pushed, stay_stored, stay_taken}

-- a goal that isn't under evaluation is none of those
among_fates : {X F I R A T : Type 0} (same : I → I → Bool) (goal : I) (goals : List (OpenGoal X F I R A T))
    → list_any (λ s. same goal s.goal) (fates_of goals) ≡ list_any (λ s. same goal s.0.input) goals
among_fates same goal [] = refl
among_fates same goal (s ∷ below) = ap (λ b. same goal s.0.input || b) (among_fates same goal below)

pushed_on : {X F I R A T : Type 0} (same : I → I → Bool) (suits : Fated I R → Type 0) (pushed : Fated I R)
    (old : List (OpenGoal X F I R A T)) (new : List (Fated I R))
    → 0 < length old → list_any (λ s. same pushed.goal s.0.input) old ≡ false → suits pushed
    → new ≡ pushed ∷ fates_of old → MovesFates same suits (fates_of old) new
pushed_on same suits pushed [] new some absent suited is = absurd (omega (arith, some))
pushed_on same suits pushed (s ∷ below) new some absent suited is =
    Push pushed _ (fates_of below) refl (among_fates same pushed.goal (s ∷ below) ∙ absent) suited is

module _ {D C V P F I R A T : Type 0} (G : DelegateOf D C V P F I R A T) (X : CxOf C I R A T)
    (same : I → I → Bool) (cx : C) where
  -- the goals after a question
  pub asked_from :
      (kind : PathKind) (goal : I) (old : Cache C I R T) (e : Evaluation D C V P F I R A T) (starts : _) (noop : Bool)
      (received : Received R) (new : Cache C I R T) (after : Evaluation D C V P F I R A T) (later : _)
      → AskingLeadsTo G X same cx kind goal noop old e starts received new after later
      → StayFrom old.nodes e.goals after.goals
  asked_from kind goal old e starts noop received new after later (Refused goals none noted) =
      stay_noted old.nodes e.goals goals same noted
  asked_from kind goal old e starts noop received new after later (ByEntry depth entry goals at is takes nested) =
      stay_taken old.nodes e.goals goals kind 0 entry.encountered_overflow entry.heads takes
  asked_from kind goal old e starts noop received new after later (ByStored depth hit goals at none is takes usable) =
      stay_stored old.nodes e.goals goals same kind hit takes
  asked_from kind goal old e starts noop received new after later
      (OverCycle depth head given goals at none not_stored found closes) =
      stay_taken old.nodes e.goals goals kind 0 _ _ closes.takes
  asked_from kind goal old e starts noop received new after later
      (Pushed depth goals held nodes now at none not_stored absent pushes fates holds fated one counted) =
      stay_pushed G X cx old.nodes e.goals goals goal kind depth nodes pushes

  -- What becomes of their results: none is pushed but of this goal, of which this holds.
  pub asked_fates :
      (suits : Fated I R → Type 0) (kind : PathKind) (goal : I) (old : Cache C I R T)
      (e : Evaluation D C V P F I R A T) (starts : _) (noop : Bool) (received : Received R) (new : Cache C I R T)
      (after : Evaluation D C V P F I R A T) (later : _)
      → 0 < length e.goals → ((depth : ℕ) (fate : Fate R)
      → IsFated (G.scoped cx) (G.script cx) same old.results noop (record { goal = goal; depth = depth; fate = fate })
      → suits (record { goal = goal; depth = depth; fate = fate }))
      → AskingLeadsTo G X same cx kind goal noop old e starts received new after later
      → MovesFates same suits (fates_of e.goals) (fates_of after.goals)
  asked_fates suits kind goal old e starts noop received new after later some suit (Refused goals none noted) =
      Stay (fates_noted e.goals goals same noted)
  asked_fates suits kind goal old e starts noop received new after later some suit
      (ByEntry depth entry goals at is takes nested) =
      Stay (fates_taken e.goals goals kind 0 entry.encountered_overflow entry.heads takes)
  asked_fates suits kind goal old e starts noop received new after later some suit
      (ByStored depth hit goals at none is takes usable) =
      Stay (fates_stored e.goals goals same kind hit takes)
  asked_fates suits kind goal old e starts noop received new after later some suit
      (OverCycle depth head given goals at none not_stored found closes) =
      Stay (fates_taken e.goals goals kind 0 _ _ closes.takes)
  asked_fates suits kind goal old e starts noop received new after later some suit
      (Pushed depth goals held nodes now at none not_stored absent pushes fates holds fated one counted) =
      pushed_on same suits _ e.goals (fates_of goals) some absent (suit _ _ fated) fates

  -- which of them hold scopes
  pub asked_scopes :
      (kind : PathKind) (goal : I) (old : Cache C I R T) (e : Evaluation D C V P F I R A T) (starts : _) (noop : Bool)
      (received : Received R) (new : Cache C I R T) (after : Evaluation D C V P F I R A T) (later : _)
      → AskingLeadsTo G X same cx kind goal noop old e starts received new after later
      → HoldScopes (fates_of e.goals) e.scopes → HoldScopes (fates_of after.goals) after.scopes
  asked_scopes kind goal old e starts noop received new after later (Refused goals none noted) =
      subst (λ fs. HoldScopes fs e.scopes) (sym (fates_noted e.goals goals same noted))
  asked_scopes kind goal old e starts noop received new after later (ByEntry depth entry goals at is takes nested) =
      subst (λ fs. HoldScopes fs e.scopes)
      (sym (fates_taken e.goals goals kind 0 entry.encountered_overflow entry.heads takes))
  asked_scopes kind goal old e starts noop received new after later (ByStored depth hit goals at none is takes usable) =
      subst (λ fs. HoldScopes fs e.scopes) (sym (fates_stored e.goals goals same kind hit takes))
  asked_scopes kind goal old e starts noop received new after later
      (OverCycle depth head given goals at none not_stored found closes) =
      subst (λ fs. HoldScopes fs e.scopes) (sym (fates_taken e.goals goals kind 0 _ _ closes.takes))
  asked_scopes kind goal old e starts noop received new after later
      (Pushed depth goals held nodes now at none not_stored absent pushes fates holds fated one counted) =
      λ h. subst (λ fs. HoldScopes fs held) (sym fates) (e.scopes, holds, h)
