-- A move, as the code makes it: the context was read, and a frame's step counts no start.
use Rattle.std.proofs.Common.{◌≡◌, ℕ, Bool, List, Result, Err, None, Some, Ok, refl, sym, subst}
use Rattle.std.specs.Result.{IsErrAnd}
use Rattle.search_graph.specs.Below.{AreRuns, Cache, CxOf, DelegateOf, Done, Evaluate, Fault, HasStepped, IsReplyTo}
use Rattle.search_graph.specs.Below.{IsStepFault, Memory, Next, NotesCandidate, OpenGoal, PathKind, Received, Request}
use Rattle.search_graph.specs.Below.{Step, verdicts}
use Rattle.search_context.specs.declared.context.Reply.TheVariants as reply
use Rattle.search_graph.specs.Ran.{Advanced, Asked, FrameFailed, NotAsked, Noted, NotNoted, RunEnded}
use Rattle.search_ends.specs.Words.{RunEnds}
use Rattle.search_questions.specs.Words.{AskingFails, AskingLeadsTo, Asks}
use Rattle.search_rules.proofs.moves.Questions.{same_err}
use Rattle.search_state.specs.declared.evaluation.Evaluation.{Evaluation}

module _ {D C V P F I R A T : Type 0} (G : DelegateOf D C V P F I R A T) (X : CxOf C I R A T) (same : I → I → Bool)
    (same_result : R → R → Bool) (noop : Bool) (received : Received R) (old : Cache C I R T)
    (e : Evaluation D C V P F I R A T) (starts : ℕ) (read : C) (reads : read ≡ old.cx) where
  pub fails_in_frame :
      (fault : Fault I R) (goals : List (OpenGoal C F I R A T)) (now : ℕ) → now ≡ starts
      → IsStepFault G X read received e.goals fault
      → (result : Result (Next R) (Fault I R)) → IsErrAnd result (λ other. other ≡ fault)
      → Advanced G X same same_result noop received old e starts result old (record e { goals = goals }) now
  fails_in_frame fault goals now is failed result told =
      subst (λ r. Advanced G X same same_result noop received old e starts r old (record e { goals = goals }) now)
      (same_err result fault told)
      (subst (Advanced G X same same_result noop received old e starts (Err fault) old (record e { goals = goals }))
      (sym is)
      (FrameFailed fault goals (subst (λ c. IsStepFault G X c received e.goals fault) reads failed)))

  module _ (made : Request I R) (goals : List (OpenGoal C F I R A T))
      (stepped : HasStepped G X read received made e.goals goals) where
    -- the step, of the request that it made
    stepped_as : (request : Request I R) → made ≡ request → HasStepped G X old.cx received request e.goals goals
    stepped_as request is = subst (λ q. HasStepped G X old.cx received q e.goals goals) is
        (subst (λ c. HasStepped G X c received made e.goals goals) reads stepped)

    module _ (now : ℕ) (is_now : now ≡ starts) (new : Cache C I R T)
        (after : Evaluation D C V P F I R A T) (later : ℕ) where
      module _ (kind : PathKind) (goal : I) (is : made ≡ Evaluate kind goal)
          (keeps : Asks G same old (record e { goals = goals }) new after) where
        pub asks :
            (quiet : Bool) → quiet ≡ noop → (given : Received R)
            → AskingLeadsTo G X same old.cx kind goal quiet old (record e { goals = goals }) now given new after later
            → Advanced G X same same_result noop received old e starts (Ok (Step given)) new after later
        asks quiet same_noop given asking =
            Asked kind goal goals given new after later (stepped_as (Evaluate kind goal) is)
            (subst (λ n. AskingLeadsTo G X same old.cx kind goal noop old
            (record e { goals = goals }) n given new after later) is_now
            (subst (λ b. AskingLeadsTo G X same old.cx kind goal b old (record e { goals = goals }) now
            given new after later) same_noop asking))
            keeps

        pub fails_to_ask :
            AskingFails G old (record e { goals = goals }) now new after later
            → (result : Result (Next R) (Fault I R)) → IsErrAnd result (λ other. other ≡ Memory)
            → Advanced G X same same_result noop received old e starts result new after later
        fails_to_ask fails result told =
            subst (λ r. Advanced G X same same_result noop received old e starts r new after later)
            (same_err result Memory told)
            (NotAsked kind goal goals new after later (stepped_as (Evaluate kind goal) is)
            (subst (λ n. AskingFails G old (record e { goals = goals }) n new after later) is_now fails) keeps)

      pub ends : (outcome : R) → made ≡ Done outcome → (result : Result (Next R) (Fault I R))
          → AreRuns (verdicts X) (G.script old.cx) old.nodes
          → RunEnds G X same same_result outcome old (record e { goals = goals }) now result new after later
          → Advanced G X same same_result noop received old e starts result new after later
      ends outcome is result runs ended =
          RunEnded outcome goals result new after later (stepped_as (Done outcome) is) runs
          (subst (λ n. RunEnds G X same same_result outcome old (record e { goals = goals }) n result new after later)
          is_now ended)

    module _ (left : List (OpenGoal C F I R A T)) (now : ℕ) (is_now : now ≡ starts) where
      pub notes :
          IsReplyTo (λ _ _. ⊥) (Some made) reply.Noted → NotesCandidate made goals left → (given : Received R)
          → given ≡ record { reply = reply.Noted; node = None }
          → Advanced G X same same_result noop received old e starts
          (Ok (Step given)) old (record e { goals = left }) now
      notes about noted given is =
          subst (λ r. Advanced G X same same_result noop received old e starts (Ok (Step r)) old
          (record e { goals = left }) now) (sym is)
          (subst (Advanced G X same same_result noop received old e starts
          (Ok (Step (record { reply = reply.Noted; node = None }))) old (record e { goals = left })) (sym is_now)
          (Noted made goals left (stepped_as made refl) about noted))

      pub fails_to_note : (result : Result (Next R) (Fault I R)) → IsErrAnd result (λ other. other ≡ Memory)
          → Advanced G X same same_result noop received old e starts result old (record e { goals = left }) now
      fails_to_note result told =
          subst (λ r. Advanced G X same same_result noop received old e starts r old (record e { goals = left }) now)
          (same_err result Memory told)
          (subst (Advanced G X same same_result noop received old e starts (Err Memory) old (record e { goals = left }))
          (sym is_now) (NotNoted made goals left (stepped_as made refl)))
