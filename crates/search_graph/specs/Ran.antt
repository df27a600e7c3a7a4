-- What a call does with goals, cache and frames: one turn after another, each of which is a move, after
-- which nodes are let go.
use Rattle.std.specs.Prelude.{◌≡◌, ◌≤◌, ◌+◌, ◌∷◌, ℕ, Bool, true, [], List, None, Some, Result, Ok, Err}
use Rattle.run_records.specs.declared.runs.Fate.{Fate}
use Rattle.search_context.specs.declared.context.Answer.{Answer}
use Rattle.search_context.specs.declared.context.Reply.TheVariants as reply
use Rattle.between_moves.specs.Scopes.{HoldsOwn}
use Rattle.search_ends.specs.Words.{RunEnds}
use Rattle.search_graph.specs.Below.{AreRuns, Begin, Cache, CacheNode, CountsOne, CxOf, DelegateOf, Done, Evaluate}
use Rattle.search_graph.specs.Below.{Fault, fates_of, Finished, HasStepped, IsReplyTo, IsStepFault, KeepsNodes, Memory}
use Rattle.search_graph.specs.Below.{Next, NotesCandidate, OpenGoal, PathKind, Pushes, Received, Request}
use Rattle.search_graph.specs.Below.{Step, verdicts}
use Rattle.search_questions.specs.Words.{AskingFails, AskingLeadsTo, Asks, LetsGo, LetsGoAtEnd}
use Rattle.search_state.specs.declared.evaluation.Evaluation.{Evaluation}

module _ {D C V P F I R A T : Type 0} (G : DelegateOf D C V P F I R A T) (X : CxOf C I R A T) (same : I → I → Bool)
    (same_result : R → R → Bool) (noop : Bool) where
  -- The newest frame gets the reply, and what it requests is done: its question is asked, its run is ended, or what it
  -- says of candidates is noted. Each of these may fail.
  pub data Advanced (received : Received R) (old : Cache C I R T) (e : Evaluation D C V P F I R A T) (starts : ℕ) :
      Result (Next R) (Fault I R) → Cache C I R T → Evaluation D C V P F I R A T → ℕ → Type 0 where
    FrameFailed :
        (fault : Fault I R) (goals : List (OpenGoal C F I R A T))
        → IsStepFault G X old.cx received e.goals fault
        → Advanced received old e starts (Err fault) old (record e { goals = goals }) starts
    Asked :
        (kind : PathKind) (goal : I) (goals : List (OpenGoal C F I R A T)) (given : Received R) (new : Cache C I R T)
        (after : Evaluation D C V P F I R A T) (later : ℕ)
        → HasStepped G X old.cx received (Evaluate kind goal) e.goals goals
        → AskingLeadsTo G X same old.cx kind goal noop old (record e { goals = goals }) starts given new after later
        → Asks G same old (record e { goals = goals }) new after
        → Advanced received old e starts (Ok (Step given)) new after later
    NotAsked :
        (kind : PathKind) (goal : I) (goals : List (OpenGoal C F I R A T)) (new : Cache C I R T)
        (after : Evaluation D C V P F I R A T) (later : ℕ)
        → HasStepped G X old.cx received (Evaluate kind goal) e.goals goals
        → AskingFails G old (record e { goals = goals }) starts new after later
        → Asks G same old (record e { goals = goals }) new after
        → Advanced received old e starts (Err Memory) new after later
    RunEnded :
        (outcome : R) (goals : List (OpenGoal C F I R A T)) (result : Result (Next R) (Fault I R))
        (new : Cache C I R T) (after : Evaluation D C V P F I R A T) (later : ℕ)
        → HasStepped G X old.cx received (Done outcome) e.goals goals → AreRuns (verdicts X) (G.script old.cx) old.nodes
        → RunEnds G X same same_result outcome old (record e { goals = goals }) starts result new after later
        → Advanced received old e starts result new after later
    Noted :
        (request : Request I R) (goals noted : List (OpenGoal C F I R A T))
        → HasStepped G X old.cx received request e.goals goals → IsReplyTo (λ _ _. ⊥) (Some request) reply.Noted
        → NotesCandidate request goals noted
        → Advanced received old e starts (Ok (Step (record { reply = reply.Noted; node = None })))
        old (record e { goals = noted }) starts
    NotNoted :
        (request : Request I R) (goals left : List (OpenGoal C F I R A T))
        → HasStepped G X old.cx received request e.goals goals
        → Advanced received old e starts (Err Memory) old (record e { goals = left }) starts

  -- A move is made, and nodes are let go to which nothing leads any more, before the next one, with the answer, and
  -- after a fault. There may be no memory to look for them.
  pub data Turned (received : Received R) (old : Cache C I R T) (e : Evaluation D C V P F I R A T) (starts : ℕ) :
      Result (Next R) (Fault I R) → Cache C I R T → Evaluation D C V P F I R A T → ℕ → Type 0 where
    GoesOn :
        (given : Received R) (mid new : Cache C I R T) (between after : Evaluation D C V P F I R A T) (later : ℕ)
        → Advanced received old e starts (Ok (Step given)) mid between later → LetsGo same between given.node mid new
        → after ≡ record between { drafts = after.drafts } → after.drafts.first ≡ between.drafts.first
        → after.drafts.stored ≡ between.drafts.stored
        → Turned received old e starts (Ok (Step given)) new after later
    Answered :
        (answer : Answer R) (mid new : Cache C I R T) (after : Evaluation D C V P F I R A T) (later : ℕ)
        → Advanced received old e starts (Ok (Finished answer)) mid after later
        → LetsGoAtEnd same after answer.node mid new
        → Turned received old e starts (Ok (Finished answer)) new after later
    NotAnswered :
        (answer : Answer R) (new : Cache C I R T) (after : Evaluation D C V P F I R A T) (later : ℕ)
        → Advanced received old e starts (Ok (Finished answer)) new after later
        → Turned received old e starts (Err Memory) new after later
    Failed :
        (fault : Fault I R) (mid new : Cache C I R T) (between after : Evaluation D C V P F I R A T) (later : ℕ)
        → Advanced received old e starts (Err fault) mid between later → LetsGoAtEnd same between None mid new
        → after ≡ record between { goals = []; scopes = []; provisional = [] }
        → Turned received old e starts (Err fault) new after later
    FailedForGood :
        (fault : Fault I R) (new : Cache C I R T) (between after : Evaluation D C V P F I R A T) (later : ℕ)
        → Advanced received old e starts (Err fault) new between later
        → after ≡ record between { goals = []; scopes = []; provisional = [] }
        → Turned received old e starts (Err Memory) new after later

  -- The goal is pushed, with its scope, if it holds one, and one turn follows another, each with the reply that the
  -- one before it led to.
  pub data Ran (kind : PathKind) (goal : I) (fate : Fate R) (old : Cache C I R T) (e : Evaluation D C V P F I R A T)
      (starts : ℕ) : Result (Next R) (Fault I R) → Cache C I R T → Evaluation D C V P F I R A T → ℕ → Type 0 where
    Began :
        (goals : List (OpenGoal C F I R A T)) (held : List V) (nodes : List (CacheNode I R)) (later : ℕ)
        → Pushes G X old.cx goal kind e.root_depth old.nodes nodes e.goals goals
        → fates_of goals ≡ record { goal = goal; depth = e.root_depth.0; fate = fate } ∷ fates_of e.goals
        → HoldsOwn fate e.scopes held
        → KeepsNodes old.nodes nodes → later ≤ starts + 1 → (G.counts ≡ true → CountsOne G.last starts later)
        → Ran kind goal fate old e starts (Ok (Step (record { reply = Begin; node = None })))
        (record old { nodes = nodes }) (record e { goals = goals; scopes = held }) later
    NotBegun :
        (goals : List (OpenGoal C F I R A T)) (held : List V) (later : ℕ)
        → starts ≤ later → later ≤ starts + 1
        → Ran kind goal fate old e starts (Err Memory) old (record e { goals = goals; scopes = held }) later
    Then :
        (given : Received R) (mid : Cache C I R T) (between : Evaluation D C V P F I R A T) (now : ℕ)
        (result : Result (Next R) (Fault I R)) (new : Cache C I R T)
        (after : Evaluation D C V P F I R A T) (later : ℕ)
        → Ran kind goal fate old e starts (Ok (Step given)) mid between now
        → Turned given mid between now result new after later
        → Ran kind goal fate old e starts result new after later

-- what comes next, if a call ended with this
abbrev pub ended : {R E : Type 0} → Result (Answer R) E → Result (Next R) E
ended (Ok answer) = Ok (Finished answer)
ended (Err fault) = Err fault

-- the property holds of the reply that comes next, if there is one
abbrev pub IfStep : {R E : Type 0} → Result (Next R) E → (Received R → Type 0) → Type 0
IfStep (Ok (Step given)) P = P given
IfStep (Ok (Finished answer)) P = Unit {0}
IfStep (Err fault) P = Unit {0}

-- and of the answer, if the call has it
abbrev pub IfEnd : {R E : Type 0} → Result (Next R) E → (Answer R → Type 0) → Type 0
IfEnd (Ok (Step given)) P = Unit {0}
IfEnd (Ok (Finished answer)) P = P answer
IfEnd (Err fault) P = Unit {0}
