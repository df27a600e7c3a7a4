-- The goals under evaluation with their runs, and the step of the newest one's frame.
use Rattle.std.specs.Prelude.{◌≡◌, ℕ, ◌<◌, List, [], ◌∷◌, None, Some}
use Rattle.goal_changes.specs.Below.{DelegateOf, CxOf, Request, Reply, Fault, Memory, Protocol, Verdict, StackEntry}
use Rattle.goal_changes.specs.Below.{IsFitting, Steps, verdicts, requested, fault_of, received_by, IsVerdict, Records}
use Rattle.goal_changes.specs.Below.{Received, Run}
use Rattle.goal_changes.specs.OpenGoal.{OpenGoal}

module _ {D C V P F I R A T : Type 0} (G : DelegateOf D C V P F I R A T) (X : CxOf C I R A T) (cx : C) where
  -- a goal under evaluation with its run
  abbrev pub Item : Type 0
  Item = OpenGoal C F I R A T

  -- the item's frame has had these replies, the newest first, and so says its record
  abbrev pub Stood : Item → List (Reply R) → Type 0
  Stood s replies =
      G.stands s.1.frame cx s.0.input replies × Records (verdicts X) (G.script cx s.0.input) s.1.progress replies

  -- the newest item's frame, if there is one, can take the reply
  abbrev pub CanStep : Reply R → List Item → Type 0
  CanStep reply [] = Unit {0}
  CanStep reply (s ∷ below) = (replies : List (Reply R)) × G.stands s.1.frame cx s.0.input replies
      × IsFitting (G.script cx s.0.input) (reply ∷ replies)

  -- the newest item's frame took the reply and requested, in order, and both are on record
  pub record HasStepped (given : Received R) (request : Request I R) (old new : List Item) : Type 0 where
    pub entry : StackEntry C I R A T
    pub run : Run C F I R A T
    pub frame : F
    pub verdict : Verdict
    pub below : List Item
    pub was : old ≡ (entry, run) ∷ below
    pub is : new ≡ (
      entry,
      record run { frame = frame; progress = requested (received_by G X cx run given verdict) request },
    ) ∷ below
    pub is_verdict : IsVerdict (verdicts X) given.reply verdict
    pub in_order : fault_of (received_by G X cx run given verdict) request ≡ None
    pub falls : G.left frame < G.left run.frame
    pub steps : Steps G.stands G.script run.frame given.reply request frame

  -- it could not take the reply for want of memory, or requested out of order
  pub data IsStepFault (given : Received R) (old : List Item) (fault : Fault I R) : Type 0 where
    NoMemoryLeft : fault ≡ Memory → IsStepFault given old fault
    OutOfOrder :
        (entry : StackEntry C I R A T) (run : Run C F I R A T) (frame : F) (verdict : Verdict) (below : List Item)
        (request : Request I R) (number : ℕ)
        → old ≡ (entry, run) ∷ below → IsVerdict (verdicts X) given.reply verdict
        → Steps G.stands G.script run.frame given.reply request frame
        → fault_of (received_by G X cx run given verdict) request ≡ Some number
        → fault ≡ Protocol number → IsStepFault given old fault
