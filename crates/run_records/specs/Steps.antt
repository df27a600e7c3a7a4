-- The step of a run's frame.
use Rattle.std.specs.Prelude.{◌≡◌, ℕ, ◌<◌, ◌↔◌, IsTrue, None, Some}
use Rattle.run_records.specs.Below.{DelegateOf, CxOf, Request, Reply, Begin, Answer, Noted, Fault, Memory, Protocol}
use Rattle.run_records.specs.Below.{Verdict, Yes, No, Neither, Steps, Verdicts, verdicts}
use Rattle.run_records.specs.Progress.{RunRecord, received, requested, fault_of}
use Rattle.run_records.specs.declared.runs.Received.{Received}
use Rattle.run_records.specs.declared.runs.Run.{Run}

-- the verdict is that of the answer, if the reply is one
abbrev pub IsVerdict : {R : Type 0} → Verdicts R → Reply R → Verdict → Type 0
IsVerdict says Begin verdict = verdict ≡ Neither
IsVerdict says Noted verdict = verdict ≡ Neither
IsVerdict says (Answer r) verdict =
    ((verdict ≡ Yes) ↔ IsTrue (says.is_yes r)) × ((verdict ≡ No) ↔ IsTrue (says.is_no r))

module _ {D C V P F I R A T : Type 0} (G : DelegateOf D C V P F I R A T) (X : CxOf C I R A T) (cx : C) where
  -- the run with the reply on record
  abbrev pub received_by : Run C F I R A T → Received R → Verdict → RunRecord I R
  received_by run given verdict = received run.progress given.reply verdict given.node

  -- the run's frame took the reply and requested, in order, and both are on record
  pub record RunSteps (given : Received R) (request : Request I R) (old new : Run C F I R A T) : Type 0 where
    pub frame : F
    pub verdict : Verdict
    pub is : new ≡ record old { frame = frame; progress = requested (received_by old given verdict) request }
    pub is_verdict : IsVerdict (verdicts X) given.reply verdict
    pub in_order : fault_of (received_by old given verdict) request ≡ None
    pub falls : G.left frame < G.left old.frame
    pub steps : Steps G.stands G.script old.frame given.reply request frame

  -- it could not take the reply for want of memory, or requested out of order
  pub data IsRunFault (given : Received R) (old : Run C F I R A T) (fault : Fault I R) : Type 0 where
    RunOutOfMemory : fault ≡ Memory → IsRunFault given old fault
    RunOutOfOrder :
        (frame : F) (verdict : Verdict) (request : Request I R) (number : ℕ)
        → IsVerdict (verdicts X) given.reply verdict → Steps G.stands G.script old.frame given.reply request frame
        → fault_of (received_by old given verdict) request ≡ Some number
        → fault ≡ Protocol number → IsRunFault given old fault
