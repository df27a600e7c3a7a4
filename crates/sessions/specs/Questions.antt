-- What a question comes to.
use Rattle.std.specs.Prelude.{◌≡◌, ◌≤◌, ℕ, Bool, true, false, max, Result, Ok, IfSome, IfOk, IfErr}
use Rattle.sessions.specs.Below.{AreDefinite, Builder, Cache, Called, CxOf, DelegateOf, Fault, first_accepted}
use Rattle.sessions.specs.Below.{frames_within, Graph, HasGraph, HasRun, HaveNoOverflow, IsCaused, IsDecisive}
use Rattle.sessions.specs.Below.{IsDefinite, IsPaid, IsPlainTo, IsPlainValue, IsProved, IsRefuted, is_noop_of, KeepsAll}
use Rattle.sessions.specs.Below.{Memory, Outcome, started_in, usable, verdicts}
use Rattle.search_context.specs.declared.context.Answer.{Answer}
use Rattle.sessions.specs.declared.asking.Asked.{Asked}

-- the starts of frames are those that the builder counts, and it is a no-op if it was made as one
abbrev pub AreCountedStarts : (Builder → ℕ) → (Builder → Bool) → Type 0
AreCountedStarts starts noop =
    (builder : Builder) → (starts builder ≡ started_in builder) × (noop builder ≡ is_noop_of builder)

-- a graph of this depth
abbrev pub graph_of : (depth : ℕ) → (limits_met : Bool) → Graph
graph_of depth limits_met = record { root_depth = depth; limits_met = limits_met }

-- a call for the goal over the cache `before`, on this graph, that came to this answer
abbrev pub call_on : {C A T : Type 0} → (noop : Bool) → ℕ → (before : Cache C ℕ Outcome T) → Graph
    → (starts : ℕ) → Answer Outcome → (after : Cache C ℕ Outcome T) → (left : Graph)
    → (now : ℕ) → Called C ℕ Outcome A T
call_on noop goal before graph starts answer after left now = record {
  goal = goal;
  noop = noop;
  looks_up = noop;
  before = record { graph = graph; cache = before; starts = starts };
  result = Ok answer;
  after = record { graph = left; cache = after; starts = now };
}

module _ {D C V P F A T : Type 0} (G : DelegateOf D C V P F ℕ Outcome A T) (X : CxOf C ℕ Outcome A T)
    (same : ℕ → ℕ → Bool) (same_result : Outcome → Outcome → Bool) where
  -- The goal was asked with this depth on a new graph over the cache `before`, with a new builder, and left the cache
  -- `after`. What it came to is what the search promises of such a call.
  pub record IsAsked (before : Cache C ℕ Outcome T) (depth goal : ℕ) (came : Result Asked (Fault ℕ Outcome))
      (after : Cache C ℕ Outcome T) : Type 0 where
    -- A yes and a no have their graphs, and the goal has none of the other sort.
    pub graph : IfOk came (λ asked. HasGraph (verdicts X) after.nodes goal asked.outcome asked.node)
    pub yes : IfOk came (λ asked. X.is_yes asked.outcome ≡ true → IsProved X after goal asked.node)
    pub no : IfOk came (λ asked. X.is_no asked.outcome ≡ true → IsRefuted X after goal asked.node)
    -- A goal whose questions go no deeper than the depth, and that is orderly with all goals below it, has its plain
    -- value.
    pub plain : (n : ℕ) → IsPlainTo (G.script before.cx) n goal → n ≤ depth
        → IfOk came (λ asked. IsPlainValue (G.script before.cx) n goal asked.outcome)
    pub plain_faults : (n : ℕ) → IsPlainTo (G.script before.cx) n goal → n ≤ depth
        → IfErr came (λ fault. fault ≡ Memory)
    -- Where scripts ask inductively and coinductively alone and decide after decided answers, and each stored result is
    -- yes or no, an answer without a limit met is yes or no.
    pub decisive : IsDecisive (verdicts X) (G.script before.cx) → AreDefinite (verdicts X) same before.results
        → IfOk came (λ asked. asked.limits_met ≡ false → IsDefinite (verdicts X) asked.outcome)
    -- A stored result that may be used is told, with no frame, unless it is to be validated.
    pub stored : G.scoped before.cx goal ≡ false
        → IfSome (first_accepted (λ _. true) (usable same before.results goal depth)) (λ hit. IfOk came (λ asked.
        (asked.outcome ≡ hit.result) × (asked.node ≡ hit.node) × (asked.started ≡ 0)))
    -- The frames are those that this question started, and a limit has its price in frames.
    pub frames : IfOk came (λ asked.
        asked.started ≤ frames_within (max 1 G.FIXPOINT_STEP_LIMIT) (G.width before.cx) depth)
    pub price : G.counts ≡ true → HaveNoOverflow same before.results → IfOk came (λ asked. asked.limits_met ≡ true
        → IsPaid (max 1 G.FIXPOINT_STEP_LIMIT) depth G.last 0 asked.started)
    -- What is told is what the call came to. The laws of calls say what else follows.
    pub ran : IfOk came (λ asked. HasRun G X same same_result (call_on true goal before (graph_of depth false) 0
        (record { result = asked.outcome; node = asked.node }) after (graph_of depth asked.limits_met) asked.started))
    -- A fault has its cause, and the cache keeps what it had.
    pub faults : IfErr came (IsCaused G X same after)
    pub keeps : KeepsAll same before after
