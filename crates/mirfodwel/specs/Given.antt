-- What calls on sessions give.
use Rattle.std.specs.Prelude.{◌≡◌, ◌==◌, ◌↔◌, ◌⊎◌, ℕ, ◌<◌, ◌≤◌, if◌then◌else◌, Bool, List, Option, Some, None, IfErr}
use Rattle.std.specs.Prelude.{IfOk, IsTrue, OnOk}
use Rattle.search_context.specs.declared.context.NodeId.{NodeId}
use Rattle.search_context.specs.declared.context.Verdict.{Verdict}
use Rattle.search_context.specs.declared.context.Verdict.TheVariants as verdict
use Rattle.sessions.specs.Below.{HasGraph, KeepsNodes, No, Outcome, Yes, outcome_verdicts}
use Rattle.sessions.specs.Rules.{IsRightAnswer, scripts_of}
use Rattle.sessions.specs.Shown.{AreValidFor, AreWordsFrom}
use Rattle.mirfodwel.specs.Asked.{Came, IsTold}
use Rattle.mirfodwel.specs.Handed.{IsHandedOut}
use Rattle.mirfodwel.specs.Rows.{goals_in, nodes_in, rows_in}
use Rattle.mirfodwel.specs.declared.asking.Answer.{Answer}
use Rattle.mirfodwel.specs.declared.inside.Inside.{Inside}

-- The call is refused with this status: nothing was written.
pub record IsRefused {A : Type 0} (refusal : ℕ) (old new : List A) (before used status : ℕ) : Type 0 where
  pub is_refused : status ≡ refusal
  pub same_buffer : new ≡ old
  pub same_used : used ≡ before

-- What was asked for is there, and is handed out; or it is not there, or there was no memory.
pub data Gives {A : Type 0} (IsThere : Type 0) (Came : List A
    → Type 0) (old new : List A) (before used status : ℕ) : Type 0 where
  Given : IsThere → IsHandedOut (λ own_status all. (own_status ≡ 0) × Came all) old new used status
      → Gives IsThere Came old new before used status
  NotThere : (IsThere → ⊥) → IsRefused 7 old new before used status → Gives IsThere Came old new before used status
  NoMemory : IsRefused 4 old new before used status → Gives IsThere Came old new before used status

-- The words are those of the node's graph. Where a yes or a no has that graph, they show it.
pub record AreGraphOf (inside : Inside) (node : NodeId) (words : List ℕ) : Type 0 where
  pub are_its : AreWordsFrom (nodes_in inside) node.0 words
  pub shows_yes : (goal : ℕ) → HasGraph outcome_verdicts (nodes_in inside) goal Yes (Some node)
      → AreValidFor outcome_verdicts verdict.Yes (scripts_of (rows_in inside)) words goal
  pub shows_no : (goal : ℕ) → HasGraph outcome_verdicts (nodes_in inside) goal No (Some node)
      → AreValidFor outcome_verdicts verdict.No (scripts_of (rows_in inside)) words goal

-- the verdict of this number
abbrev pub verdict_of : ℕ → Option Verdict
verdict_of number = if number == 0 then Some verdict.Yes else (if number == 1 then Some verdict.No else None)

-- Words were judged: whether they are those of a graph that shows what the verdict says of the goal. Or there is no
-- such goal or verdict, or there was no memory.
pub data Judges (inside : Inside) (goal number : ℕ) (words : List ℕ) (was_valid is_valid : Bool)
    (status : ℕ) : Type 0 where
  Judged : (asked : Verdict) → verdict_of number ≡ Some asked → goal < goals_in inside → status ≡ 0
      → (IsTrue is_valid ↔ AreValidFor outcome_verdicts asked (scripts_of (rows_in inside)) words goal)
      → Judges inside goal number words was_valid is_valid status
  NoVerdict : verdict_of number ≡ None → status ≡ 7 → is_valid ≡ was_valid
      → Judges inside goal number words was_valid is_valid status
  NoSuchGoal : goals_in inside ≤ goal → status ≡ 7 → is_valid ≡ was_valid
      → Judges inside goal number words was_valid is_valid status
  OutOfMemory : status ≡ 4 → is_valid ≡ was_valid → Judges inside goal number words was_valid is_valid status

-- A yes or a no is right by the rows alone, and each outcome has its graph among the nodes. The graphs of earlier
-- answers stay.
pub record IsRightlyAsked (before : Inside) (goal : ℕ) (came : Came) (after : Inside) : Type 0 where
  pub right : IfOk came (λ asked. IsRightAnswer (rows_in before) (nodes_in after) goal asked.outcome asked.node)
  pub graph : IfOk came (λ asked. HasGraph outcome_verdicts (nodes_in after) goal asked.outcome asked.node)
  pub kept : KeepsNodes (nodes_in before) (nodes_in after)
  pub kept_graphs : (other : ℕ) (outcome : Outcome) (node : Option NodeId)
      → HasGraph outcome_verdicts (nodes_in before) other outcome node
      → HasGraph outcome_verdicts (nodes_in after) other outcome node
  pub same_rows : rows_in after ≡ rows_in before
  pub fault : IfErr came (λ fault. after.session.last_fault ≡ Some fault)
  pub no_fault : OnOk came (after.session.last_fault ≡ before.session.last_fault)

-- The goal was asked, and what it came to is told; or there is no such goal, and nothing was changed.
pub data Asks (Promised : Inside → Came → Inside → Type 0) (goal : ℕ) (before after : Inside) (answer told : Answer)
    (status : ℕ) : Type 0 where
  Told : goal < goals_in before → IsTold (λ came. Promised before came after) told status
      → Asks Promised goal before after answer told status
  NoGoal : goals_in before ≤ goal → after ≡ before → told ≡ answer → status ≡ 7
      → Asks Promised goal before after answer told status

-- The goal was asked anew, and a page shows what it came to: 1 says that it met a fault or its graph was refused. Or
-- there is no such goal or form, or there was no memory.
pub data Explains (Shown : List ℕ → Bool → Type 0) (inside : Inside) (form goal : ℕ) (old new : List ℕ)
    (before used status : ℕ)
    : Type 0 where
  Explained : form ≤ 2 → goal < goals_in inside
      → IsHandedOut (λ own_status page. (own_status ≤ 1) × Shown page (own_status == 0)) old new used status
      → Explains Shown inside form goal old new before used status
  NotAsked : (2 < form) ⊎ (goals_in inside ≤ goal) → IsRefused 7 old new before used status
      → Explains Shown inside form goal old new before used status
  BrokenOff : IsRefused 4 old new before used status → Explains Shown inside form goal old new before used status
