-- What the answers of questions are, one after another over one cache.
use Rattle.std.specs.Prelude.{◌≡◌, ℕ, ◌≤◌, max, Bool, true, false, List, [], ◌∷◌, Option, Ok, IfSome, IfOk, IfErr}
use Rattle.table_runs.specs.Below.{CxOf, DelegateOf, Builder, is_noop_of, started_in, Cache, NodeId, Memory, Outcome}
use Rattle.table_runs.specs.Below.{verdicts, HasGraph, IsDefinite, IsPlainTo, IsPlainValue, IsDecisive, AreDefinite}
use Rattle.table_runs.specs.Below.{Called, Graph, HasRun, HaveNoOverflow, IsPaid, IsCaused, first_accepted, usable}
use Rattle.table_runs.specs.Below.{KeepsFinished, KeepsResults, frames_within, Goal, IsSoundCache, Rules, questions_of}
use Rattle.search_context.specs.declared.context.Answer.{Answer}
use Rattle.line_texts.specs.Questions as asked
use Rattle.table_runs.specs.Told.{AnsweredQuestion, AreRight, IsChecked, is_fine, line_of}
use Rattle.table_runs.specs.declared.program.questions.Checks.{Checks}

-- the starts of frames are those that the builder counts, and it is a no-op if it was made as one
abbrev pub AreCountedStarts : (Builder → ℕ) → (Builder → Bool) → Type 0
AreCountedStarts starts noop =
    (builder : Builder) → (starts builder ≡ started_in builder) × (noop builder ≡ is_noop_of builder)

-- a call for the goal over the cache `before`, on this graph, that came to this answer
abbrev pub call_on : {C A T : Type 0} → (noop : Bool) → Goal → (before : Cache C Goal Outcome T) → Graph
    → (starts : ℕ) → Answer Outcome → (after : Cache C Goal Outcome T) → (left : Graph)
    → (now : ℕ) → Called C Goal Outcome A T
call_on noop goal before graph starts answer after left now = record {
  goal = goal;
  noop = noop;
  looks_up = noop;
  before = record { graph = graph; cache = before; starts = starts };
  result = Ok answer;
  after = record { graph = left; cache = after; starts = now };
}

module _ {D C V P F A T : Type 0} (G : DelegateOf D C V P F Goal Outcome A T) (X : CxOf C Goal Outcome A T)
    (same : Goal → Goal → Bool) (same_result : Outcome → Outcome → Bool) (checks : Checks) where
  -- The question was asked with its depth on a new graph over the cache `before`, with a new builder, and left the
  -- cache `after`. What it came to is what the search promises of such a call.
  pub record IsAnswered (before : Cache C Goal Outcome T) (answered : AnsweredQuestion)
      (after : Cache C Goal Outcome T) : Type 0 where
    -- A goal whose questions go no deeper than the depth, and that is orderly with all goals below
    -- it, has its plain value.
    pub plain : (n : ℕ) → IsPlainTo (G.script before.cx) n answered.question.1 → n ≤ answered.question.0
        → IfOk answered.came (λ told. IsPlainValue (G.script before.cx) n answered.question.1 told.outcome)
    pub plain_faults : (n : ℕ) → IsPlainTo (G.script before.cx) n answered.question.1 → n ≤ answered.question.0
        → IfErr answered.came (λ fault. fault ≡ Memory)
    -- The outcome has its graph, and is told as accepted if it is definite and graphs are checked.
    pub graph : IfOk answered.came
        (λ told. (node : Option NodeId) × HasGraph (verdicts X) after.nodes answered.question.1 told.outcome node)
    pub checked : IfOk answered.came (λ told. IsChecked (verdicts X) checks told.outcome told.check)
    -- A stored result that may be used is told, with no frame, unless it is to be validated.
    pub stored : G.scoped before.cx answered.question.1 ≡ false
        → IfSome (first_accepted (λ _. true) (usable same before.results answered.question.1 answered.question.0))
        (λ hit. IfOk answered.came (λ told. (told.outcome ≡ hit.result) × (told.started ≡ 0)))
    -- The frames are those that this question started.
    pub frames : IfOk answered.came
        (λ told. told.started ≤ frames_within (max 1 G.FIXPOINT_STEP_LIMIT) (G.width before.cx) answered.question.0)
    -- What is told is what the call came to, which was made so: `limits` says whether it met a limit, and the frames
    -- that are told are those that it started. The laws of calls say what else follows.
    pub limits : Bool
    pub ran : IfOk answered.came (λ told. (node : Option NodeId) × HasRun G X same same_result
        (call_on true answered.question.1 before (record { root_depth = answered.question.0; limits_met = false }) 0
        (record { result = told.outcome; node = node }) after
        (record { root_depth = answered.question.0; limits_met = limits }) told.started))
    pub decisive : IsDecisive (verdicts X) (G.script before.cx) → AreDefinite (verdicts X) same before.results
        → limits ≡ false → IfOk answered.came (λ told. IsDefinite (verdicts X) told.outcome)
    pub price : G.counts ≡ true → HaveNoOverflow same before.results → limits ≡ true
        → IfOk answered.came (λ told. IsPaid (max 1 G.FIXPOINT_STEP_LIMIT) answered.question.0 G.last 0 told.started)
    -- A fault has its cause, and the cache keeps what it had.
    pub faults : IfErr answered.came (IsCaused G X same after)
    pub same_context : after.cx ≡ before.cx
    pub kept_results : KeepsResults same before.results after.results
    pub kept : KeepsFinished before.nodes after.nodes

  -- The questions were answered in this order, each over the cache that the one before it left. Each of these caches is
  -- sound: its finished nodes are runs of their goals, and its stored results have their graphs.
  abbrev pub InTurn : Cache C Goal Outcome T → List AnsweredQuestion → Cache C Goal Outcome T → Type 0
  InTurn before [] after = before ≡ after
  InTurn before (first ∷ others) after =
      (between : Cache C Goal Outcome T) × IsAnswered before first between
      × IsSoundCache same (verdicts X) G.script between × InTurn between others after

  -- the first of them over an empty cache, and the last one left this cache
  abbrev pub LeaveCache : C → Cache C Goal Outcome T → List AnsweredQuestion → Type 0
  LeaveCache cx after answered = InTurn (record { cx = cx; nodes = []; results = [] }) answered after

  -- They were answered so, and by the rules alone each answer is right.
  pub record AreInTurn (cx : C) (answered : List AnsweredQuestion) : Type 0 where
    pub after : Cache C Goal Outcome T
    pub in_turn : LeaveCache cx after answered
    pub are_right : AreRight X cx answered

  -- All questions were answered in turn, and their lines were written; `all_fine` says that none met a fault and
  -- no graph was refused.
  abbrev pub AreAllTold : C → Rules → (old new : Option (List ℕ)) → (all_fine : Bool) → Type 0
  AreAllTold cx rules = asked.AreAllTold (line_of rules) is_fine (AreInTurn cx) (questions_of rules)

  -- the first questions were answered in turn, and a beginning of their lines was written
  abbrev pub AreFirstTold : C → Rules → (old new : Option (List ℕ)) → Type 0
  AreFirstTold cx rules = asked.AreFirstTold (line_of rules) is_fine (AreInTurn cx) (questions_of rules)
