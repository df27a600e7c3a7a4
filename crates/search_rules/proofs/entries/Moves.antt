-- The provisional entries stay ready while a goal is pushed, and whatever the newest goal notes.
use Rattle.run_records.specs.declared.runs.Fate.{Fate}
use Rattle.std.proofs.Common.{◌≡◌, ℕ, Bool, false, List, [], ◌∷◌, ◌++◌, length, subst}
use Rattle.search_rules.specs.Below.{PathKind, Heads, DelegateOf, CxOf, NodeId, Request, Reply, AvailableDepth}
use Rattle.search_rules.specs.Below.{OpenGoal, ProvisionalCacheEntry, CacheNode, open_node, Hit, Lists, Received}
use Rattle.search_rules.specs.Below.{NotesCandidate, first_entry, AnswersNewest, TakesStored, NotesOverflow, no_record}
use Rattle.search_rules.specs.Below.{HasStepped, Verdicts, verdicts}
use Rattle.search_rules.specs.Words.{AreJustified, AreReady, runs_of}
use Rattle.search_rules.proofs.justified.Finishing.{stored_taken_same, overflow_noted_same}
use Rattle.search_rules.proofs.answers.Kept.{noted_keeps, pushed_keeps, stepped_keeps, taken_keeps}
use Rattle.search_rules.proofs.entries.Ready.{uses_kept_ready}

-- a goal is pushed
pub ready_pushed_goal : {X F I R A T : Type 0} (says : Verdicts R) (same : I → I → Bool)
    (scripts : I → List (Reply R) → Request I R) (nodes : List (CacheNode I R)) (input : I) (kind : PathKind)
    (depth : AvailableDepth) (own : NodeId) (frame : F) (becomes : Fate R) (goals : List (OpenGoal X F I R A T))
    (lists : Lists I (ProvisionalCacheEntry X I R A T)) → own.0 ≡ length nodes → AreJustified says nodes (runs_of goals)
    → AreReady says same scripts nodes (runs_of goals) lists
    → AreReady says same scripts (nodes ++ open_node input ∷ []) (runs_of ((
      first_entry input kind depth own,
      record {
        frame = frame;
        node = own;
        progress = no_record;
        finished_runs = 0;
        met_overflow_before = false;
        candidates = [];
        fate = becomes;
      },
    ) ∷ goals)) lists
ready_pushed_goal says same scripts nodes input kind depth own frame becomes goals lists at h =
    uses_kept_ready says same scripts nodes (nodes ++ open_node input ∷ []) (runs_of goals) (runs_of ((
      first_entry input kind depth own,
      record {
        frame = frame;
        node = own;
        progress = no_record;
        finished_runs = 0;
        met_overflow_before = false;
        candidates = [];
        fate = becomes;
      },
    ) ∷ goals)) lists
    (pushed_keeps says nodes input kind own (runs_of goals) at h)

module _ {X F I R A T : Type 0} (says : Verdicts R) (same : I → I → Bool) (scripts : I → List (Reply R) → Request I R)
    (nodes : List (CacheNode I R)) (lists : Lists I (ProvisionalCacheEntry X I R A T)) where
  -- what was requested of candidates was done
  pub noted_ready : (request : Request I R) (mid after : List (OpenGoal X F I R A T)) → NotesCandidate request mid after
      → AreReady says same scripts nodes (runs_of mid) lists → AreReady says same scripts nodes (runs_of after) lists
  noted_ready request mid after noted = uses_kept_ready says same scripts nodes nodes (runs_of mid) (runs_of after)
      lists (noted_keeps says nodes request mid after noted)

  module _ (old new : List (OpenGoal X F I R A T)) where
    -- the newest goal takes an answer over,
    pub ready_beside : (step : PathKind) (required : ℕ) (overflow : Bool) (answer : Heads)
        → AnswersNewest step required overflow answer old new → AreReady says same scripts nodes (runs_of old) lists
        → AreReady says same scripts nodes (runs_of new) lists
    ready_beside step required overflow answer a = uses_kept_ready says same scripts nodes nodes (runs_of old)
        (runs_of new) lists (taken_keeps says nodes old new step required overflow answer a)

    -- or a stored result,
    pub stored_taken_ready : (step : PathKind) (hit : Hit I R T) → TakesStored same step hit old new
        → AreReady says same scripts nodes (runs_of old) lists → AreReady says same scripts nodes (runs_of new) lists
    stored_taken_ready step hit t ready = subst (λ l. AreReady says same scripts nodes l lists)
        (stored_taken_same says nodes same old new step hit t) ready

    -- or notes a question that was refused
    pub overflow_noted_ready : NotesOverflow same old new → AreReady says same scripts nodes (runs_of old) lists
        → AreReady says same scripts nodes (runs_of new) lists
    overflow_noted_ready n ready =
        subst (λ l. AreReady says same scripts nodes l lists) (overflow_noted_same says nodes same old new n) ready

-- the newest goal's frame gets its reply, and makes a request
pub stepped_ready : {D C V P F I R A T : Type 0} (G : DelegateOf D C V P F I R A T) (X : CxOf C I R A T) (cx : C)
    (same : I → I → Bool) (scripts : I → List (Reply R) → Request I R) (nodes : List (CacheNode I R))
    (lists : Lists I (ProvisionalCacheEntry C I R A T)) (given : Received R) (request : Request I R)
    (old new : List (OpenGoal C F I R A T))
    → HasStepped G X cx given request old new → AreReady (verdicts X) same scripts nodes (runs_of old) lists
    → AreReady (verdicts X) same scripts nodes (runs_of new) lists
stepped_ready G X cx same scripts nodes lists given request old new s = uses_kept_ready (verdicts X) same scripts nodes
    nodes (runs_of old) (runs_of new) lists (stepped_keeps G X cx nodes given request old new s)
