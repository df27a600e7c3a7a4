-- Where two runs of a goal are enough, and what holds then of the answers of the goals under evaluation and
-- of the stored results.
use Rattle.std.specs.Prelude.{◌≡◌, ◌≢◌, ◌<◌, ◌≤◌, ◌⊎◌, ℕ, Bool, true, false, Contains, IsSome, List, [], ◌∷◌, map, None}
use Rattle.std.specs.Prelude.{Option, slice_get, Some}
use Rattle.std.specs.Option.{IfSome, IsSomeAnd}
use Rattle.run_records.specs.declared.runs.Fate.TheVariants as becomes
use Rattle.open_graphs.specs.Graph as theory
use Rattle.open_graphs.specs.Stack.{IsLeaf}
use Rattle.open_graphs.specs.Use as theory_use
use Rattle.two_runs.specs.Below.{Answer, CacheNode, counted_by, CxOf, DefiniteAnswer, DelegateOf, Entry, HasOneOfEach}
use Rattle.two_runs.specs.Below.{is_in_cycle, IsDecisive, IsDefinite, IsEnclosed, IsNodeOf, Lists, NestedPaths, NodeId}
use Rattle.two_runs.specs.Below.{OpenGoal, paths_at, ProvisionalCacheEntry, Reply, shapes_of, stack_of, Store}
use Rattle.two_runs.specs.Below.{stored_at, StoredResult, Success, verdict_of, verdict_shape, Verdicts, verdicts}
use Rattle.search_rules.specs.Calls.{Call}
use Rattle.search_rules.specs.Justified.{cycles_node, frames_of, OpenRun}
use Rattle.two_runs.specs.Kinds.{EntriesSuit}
use Rattle.two_runs.specs.Leads.{WalksToGoals}
use Rattle.two_runs.specs.Lone.{IsLone, LoneRequire, NoneIsLone}
use Rattle.two_runs.specs.Older.{HasEntry, HasNoOlder, IsStop, RestOnOlder}
use Rattle.search_rules.specs.Runs.{run_of, runs_of}

module _ {D C V P F I R A T : Type 0} (G : DelegateOf D C V P F I R A T) (X : CxOf C I R A T) (cx : C) where
  -- What makes two runs of a goal enough: scripts decide, and there is one yes and one no; no provisional entry
  -- is used, or goals that reach each other ask by one kind of step; a goal may be run twice; the goal is one of
  -- these, no question leads out of them, there is depth enough for them, and none is in a scope; and the
  -- builder does not record.
  pub record NeedsTwoRuns (goals : List I) (depth : ℕ) (goal : I) (noop : Bool) : Type 0 where
    pub decisive : IsDecisive (verdicts X) (G.script cx)
    pub one_of_each : HasOneOfEach (verdicts X)
    pub one_kind : EntriesSuit G.ENABLE_PROVISIONAL_CACHE (G.script cx)
    pub some_runs : 2 ≤ G.FIXPOINT_STEP_LIMIT
    pub enclosed : IsEnclosed (G.script cx) goals depth goal
    pub unscoped : (asked : I) → Contains goals asked → G.scoped cx asked ≡ false
    pub unrecorded : noop ≡ true

  -- it is known of the call that two runs of a goal are enough, that each stored result was yes or no, and
  -- that no limit was met
  pub record CallNeedsTwoRuns (call : Call I) (noop : Bool) : Type 0 where
    pub needs : NeedsTwoRuns call.goals call.root call.top noop
    pub all_definite : call.all_definite ≡ true
    pub unmet : call.limits_met ≡ false

module _ {I R : Type 0} (says : Verdicts R) (nodes : List (CacheNode I R)) where
  -- each node that a walk comes to is one at which walks stop, or its goal is one of which this holds
  abbrev pub LeadsOnly : (I → Type 0) → theory.Verdict → List Entry → ℕ → Type 0
  LeadsOnly Holds verdict stack a =
      (b q : ℕ) → theory.Walk (theory_use.Step (shapes_of says nodes) verdict stack) a q b
      → IsLeaf stack b ⊎ ((goal : I) → IsNodeOf nodes b goal → Holds goal)

-- the goal is not under evaluation
abbrev pub IsOff : {I R : Type 0} → List (OpenRun I R) → I → Type 0
IsOff [] goal = Unit {0}
IsOff (o ∷ below) goal = (goal ≢ o.goal) × IsOff below goal

-- the goal is nested, or lone
abbrev pub IsKnown : {I R T : Type 0} → (I → I → Bool)
    → Store I (StoredResult I R T) → NestedPaths I → I → Type 0
IsKnown same results nested goal = IsSome (paths_at same nested goal) ⊎ IsLone same results goal

module _ {X I R A T : Type 0} (same : I → I → Bool) (results : Store I (StoredResult I R T))
    (entries : Lists I (ProvisionalCacheEntry X I R A T)) where
  -- the goal knows the other one, which is not under evaluation and has no older entry
  pub record IsAside (o : OpenRun I R) (nested : NestedPaths I) (below : List (OpenRun I R)) (goal : I) : Type 0 where
    pub known : IsKnown same results nested goal
    pub off : IsOff (o ∷ below) goal
    pub no_older : HasNoOlder same entries o goal

  -- the same of the goal's own results, which may rest on the goal itself, too
  pub record IsBehind (o : OpenRun I R) (nested : NestedPaths I) (below : List (OpenRun I R)) (goal : I) : Type 0 where
    pub known : (goal ≡ o.goal) ⊎ IsKnown same results nested goal
    pub off : IsOff below goal
    pub no_older : HasNoOlder same entries o goal

module _ {I R T : Type 0} (says : Verdicts R) (same : I → I → Bool) (nodes : List (CacheNode I R))
    (results : Store I (StoredResult I R T)) where
  -- The graph of each success that is stored of these goals has goals alone that are nested in it or lone. And each
  -- lone goal of them requires no more depth than there are other lone goals.
  pub record AreSettled (goals : List I) : Type 0 where
    pub leads : (goal : I) (s : StoredResult I R T) → Contains goals goal
        → stored_at same results goal Success ≡ Some s → IfSome s.node
        (λ n. LeadsOnly says nodes (IsKnown same results s.nested_goals) (verdict_of says s.result.result) [] n.0)
    pub require : LoneRequire same results goals

  module _ {X A : Type 0} (entries : Lists I (ProvisionalCacheEntry X I R A T)) where
    -- What the goal's answers rest on, and what its provisional result rests on, before leaves and stops, are no
    -- goals under evaluation, and have no entries that are older than the goal; and the goal knows them: they are
    -- nested in it or lone.
    pub record StaysOff (o : OpenRun I R) (nested : NestedPaths I) (below : List (OpenRun I R)) : Type 0 where
      pub answers : (i : ℕ) (a : DefiniteAnswer I) → slice_get o.answers i ≡ Some a
          → counted_by o.ignored a.candidate ≡ true
          → WalksToGoals says nodes (IsStop same entries o) (IsAside same results entries o nested below)
          (verdict_shape a.verdict) (stack_of (frames_of says (o ∷ below))) a.edge.target
      pub earlier : (r : R) → o.provisional ≡ Some r → IsDefinite says r
          → WalksToGoals says nodes (IsStop same entries o) (IsBehind same results entries o nested below)
          (verdict_of says r) (stack_of (frames_of says below)) (cycles_node o)

    -- so is what the entry with this node rests on
    abbrev pub EntryStaysOff : OpenRun I R → NestedPaths I → List (OpenRun I R)
        → ProvisionalCacheEntry X I R A T → ℕ → Type 0
    EntryStaysOff o nested below entry =
        WalksToGoals says nodes (IsStop same entries o) (IsAside same results entries o nested below)
        (verdict_of says entry.result) (stack_of (frames_of says (o ∷ below)))

    module _ {F : Type 0} where
      -- The goal's answers stay off the goals under evaluation, and it is none of those below it; so do the entries
      -- that were made since it began, and before the goal above it did. It is nested in itself, or nothing is and it
      -- rests on no goal. Its first run is the one without a provisional result. Its result is to be stored.
      pub record IsSettledGoal (above : Option ℕ) (s : OpenGoal X F I R A T)
          (below : List (OpenGoal X F I R A T)) : Type 0 where
        pub off : StaysOff (run_of s) s.0.state.nested_goals (runs_of below)
        pub made : (goal : I) (entry : ProvisionalCacheEntry X I R A T) (node : ℕ)
            → HasEntry same entries goal entry node → cycles_node (run_of s) ≤ node
            → IfSome above (λ first. node < first)
            → EntryStaysOff (run_of s) s.0.state.nested_goals (runs_of below) entry node
        pub began : IfSome above (λ first. cycles_node (run_of s) < first)
        pub apart : IsOff (runs_of below) s.0.input
        pub itself : IsSome (paths_at same s.0.state.nested_goals s.0.input)
            ⊎ ((s.0.state.nested_goals ≡ []) × (is_in_cycle s.0.state ≡ false))
        pub first : s.0.state.provisional_result ≡ None → s.1.finished_runs ≡ 0
        pub stored : s.1.fate ≡ becomes.Stored

      -- this is so of all goals, of which the newest has one above it with this first node, or none
      abbrev pub AreSettledGoals : Option ℕ → List (OpenGoal X F I R A T) → Type 0
      AreSettledGoals above [] = Unit {0}
      AreSettledGoals above (s ∷ below) =
          IsSettledGoal above s below × AreSettledGoals (Some (cycles_node (run_of s))) below

      -- what holds between two moves
      pub record IsSettling (call : Call I) (goals : List (OpenGoal X F I R A T)) (met : Bool) : Type 0 where
        pub unmet : met ≡ false
        pub settled : AreSettled call.goals
        pub goals_are : AreSettledGoals None goals
        pub none_lone : NoneIsLone same results call.goals goals
        pub older : RestOnOlder same entries (map cycles_node (runs_of goals))

      -- the answer that the newest goal gets stays off the goals under evaluation, too
      abbrev pub AnswerStaysOff : List (OpenGoal X F I R A T) → Reply R → Option NodeId → Type 0
      AnswerStaysOff [] reply target = Unit {0}
      AnswerStaysOff (s ∷ below) reply target =
          (r : R) → reply ≡ Answer r → IsDefinite says r
          → IsSomeAnd target (λ n. WalksToGoals says nodes (IsStop same entries (run_of s))
          (IsAside same results entries (run_of s) s.0.state.nested_goals (runs_of below)) (verdict_of says r)
          (stack_of (frames_of says (runs_of (s ∷ below)))) n.0)
