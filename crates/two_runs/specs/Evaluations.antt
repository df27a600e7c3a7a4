-- What holds of an evaluation where two runs of a goal are enough.
use Rattle.std.specs.Prelude.{◌≡◌, Bool, false, List, []}
use Rattle.two_runs.specs.Below.{Cache, CacheNode, Call, CxOf, DelegateOf, entries_at, Lists, Next, OpenGoal}
use Rattle.two_runs.specs.Below.{ProvisionalCacheEntry, Received, Store, StoredResult, verdicts}
use Rattle.goal_changes.specs.declared.Next.TheVariants.{Finished, Step}
use Rattle.search_state.specs.declared.evaluation.Evaluation.{Evaluation}
use Rattle.two_runs.specs.Apart.{StandApart}
use Rattle.two_runs.specs.Kinds.{KeepsKinds, StoredReachNested, StoredSuit}
use Rattle.two_runs.specs.Settled.{AnswerStaysOff, AreSettled, IsSettling}

module _ {D C V P F I R A T : Type 0} (G : DelegateOf D C V P F I R A T)
    (same : I → I → Bool) (cx : C) (call : Call I) where
  -- goals under evaluation and provisional entries are linked by one kind of questions, the entries stand apart, and
  -- goals that are nested in stored successes are reached by their paths
  pub record HaveOneKind (results : Store I (StoredResult I R T)) (goals : List (OpenGoal C F I R A T))
      (entries : Lists I (ProvisionalCacheEntry C I R A T)) : Type 0 where
    pub kinds : KeepsKinds (G.script cx) same G.ENABLE_PROVISIONAL_CACHE goals entries
    pub apart : StandApart same results goals entries
    pub reached : StoredReachNested (G.script cx) same call.goals results

  -- no provisional entry is used, and there are none, or they are of one kind
  pub data EntriesSuitCall (results : Store I (StoredResult I R T)) (goals : List (OpenGoal C F I R A T))
      (entries : Lists I (ProvisionalCacheEntry C I R A T)) : Type 0 where
    NoneUsed : G.ENABLE_PROVISIONAL_CACHE ≡ false → ((goal : I) → entries_at same entries goal ≡ [])
        → EntriesSuitCall results goals entries
    OneKind : HaveOneKind results goals entries → EntriesSuitCall results goals entries

module _ {D C V P F I R A T : Type 0} (G : DelegateOf D C V P F I R A T) (X : CxOf C I R A T)
    (same : I → I → Bool) (cx : C) where
  -- the stored results of these goals are settled, and suit the provisional entries
  pub record IsSettledStore (goals : List I) (nodes : List (CacheNode I R))
      (results : Store I (StoredResult I R T)) : Type 0 where
    pub settled : AreSettled (verdicts X) same nodes results goals
    pub suit : StoredSuit G.ENABLE_PROVISIONAL_CACHE (G.script cx) same goals results

  module _ (call : Call I) where
    -- no limit was met, and what answers rest on stays off the goals under evaluation, also of the answer that the
    -- newest goal gets; and provisional entries suit this
    pub record Settles (received : Received R) (cache : Cache C I R T)
        (e : Evaluation D C V P F I R A T) : Type 0 where
      pub settling : IsSettling (verdicts X) same cache.nodes cache.results e.provisional call e.goals e.limits_met
      pub answer : AnswerStaysOff (verdicts X) same cache.nodes cache.results e.provisional
          e.goals received.reply received.node
      pub entries : EntriesSuitCall G same cx call cache.results e.goals e.provisional

    -- the same of what comes next; and of the stored results, once the call has its answer
    abbrev pub SettlesNext : Next R → Cache C I R T → Evaluation D C V P F I R A T → Type 0
    SettlesNext (Step given) cache e = Settles given cache e
    SettlesNext (Finished answer) cache e = IsSettledStore call.goals cache.nodes cache.results
