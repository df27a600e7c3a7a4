-- A question keeps the kinds of questions, and provisional entries apart from goals that are worked out; so a
-- question that no entry answers is of a goal without entries, and no goal that is nested in a stored result
-- that is used has one.
use Rattle.std.proofs.Common.{◌≡◌, ℕ, Bool, true, false, Contains, IsSome, List, [], None, Some, inr, refl, sym}
use Rattle.std.proofs.Common.{ap, subst}
use Rattle.global_cache.specs.Hits.{hit_at}
use Rattle.search_graph.specs.Reaching.{AsksNewest}
use Rattle.two_runs.specs.Evaluations.{HaveOneKind}
use Rattle.two_runs.specs.Below.{AvailableDepth, Cache, CacheNode, Call, CxOf, DelegateOf, entries_at, Evaluate}
use Rattle.two_runs.specs.Below.{first_accepted, first_entry, first_run, HasStepped, Hit, is_applicable, IsNew, IsRight}
use Rattle.two_runs.specs.Below.{Lists, NotesCandidate, OpenGoal, PathKind, paths_at, ProvisionalCacheEntry, Pushes}
use Rattle.two_runs.specs.Below.{Received, Request, Requests, Store, stored_at, StoredResult, Success, usable, verdicts}
use Rattle.search_state.specs.declared.evaluation.Evaluation.{Evaluation}
use Rattle.search_questions.specs.Words.{AskingLeadsTo, asking, ByEntry, ByStored, entry_for, OverCycle}
use Rattle.search_questions.specs.Words.{Pushed, Refused}
use Rattle.search_rules.specs.Calls.{CallIsEnclosed}
use Rattle.two_runs.specs.Kinds.{ReachesNested, StoredReachNested}
use Rattle.search_rules.specs.Provisional.{EntriesMetNone}
use Rattle.two_runs.proofs.settled.LoneGoals.{hit_of_answered, some_and}
use Rattle.two_runs.proofs.settled.SettledGoals.{used_success}
use Rattle.two_runs.proofs.kinds.ApartMoves.{answered_apart, noted_apart, ready_have_heads, stepped_apart, stored_apart}
use Rattle.two_runs.proofs.kinds.Moves.{cycle_keeps_kinds, entry_keeps_kinds, none_keeps_kinds, noted_keeps_kinds}
use Rattle.two_runs.proofs.kinds.Moves.{pushed_keeps_kinds, stepped_keeps_kinds, stored_keeps_kinds}
use Rattle.two_runs.proofs.kinds.StandingApart.{apart_none, apart_pushed}
use Rattle.two_runs.proofs.kinds.UsedEntries.{HaveHeads, none_in_used, none_where_unanswered}
use Rattle.search_graph.proofs.called.Reaching.{asks_newest}
use Rattle.search_rules.proofs.moves.Questions.{enclosed_refuses_none}
use Rattle.search_rules.proofs.moves.Moves.{enclosed_asks}

-- ---- a goal is pushed that has no entry

module _ {D C V P F I R A T : Type 0} (G : DelegateOf D C V P F I R A T) (X : CxOf C I R A T) (same : I → I → Bool)
    (cx : C) (call : Call I) (kind : PathKind) (goal : I) (depth : AvailableDepth) (nodes later : List (CacheNode I R))
    (results : Store I (StoredResult I R T)) (old new : List (OpenGoal C F I R A T))
    (entries : Lists I (ProvisionalCacheEntry C I R A T)) where
  pushed_keeps : AsksNewest (G.script cx) old kind goal → entries_at same entries goal ≡ []
      → Pushes G X cx goal kind depth nodes later old new → HaveOneKind G same cx call results old entries
      → HaveOneKind G same cx call results new entries
  pushed_keeps asks none pushes h =
      subst (λ l. HaveOneKind G same cx call results l entries) (sym pushes.is)
      (record {
        kinds = pushed_keeps_kinds (G.script cx) same G.ENABLE_PROVISIONAL_CACHE (
          first_entry goal kind depth pushes.own,
          first_run G X cx pushes.frame pushes.own pushes.becomes,
        ) old entries asks refl refl h.kinds;
        apart = apart_pushed same results (
          first_entry goal kind depth pushes.own,
          first_run G X cx pushes.frame pushes.own pushes.becomes,
        ) old entries none h.apart;
        reached = h.reached;
      })

-- ---- a question

module _ {D C V P F I R A T : Type 0} (G : DelegateOf D C V P F I R A T) (X : CxOf C I R A T) (same : I → I → Bool)
    (by_value : (x y : I) → same x y ≡ true → x ≡ y) (cx : C) (kind : PathKind) (goal : I) (old : Cache C I R T)
    (e : Evaluation D C V P F I R A T) (starts : ℕ) (call : Call I) (ahead : ℕ) (enclosed : CallIsEnclosed G X cx call)
    (asked : Requests G X same cx (Evaluate kind goal) call ahead old e starts) (right : IsRight G X same cx old e)
    (h : HaveOneKind G same cx call old.results e.goals e.provisional) where
  asks : AsksNewest (G.script cx) e.goals kind goal
  asks = asks_newest G X cx call ahead kind goal e.goals starts e.limits_met asked.asked

  have : HaveHeads same e.provisional
  have = ready_have_heads (verdicts X) same (G.script cx) old.nodes e.provisional e.goals right.ready

  calm : EntriesMetNone same e.provisional
  calm = asked.answers.met_none (inr enclosed)

  within : Contains call.goals goal
  within = enclosed_asks G X cx call ahead kind goal e.goals starts e.limits_met enclosed asked.asked

  -- that no entry answers is of a goal without entries
  pub asked_without_entries : entry_for G X same cx kind goal e ≡ None → entries_at same e.provisional goal ≡ []
  asked_without_entries = none_where_unanswered (G.script cx) same e.goals h.kinds.goals_are kind goal asks
      G.ENABLE_PROVISIONAL_CACHE e.provisional h.kinds have calm

  module _ (depth : AvailableDepth) (hit : Hit I R T)
      (found : first_accepted (is_applicable same (asking G X same cx kind goal e))
      (usable same old.results goal depth.0) ≡ Some hit) where
    success : (s : StoredResult I R T) × (stored_at same old.results goal Success ≡ Some s)
        × ((hit_at s.required_depth false s ≡ hit)
        × (is_applicable same (asking G X same cx kind goal e) hit.nested_goals ≡ true))
    success =
        some_and (stored_at same old.results goal Success) _
        (used_success (is_applicable same (asking G X same cx kind goal e)) depth.0 same old.results goal hit
        (asked.answers.store.overflow (inr enclosed) goal (inr within) depth.0) found)

    hit_reached : ReachesNested (G.script cx) same goal hit.nested_goals
    hit_reached = subst (λ (x : Hit I R T). ReachesNested (G.script cx) same goal x.nested_goals) success.2.0
        (h.reached goal success.0 within success.1)

    -- no goal that is nested in the stored result that answers it has an entry
    pub used_without_entries : (other : I) → IsSome (paths_at same hit.nested_goals other)
        → entries_at same e.provisional other ≡ []
    used_without_entries = none_in_used (G.script cx) same e.goals h.kinds.goals_are kind goal asks
        G.ENABLE_PROVISIONAL_CACHE e.provisional h.kinds have calm hit.nested_goals hit_reached by_value success.2.1

  -- whatever it comes to
  pub asked_keeps : (noop : Bool) (received : Received R) (new : Cache C I R T) (after : Evaluation D C V P F I R A T)
      (later : ℕ) → AskingLeadsTo G X same cx kind goal noop old e starts received new after later
      → HaveOneKind G same cx call new.results after.goals after.provisional
  asked_keeps noop received new after later (Refused goals none noted) =
      absurd (enclosed_refuses_none G X cx call ahead kind goal starts e.limits_met e.goals none enclosed asked.asked)
  asked_keeps noop received new after later (ByEntry depth entry goals at is takes nested) = record {
    kinds = entry_keeps_kinds (G.script cx) same G.ENABLE_PROVISIONAL_CACHE by_value e.goals goals kind goal asks
        e.provisional h.kinds entry 0 entry.encountered_overflow is takes nested;
    apart = answered_apart same old.results e.provisional e.goals goals kind 0
        entry.encountered_overflow entry.heads takes h.apart;
    reached = h.reached;
  }
  asked_keeps noop received new after later (ByStored depth hit goals at none is takes usable) = record {
    kinds = stored_keeps_kinds (G.script cx) same G.ENABLE_PROVISIONAL_CACHE by_value e.goals goals kind goal asks
        e.provisional h.kinds hit takes (hit_reached depth hit (hit_of_answered noop (G.scoped cx goal) _ hit is));
    apart = stored_apart same old.results e.provisional e.goals goals kind hit takes h.apart;
    reached = h.reached;
  }
  asked_keeps noop received new after later (OverCycle depth head given goals at none not_stored found closes) =
      record {
        kinds = cycle_keeps_kinds (G.script cx) same G.ENABLE_PROVISIONAL_CACHE by_value e.goals goals kind goal asks
            e.provisional h.kinds head _ closes.entry closes.is_at closes.of_goal 0 false closes.takes closes.nested;
        apart = answered_apart same old.results e.provisional e.goals goals kind 0 false _ closes.takes h.apart;
        reached = h.reached;
      }
  asked_keeps noop received new after later
      (Pushed depth goals held nodes now at none not_stored absent pushes fates holds fated one counted) =
      pushed_keeps G X same cx call kind goal depth old.nodes nodes old.results e.goals goals e.provisional asks
      (asked_without_entries none) pushes h

-- a call begins with a goal that is pushed
pub began_keeps : {D C V P F I R A T : Type 0} (G : DelegateOf D C V P F I R A T) (X : CxOf C I R A T)
    (same : I → I → Bool) (cx : C) (kind : PathKind) (goal : I) (old : Cache C I R T)
    (e : Evaluation D C V P F I R A T) (is_new : IsNew e) (depth : AvailableDepth)
    (goals : List (OpenGoal C F I R A T)) (nodes : List (CacheNode I R))
    → Pushes G X cx goal kind depth old.nodes nodes e.goals goals → (call : Call I)
    → StoredReachNested (G.script cx) same call.goals old.results
    → HaveOneKind G same cx call old.results goals e.provisional
began_keeps {C = C} {I = I} {R = R} {A = A} {T = T} G X same cx kind goal old e is_new
    depth goals nodes pushes call reached =
    let none : (other : I) → entries_at same e.provisional other ≡ [] =
    λ other. ap (λ (l : Lists I (ProvisionalCacheEntry C I R A T)). entries_at same l other) is_new.no_entries in
    pushed_keeps G X same cx call kind goal depth old.nodes nodes old.results e.goals goals e.provisional
    (subst (λ l. AsksNewest (G.script cx) l kind goal) (sym is_new.no_goals) tt) (none goal) pushes
    (subst (λ l. HaveOneKind G same cx call old.results l e.provisional) (sym is_new.no_goals)
    (record {
      kinds = none_keeps_kinds (G.script cx) same G.ENABLE_PROVISIONAL_CACHE e.provisional none;
      apart = apart_none same old.results [] e.provisional none;
      reached = reached;
    }))

-- the newest goal takes its step, and notes what it requested of candidates
pub noted_keeps : {D C V P F I R A T : Type 0} (G : DelegateOf D C V P F I R A T) (X : CxOf C I R A T)
    (same : I → I → Bool) (cx : C) (call : Call I) (given : Received R) (request : Request I R)
    (results : Store I (StoredResult I R T)) (old mid after : List (OpenGoal C F I R A T))
    (entries : Lists I (ProvisionalCacheEntry C I R A T))
    → HasStepped G X cx given request old mid → NotesCandidate request mid after
    → HaveOneKind G same cx call results old entries → HaveOneKind G same cx call results after entries
noted_keeps G X same cx call given request results old mid after entries s noted h = record {
  kinds = noted_keeps_kinds (G.script cx) same G.ENABLE_PROVISIONAL_CACHE entries request mid after noted
      (stepped_keeps_kinds G X cx same G.ENABLE_PROVISIONAL_CACHE entries old mid given request s h.kinds);
  apart = noted_apart same results entries request mid after noted
      (stepped_apart G X cx same results entries old mid given request s h.apart);
  reached = h.reached;
}
