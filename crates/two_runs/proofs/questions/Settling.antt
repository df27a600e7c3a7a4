-- Where two runs of a goal are enough, each move keeps what answers rest on off the goals under
-- evaluation, and meets no limit.
use Rattle.std.proofs.Common.{◌≡◌, ◌≤◌, ℕ, Bool, true, false, Contains, IsSome, List, [], ◌∷◌, ◌++◌, map, reverse}
use Rattle.std.proofs.Common.{Option, None, Some, slice_get, inr, refl, sym, ap, ap₂, ◌∙◌, subst, unwrap_or, arith}
use Rattle.std.specs.Option.{IfSome, IsSomeAnd}
use Rattle.std.specs.List.{list_any}
use Rattle.std.proofs.lemmas.List.Elements.{All-contains_itself}
use Rattle.std.proofs.lemmas.Option.{get_or_from_slice_get, slice_get_within}
use Rattle.run_records.specs.declared.runs.Fate.{Fate}
use Rattle.run_records.specs.declared.runs.Fate.TheVariants as becomes
use Rattle.graph_nodes.proofs.NodeLists.{Grown-appended, KeepsGoals-appended}
use Rattle.two_runs.specs.Evaluations.{EntriesSuitCall, Settles}
use Rattle.two_runs.specs.Below.{Answer, AvailableDepth, Begin, Cache, CacheNode, Call, CxOf, DelegateOf, entries_at}
use Rattle.two_runs.specs.Below.{Evaluate, fate_for, Fated, fates_of, first_accepted, Hit, is_applicable, IsLeaf}
use Rattle.two_runs.specs.Below.{IsRight, open_node, OpenGoal, path_kind_from, PathKind, paths_at}
use Rattle.two_runs.specs.Below.{ProvisionalCacheEntry, Pushes, Received, Requests, runs_of, stack_of, StackDepth}
use Rattle.two_runs.specs.Below.{StackEntry, stored_at, StoredResult, Success, usable, verdict_of, verdicts}
use Rattle.search_state.specs.declared.evaluation.Evaluation.{Evaluation}
use Rattle.search_questions.specs.Words.{AskingLeadsTo, asking, entry_for, ByEntry, ByStored, OverCycle}
use Rattle.search_questions.specs.Words.{Pushed, Refused}
use Rattle.search_questions.proofs.moves.Asking.{carried}
use Rattle.two_runs.proofs.questions.KeptEntries.{asked_keeps_entries, used_have_none}
use Rattle.two_runs.proofs.settled.SettledStores.{entries_apart}
use Rattle.two_runs.specs.Apart.{StandApart}
use Rattle.two_runs.specs.Older.{RestOnOlder}
use Rattle.two_runs.specs.Lone.{IsLone}
use Rattle.two_runs.specs.Settled.{AnswerStaysOff, AreSettled, AreSettledGoals, CallNeedsTwoRuns, IsKnown, IsOff}
use Rattle.two_runs.specs.Settled.{IsSettling, LeadsOnly}
use Rattle.search_rules.specs.Free.{IsFree}
use Rattle.search_rules.specs.Justified.{cycles_node, frames_of}
use Rattle.global_cache.specs.Hits.{hit_at}
use Rattle.search_rules.proofs.answers.Cycles.{head_is, head_leaf}
use Rattle.two_runs.proofs.settled.LoneGoals.{asked_not_lone, cycled_none_lone, hit_of_answered, provisional_none_lone}
use Rattle.two_runs.proofs.settled.LoneGoals.{pushed_none_lone, some_and, stored_none_lone}
use Rattle.two_runs.proofs.settled.OffStack.{narrowed}
use Rattle.two_runs.proofs.settled.OlderEntries.{all_stay}
use Rattle.search_rules.proofs.entries.Questions.{entry_is_one}
use Rattle.two_runs.proofs.settled.SettledGoals.{begin_stays_off, cycled_goals, entries_before, entry_goals}
use Rattle.two_runs.proofs.settled.SettledGoals.{entry_has_node, entry_stays_off, leaf_stays_off, newest_before}
use Rattle.two_runs.proofs.settled.SettledGoals.{none_on_stack, off_absent, off_lone, off_nested, pushed_goals}
use Rattle.two_runs.proofs.settled.SettledGoals.{pushed_older, stored_firsts, stored_goals, stored_stays_off}
use Rattle.two_runs.proofs.settled.SettledGoals.{taken_firsts, taken_stack, used_success}
use Rattle.two_runs.proofs.settled.SettledResults.{settled_grown}
use Rattle.search_rules.proofs.moves.Moves.{enclosed_asks}
use Rattle.search_rules.proofs.moves.Questions.{enclosed_refuses_none, may_ask_of}

-- an element of no list
none_there : {E : Type 0} (entries : List E) (entry : E) → entries ≡ [] → Contains entries entry → ⊥
none_there [] entry none has = (let within = has.1 in absurd (omega (arith, within)))
none_there (first ∷ entries) entry none has = absurd cc

-- a goal in no scope is stored, if the builder doesn't record
to_store : {I R T : Type 0} (noop in_scope : Bool) (found : Option (Hit I R T)) → noop ≡ true → in_scope ≡ false
    → fate_for noop in_scope found ≡ becomes.Stored
to_store noop in_scope found unrecorded unscoped = ap₂ (λ noop scoped. fate_for noop scoped found) unrecorded unscoped

module _ {D C V P F I R A T : Type 0} (G : DelegateOf D C V P F I R A T) (X : CxOf C I R A T) (same : I → I → Bool)
    (by_value : (x y : I) → same x y ≡ true → x ≡ y) (own : (x : I) → same x x ≡ true) (cx : C) (kind : PathKind)
    (goal : I) (old : Cache C I R T) (e : Evaluation D C V P F I R A T) (starts : ℕ)
    (call : Call I) (right : IsRight G X same cx old e)
    (h : IsSettling (verdicts X) same old.nodes old.results e.provisional call e.goals e.limits_met) where
  -- the goal is pushed
  module _ (depth : AvailableDepth) (goals : List (OpenGoal C F I R A T)) (nodes : List (CacheNode I R))
      (pushes : Pushes G X cx goal kind depth old.nodes nodes e.goals goals) (fate : Fate R)
      (fates : fates_of goals ≡ record { goal = goal; depth = depth.0; fate = fate } ∷ fates_of e.goals) where
    fate_is : pushes.becomes ≡ fate
    fate_is =
        let pushed : fates_of goals
        ≡ record { goal = goal; depth = depth.0; fate = pushes.becomes } ∷ fates_of e.goals = ap fates_of pushes.is in
        let both : record { goal = goal; depth = depth.0; fate = pushes.becomes } ∷ fates_of e.goals
        ≡ record { goal = goal; depth = depth.0; fate = fate } ∷ fates_of e.goals = sym pushed ∙ fates in
        let one : record { goal = goal; depth = depth.0; fate = pushes.becomes }
        ≡ record { goal = goal; depth = depth.0; fate = fate } = cc in
        ap (λ (f : Fated I R). f.fate) one

    pub pushed_settles : fate ≡ becomes.Stored → (IsLone same old.results goal → ⊥)
        → list_any (λ s. same goal s.0.input) e.goals ≡ false
        → IsSettling (verdicts X) same nodes old.results e.provisional call goals e.limits_met
    pushed_settles stored not_lone absent =
        let opened = old.nodes ++ open_node goal ∷ [] in
        let below =
        narrowed (verdicts X) same old.nodes opened (KeepsGoals-appended true old.nodes goal)
        (Grown-appended (verdicts X) true old.nodes goal) old.results old.results (λ g lone. lone) (λ node. Unit {0})
        e.provisional e.provisional (all_stay same e.provisional)
        e.goals pushes.own.0 (λ node. tt)
        (newest_before (verdicts X) old.nodes e.goals right.justified.supported pushes.own.0 pushes.place)
        h.goals_are in
        record {
          unmet = h.unmet;
          settled = subst (λ ns. AreSettled (verdicts X) same ns old.results call.goals) (sym pushes.opened)
              (settled_grown (verdicts X) same old.nodes opened (KeepsGoals-appended true old.nodes goal)
              (Grown-appended (verdicts X) true old.nodes goal) (runs_of e.goals)
              old.results right.free call.goals h.settled);
          goals_are = carried G X same cx kind goal old e starts depth goals nodes pushes
              (λ ns gs. AreSettledGoals (verdicts X) same ns old.results e.provisional None gs)
              (pushed_goals (verdicts X) same by_value opened old.results e.provisional goal kind depth pushes.own
              pushes.frame pushes.becomes e.goals (fate_is ∙ stored) (off_absent same own goal e.goals absent)
              (entries_before (verdicts X) same (G.script cx) old.nodes e.goals e.provisional
              right.ready pushes.own.0 pushes.place) below);
          none_lone = pushed_none_lone G X cx same old.results call.goals goal kind depth old.nodes nodes
              e.goals goals pushes not_lone h.none_lone;
          older = subst (λ gs. RestOnOlder same e.provisional (map cycles_node (runs_of gs))) (sym pushes.is)
              (pushed_older (verdicts X) same (G.script cx) old.nodes e.goals e.provisional right.ready
              right.justified.tallies pushes.own.0 h.older);
        }

module _ {D C V P F I R A T : Type 0} (G : DelegateOf D C V P F I R A T) (X : CxOf C I R A T) (same : I → I → Bool)
    (by_value : (x y : I) → same x y ≡ true → x ≡ y) (own : (x : I) → same x x ≡ true)
    (more : 2 ≤ G.DIVIDE_AVAILABLE_DEPTH_ON_OVERFLOW) (cx : C) (kind : PathKind) (goal : I) (old : Cache C I R T)
    (e : Evaluation D C V P F I R A T) (starts : ℕ)
    (call : Call I) (ahead : ℕ) (noop : Bool) (needs : CallNeedsTwoRuns G X cx call noop)
    (asked : Requests G X same cx (Evaluate kind goal) call ahead old e starts) (right : IsRight G X same cx old e)
    (h : IsSettling (verdicts X) same old.nodes old.results e.provisional call e.goals e.limits_met)
    (kept : EntriesSuitCall G same cx call old.results e.goals e.provisional) where
  apart : StandApart same old.results e.goals e.provisional
  apart = entries_apart G same cx call old.results e.goals e.provisional kept

  within : Contains call.goals goal
  within = enclosed_asks G X cx call ahead kind goal e.goals starts e.limits_met needs.needs.enclosed asked.asked

  -- ---- a stored result answers the question

  module _ (depth : AvailableDepth) (hit : Hit I R T)
      (found : first_accepted (is_applicable same (asking G X same cx kind goal e))
      (usable same old.results goal depth.0) ≡ Some hit) where
    success : (s : StoredResult I R T) × (stored_at same old.results goal Success ≡ Some s)
        × ((hit_at s.required_depth false s ≡ hit)
        × (is_applicable same (asking G X same cx kind goal e) hit.nested_goals ≡ true))
    success =
        some_and (stored_at same old.results goal Success) _
        (used_success (is_applicable same (asking G X same cx kind goal e)) depth.0 same old.results goal hit
        (asked.answers.store.overflow (inr needs.needs.enclosed) goal (inr within) depth.0) found)

    hit_leads : IfSome hit.node (λ n. LeadsOnly (verdicts X) old.nodes (IsKnown same old.results hit.nested_goals)
        (verdict_of (verdicts X) hit.result) [] n.0)
    hit_leads =
        subst (λ (x : Hit I R T). IfSome x.node (λ n. LeadsOnly (verdicts X) old.nodes
        (IsKnown same old.results x.nested_goals) (verdict_of (verdicts X) x.result) [] n.0)) success.2.0
        (h.settled.leads goal success.0 within success.1)

    hit_free : IsFree (verdicts X) old.nodes (runs_of e.goals) goal hit.result hit.node
    hit_free = subst (λ (x : Hit I R T). IsFree (verdicts X) old.nodes (runs_of e.goals) goal x.result x.node)
        success.2.0 (right.free goal Success success.0 success.1)

    hit_off : (other : I) → IsSome (paths_at same hit.nested_goals other) → IsOff (runs_of e.goals) other
    hit_off = off_nested same hit.nested_goals e.goals
        (none_on_stack same (asking G X same cx kind goal e) hit.nested_goals success.2.1)

  -- ---- the question closes a cycle

  module _ (head : StackDepth) (entry : StackEntry C I R A T)
      (is_at : slice_get (reverse (map (λ s. s.0) e.goals)) head.0 ≡ Some entry) where
    head_stops : IsSomeAnd entry.state.node (λ n. IsLeaf (stack_of (frames_of (verdicts X) (runs_of e.goals))) n.0)
    head_stops =
        let stack : List (StackEntry C I R A T) = reverse (map (λ s. s.0) e.goals) in
        head_leaf (verdicts X) old.nodes e.goals right.justified.supported head.0 entry
        (head_is (verdicts X) e.goals head.0 entry (slice_get_within stack head.0 entry is_at)
        (sym (get_or_from_slice_get stack head.0 entry entry is_at)))

  -- ---- a provisional entry answers it

  module _ (entry : ProvisionalCacheEntry C I R A T) (is : entry_for G X same cx kind goal e ≡ Some entry) where
    entry_there : Contains (entries_at same e.provisional goal) entry
    entry_there = entry_is_one same (asking G X same cx kind goal e) goal entry G.ENABLE_PROVISIONAL_CACHE is
        (Contains (entries_at same e.provisional goal)) (All-contains_itself (entries_at same e.provisional goal))

  nested_none : (depth : AvailableDepth) (hit : Hit I R T)
      → first_accepted (is_applicable same (asking G X same cx kind goal e)) (usable same old.results goal depth.0)
      ≡ Some hit → (other : I) → IsSome (paths_at same hit.nested_goals other)
      → entries_at same e.provisional other ≡ []
  nested_none =
      used_have_none G X same by_value cx kind goal old e starts call ahead needs.needs.enclosed asked right kept

  kept_then : (received : Received R) (new : Cache C I R T) (after : Evaluation D C V P F I R A T) (later : ℕ)
      → AskingLeadsTo G X same cx kind goal noop old e starts received new after later
      → EntriesSuitCall G same cx call new.results after.goals after.provisional
  kept_then = asked_keeps_entries G X same by_value cx kind goal old e starts call ahead
      needs.needs.enclosed asked right kept noop

  -- whatever the question comes to
  pub asked_settles : (received : Received R) (new : Cache C I R T) (after : Evaluation D C V P F I R A T) (later : ℕ)
      → AskingLeadsTo G X same cx kind goal noop old e starts received new after later
      → Settles G X same cx call received new after
  asked_settles received new after later (Refused goals none noted) = absurd (enclosed_refuses_none G X cx call ahead
      kind goal starts e.limits_met e.goals none needs.needs.enclosed asked.asked)
  asked_settles received new after later (ByEntry depth entry goals at is takes nested) = record {
    settling = record {
      unmet = h.unmet;
      settled = h.settled;
      goals_are = entry_goals (verdicts X) same by_value old.nodes old.results e.provisional e.goals goals kind 0
          entry.encountered_overflow entry.heads takes nested None h.goals_are;
      none_lone = provisional_none_lone same old.results call.goals e.goals goals kind 0 entry.encountered_overflow
          entry.heads takes nested h.none_lone;
      older = subst (RestOnOlder same e.provisional) (taken_firsts (verdicts X) same by_value old.nodes old.results
          e.provisional e.goals goals kind 0 entry.encountered_overflow entry.heads takes) h.older;
    };
    answer =
        entry_stays_off (verdicts X) same by_value old.nodes old.results e.provisional e.goals goals kind 0
        entry.encountered_overflow entry.heads takes nested goal entry refl (entry_there entry is)
        (entry_has_node (verdicts X) same (G.script cx) old.nodes e.goals e.provisional right.ready goal entry
        (entry_there entry is)) h.older h.goals_are;
    entries = kept_then received new after later (ByEntry depth entry goals at is takes nested);
  }
  asked_settles received new after later (ByStored depth hit goals at none is takes usable) =
      let found = hit_of_answered noop (G.scoped cx goal) _ hit is in
      record {
        settling = record {
          unmet = h.unmet;
          settled = h.settled;
          goals_are = stored_goals (verdicts X) same by_value old.nodes old.results e.provisional
              e.goals goals kind hit takes h.goals_are;
          none_lone = stored_none_lone G X cx call same old.results needs.needs.enclosed h.settled.require ahead kind
              goal e.goals goals starts e.limits_met depth.0 asked.asked asked.answers.store
              (is_applicable same (asking G X same cx kind goal e)) noop (G.scoped cx goal) hit is takes h.none_lone;
          older = subst (RestOnOlder same e.provisional) (stored_firsts (verdicts X) same by_value old.nodes old.results
              e.provisional e.goals goals kind hit takes) h.older;
        };
        answer =
            stored_stays_off (verdicts X) same by_value old.nodes old.results e.provisional e.goals goals kind hit takes
            (hit_off depth hit found) (off_lone same old.results call.goals e.goals h.none_lone)
            (λ other there entry has. none_there (entries_at same e.provisional other) entry
            (nested_none depth hit found other there) has) (λ other lone entry has. apart.not_lone other entry has lone)
            goal (runs_of e.goals) hit.result hit.node (hit_free depth hit found) (hit_leads depth hit found);
        entries = kept_then received new after later (ByStored depth hit goals at none is takes usable);
      }
  asked_settles received new after later (OverCycle depth head given goals at none not_stored found closes) = record {
    settling = record {
      unmet = h.unmet;
      settled = h.settled;
      goals_are = cycled_goals (verdicts X) same by_value old.nodes old.results e.provisional e.goals goals kind 0 false
          _ closes.takes None goal closes.nested h.goals_are;
      none_lone = cycled_none_lone same old.results call.goals e.goals goals kind 0 false _ goal
          closes.takes closes.nested h.none_lone;
      older = subst (RestOnOlder same e.provisional) (taken_firsts (verdicts X) same by_value old.nodes old.results
          e.provisional e.goals goals kind 0 false _ closes.takes) h.older;
    };
    answer =
        subst (λ (r : Received R).
        AnswerStaysOff (verdicts X) same old.nodes old.results e.provisional goals r.reply r.node) (sym closes.is)
        (leaf_stays_off (verdicts X) same by_value old.nodes old.results e.provisional goals
        (unwrap_or closes.entry.state.provisional_result (G.initial_result cx
        (path_kind_from (reverse (map (λ s. s.0) e.goals)) head.0 kind) goal)) closes.entry.state.node
        (λ definite. subst (λ stack. IsSomeAnd closes.entry.state.node (λ n. IsLeaf stack n.0))
        (taken_stack (verdicts X) same by_value old.nodes old.results e.provisional e.goals goals kind 0 false _
        closes.takes) (head_stops head closes.entry closes.is_at)));
    entries = kept_then received new after later (OverCycle depth head given goals at none not_stored found closes);
  }
  asked_settles received new after later
      (Pushed depth goals held nodes now at none not_stored absent pushes fates holds fated one counted) = record {
        settling =
            pushed_settles G X same by_value own cx kind goal old e starts call right h depth goals nodes pushes _
            fates (to_store noop (G.scoped cx goal) _ needs.needs.unrecorded (needs.needs.unscoped goal within))
            (asked_not_lone G X cx call same old.results needs.needs.enclosed h.settled.require ahead kind goal e.goals
            starts e.limits_met depth.0
            (may_ask_of G X cx call ahead kind goal starts e.limits_met more depth e.goals at)
            asked.asked h.none_lone (asking G X same cx kind goal e) noop (G.scoped cx goal) needs.needs.unrecorded
            (needs.needs.unscoped goal within) not_stored)
            absent;
        answer = begin_stays_off (verdicts X) same by_value nodes old.results e.provisional goals Begin None
            (λ r is. let clash : Begin ≡ Answer r = is in cc);
        entries = kept_then received new after later
            (Pushed depth goals held nodes now at none not_stored absent pushes fates holds fated one counted);
      }
