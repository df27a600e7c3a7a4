-- Goals under evaluation whose answers stay off them, through each change of the newest goal.
use Rattle.std.proofs.Common.{◌≡◌, ◌<◌, ◌||◌, if◌then◌else◌, nat_le, not, ℕ, Bool, true, false, Contains, List, [], ◌∷◌}
use Rattle.std.proofs.Common.{◌++◌, length, map, reverse, IsSome, Option, None, Some, is_some, refl, sym, ap, ◌∙◌}
use Rattle.std.proofs.Common.{subst, ◌⊎◌, inl, inr, arith}
use Rattle.std.specs.List.{list_any}
use Rattle.std.specs.Option.{IfSome, IsSomeAnd}
use Rattle.std.proofs.lemmas.Bool.{and_parts, cases_lt, false≢true, or_parts}
use Rattle.std.proofs.lemmas.List.{length-map}
use Rattle.std.proofs.lemmas.List.Elements.{All-contains}
use Rattle.std.proofs.lemmas.List.Sorted.{IsPermutation-reverse, list_any-IsPermutation}
use Rattle.run_records.specs.declared.runs.Fate.{Fate}
use Rattle.run_records.specs.declared.runs.Fate.TheVariants as becomes
use Rattle.open_graphs.specs.Graph as theory
use Rattle.open_graphs.specs.Stack.{IsLeaf}
use Rattle.goal_changes.specs.NestedGoals.{NestsItself, TakesHeadGoal, TakesNestedGoals}
use Rattle.goal_paths.specs.Nested.{JoinsPaths}
use Rattle.two_runs.specs.Below.{Answer, AnswersNewest, at_depth, AvailableDepth, CacheNode, entries_at, EntryState}
use Rattle.two_runs.specs.Below.{first_accepted, first_entry, Heads, Hit, is_in_cycle, IsDefinite, IsNodeOf, Lists}
use Rattle.two_runs.specs.Below.{NestedPaths, NestsAnswer, NestsHead, no_heads, no_record, NodeId, OpenGoal}
use Rattle.two_runs.specs.Below.{path_of_no_step, PathKind, paths_at, ProvisionalCacheEntry, Reply, Request, Run}
use Rattle.two_runs.specs.Below.{shapes_of, stack_of, StackDepth, StackEntry, Store, stored_at, StoredResult, Success}
use Rattle.two_runs.specs.Below.{TakesStored, usable, Use, verdict_of, Verdicts, with_depth}
use Rattle.two_runs.specs.Below.{with_nested_goals, WithOverflow}
use Rattle.global_cache.specs.Hits.{hit_at, overflows, successes}
use Rattle.search_rules.specs.Free.{IsFree}
use Rattle.search_rules.specs.Justified.{AreSupported, cycles_node, frames_of, HaveTallies, OpenRun}
use Rattle.two_runs.specs.Lone.{IsLone, NoneIsLone}
use Rattle.two_runs.specs.Leads.{HasSuchGoal, WalksToGoals}
use Rattle.two_runs.specs.Older.{HasEntry, IsStop, RestOnOlder}
use Rattle.two_runs.specs.Settled.{AnswerStaysOff, AreSettledGoals, IsAside, IsKnown, IsOff, LeadsOnly}
use Rattle.search_rules.specs.LookUp.{Asking, is_applicable}
use Rattle.search_rules.specs.Provisional.{AreReady, IsReady}
use Rattle.search_rules.specs.Runs.{run_of, runs_of}
use Rattle.search_rules.specs.Tallies.{Tally, tally_of}
use Rattle.search_rules.proofs.answers.Kept.{heads_come, taken_counts, taken_run}
use Rattle.two_runs.proofs.settled.Leading.{free_graph, leads_over, leads_weaker}
use Rattle.two_runs.proofs.settled.NestedGoals.{head_itself, head_stay, joins_here, joins_some, taken_come}
use Rattle.two_runs.proofs.settled.NestedGoals.{taken_itself, taken_stay}
use Rattle.two_runs.proofs.settled.OffStack.{AreBefore, aside_leads, goal_kept, GoesOn, off_new}
use Rattle.two_runs.proofs.settled.OneOfBoth.{leads_home}
use Rattle.two_runs.proofs.settled.OlderEntries.{all_stay, HasNone, head_below, known_entry, node_within}
use Rattle.two_runs.proofs.settled.StoppedWalks.{stops_here}
use Rattle.search_rules.proofs.justified.Justified.{no_tally}

-- ---- a stored result that is used

module _ {I R T : Type 0} (accepts : NestedPaths I → Bool) (depth : ℕ) where
  used_is : (success overflow : Option (StoredResult I R T)) (hit : Hit I R T) → overflow ≡ None
      → first_accepted accepts (successes depth success ++ overflows depth overflow) ≡ Some hit
      → IsSomeAnd success (λ s. (hit_at s.required_depth false s ≡ hit) × (accepts hit.nested_goals ≡ true))
  used_is None None hit none found = absurd cc
  used_is None (Some s) hit none found = absurd cc
  used_is (Some s) (Some t) hit none found = absurd cc
  used_is (Some s) None hit none found = by (nat_le s.required_depth depth) (accepts s.nested_goals) refl found
    where
      by : (fits accepted : Bool) → accepts s.nested_goals ≡ accepted
          → first_accepted accepts ((if fits then hit_at s.required_depth false s ∷ [] else []) ++ []) ≡ Some hit
          → (hit_at s.required_depth false s ≡ hit) × (accepts hit.nested_goals ≡ true)
      by false accepted is at = absurd cc
      by true true is at =
          let same_hit : Some (hit_at s.required_depth false s) ≡ Some hit =
          sym (ap (λ b. if b then Some (hit_at s.required_depth false s) else None) is) ∙ at in
          let one : hit_at s.required_depth false s ≡ hit = cc in
          (one, ap (λ (h : Hit I R T). accepts h.nested_goals) (sym one) ∙ is)
      by true false is at =
          let no_hit : None ≡ Some hit =
          sym (ap (λ b. if b then Some (hit_at s.required_depth false s) else None) is) ∙ at in
          absurd cc

  -- where no overflow result is stored of a goal, the success is, and its nested goals are accepted
  pub used_success : (same : I → I → Bool) (results : Store I (StoredResult I R T)) (goal : I) (hit : Hit I R T)
      → stored_at same results goal (WithOverflow depth) ≡ None
      → first_accepted accepts (usable same results goal depth) ≡ Some hit
      → IsSomeAnd (stored_at same results goal Success)
      (λ s. (hit_at s.required_depth false s ≡ hit) × (accepts hit.nested_goals ≡ true))
  used_success same results goal hit none found =
      used_is (stored_at same results goal Success) (stored_at same results goal (WithOverflow depth)) hit none found

not_is : (b : Bool) → not b ≡ true → b ≡ false
not_is true is = absurd cc
not_is false is = refl

-- it may be used only if no goal nested in it is on the stack
pub none_on_stack : {X I R A T : Type 0} (same : I → I → Bool) (asking : Asking X I R A T) (nested : NestedPaths I)
    → is_applicable same asking nested ≡ true
    → list_any (λ (e : StackEntry X I R A T). is_some (paths_at same nested e.input)) asking.stack ≡ false
none_on_stack same asking nested may =
    not_is (list_any (λ e. is_some (paths_at same nested e.input)) asking.stack) (and_parts _ _ may).0

-- ---- goals that are not under evaluation

module _ {X F I R A T : Type 0} where
  -- a goal that none of these is
  pub off_absent : (same : I → I → Bool) → ((x : I) → same x x ≡ true)
      → (goal : I) (items : List (OpenGoal X F I R A T))
      → list_any (λ s. same goal s.0.input) items ≡ false → IsOff (runs_of items) goal
  off_absent same own goal [] absent = tt
  off_absent same own goal (s ∷ below) absent =
      let parts = or_parts (same goal s.0.input) (list_any (λ t. same goal t.0.input) below) absent in
      (λ is. false≢true (sym parts.0 ∙ (ap (same goal) (sym is) ∙ own goal)), off_absent same own goal below parts.1)

  -- no lone goal is
  pub off_lone : (same : I → I → Bool) (results : Store I (StoredResult I R T)) (goals : List I)
      (items : List (OpenGoal X F I R A T))
      → NoneIsLone same results goals items → (goal : I) → IsLone same results goal → IsOff (runs_of items) goal
  off_lone same results goals [] none goal lone = tt
  off_lone same results goals (s ∷ below) none goal lone =
      (λ is. none.0 (subst (IsLone same results) is lone), off_lone same results goals below none.2 goal lone)

  -- nor is one that is nested in a result, if that is used over them
  off_nested_at : (same : I → I → Bool) (nested : NestedPaths I) (items : List (OpenGoal X F I R A T))
      → list_any (λ (e : StackEntry X I R A T). is_some (paths_at same nested e.input)) (map (λ s. s.0) items) ≡ false
      → (goal : I) → IsSome (paths_at same nested goal) → IsOff (runs_of items) goal
  off_nested_at same nested [] absent goal there = tt
  off_nested_at same nested (s ∷ below) absent goal there =
      let parts = or_parts (is_some (paths_at same nested s.0.input))
      (list_any (λ (e : StackEntry X I R A T). is_some (paths_at same nested e.input))
      (map (λ t. t.0) below)) absent in (
        λ is. false≢true (sym parts.0 ∙ subst (λ g. IsSome (paths_at same nested g)) is there),
        off_nested_at same nested below parts.1 goal there,
      )

  pub off_nested : (same : I → I → Bool) (nested : NestedPaths I) (items : List (OpenGoal X F I R A T))
      → list_any (λ (e : StackEntry X I R A T). is_some (paths_at same nested e.input)) (reverse (map (λ s. s.0) items))
      ≡ false → (goal : I) → IsSome (paths_at same nested goal) → IsOff (runs_of items) goal
  off_nested same nested items absent =
      off_nested_at same nested items
      (list_any-IsPermutation (λ (e : StackEntry X I R A T). is_some (paths_at same nested e.input))
      (map (λ s. s.0) items) (reverse (map (λ s. s.0) items)) (IsPermutation-reverse (map (λ s. s.0) items)) ∙ absent)

-- ---- the newest goal changes

module _ {X F I R A T : Type 0} (says : Verdicts R) (same : I → I → Bool)
    (by_value : (x y : I) → same x y ≡ true → x ≡ y) (nodes : List (CacheNode I R))
    (results : Store I (StoredResult I R T)) (entries : Lists I (ProvisionalCacheEntry X I R A T)) where
  -- what it counts, and what is nested in it
  module _ (entry : StackEntry X I R A T) (run : Run X F I R A T) (state : EntryState X I R A T) (tally : Tally)
      (below : List (OpenGoal X F I R A T))
      (run_is : run_of (record entry { state = state }, run) ≡ record (run_of (entry, run)) { tally = tally })
      (heads : (head : StackDepth) → IsSome (at_depth entry.state.heads head)
      → IsSome (at_depth tally.heads head)) where
    abbrev changed : OpenGoal X F I R A T
    changed = (record entry { state = state }, run)

    goes_on : GoesOn (run_of (entry, run)) (run_of changed)
    goes_on = subst (GoesOn (run_of (entry, run))) (sym run_is) (record {
      follows = record { goal_is = refl; first_is = refl; heads = heads };
      answers = λ i a at counts. (at, counts);
      provisional = refl;
    })

    newest_changed :
        (above : Option ℕ) → state.provisional_result ≡ entry.state.provisional_result
        → ((goal : I) → IsSome (paths_at same entry.state.nested_goals goal)
        → IsSome (paths_at same state.nested_goals goal)) → IsSome (paths_at same state.nested_goals entry.input)
        ⊎ ((state.nested_goals ≡ []) × (is_in_cycle state ≡ false))
        → AreSettledGoals says same nodes results entries above ((entry, run) ∷ below)
        → AreSettledGoals says same nodes results entries above (changed ∷ below)
    newest_changed above provisional grown itself h = (
      goal_kept says same nodes nodes (λ place goal is. is) (λ a v edges is. is) results results (λ goal lone. lone)
          (λ node. Unit {0}) entries entries (all_stay same entries) (entry, run) changed goes_on
          (λ node older. tt) grown below above above
          (λ node before. (tt, before))
          (subst (λ first. IfSome above (λ limit. first < limit)) (sym goes_on.follows.first_is) h.0.began) itself
          (λ none. h.0.first (sym provisional ∙ none)) h.0.stored h.0,
      subst (λ first. AreSettledGoals says same nodes results entries (Some first) below)
          (sym goes_on.follows.first_is) h.1,
    )

    -- what stayed off it does so still
    stays_aside : ((goal : I) → IsSome (paths_at same entry.state.nested_goals goal)
        → IsSome (paths_at same state.nested_goals goal)) → (v : theory.Verdict) (a : ℕ)
        → WalksToGoals says nodes (IsStop same entries (run_of (entry, run)))
        (IsAside same results entries (run_of (entry, run)) entry.state.nested_goals (runs_of below)) v
        (stack_of (frames_of says (runs_of ((entry, run) ∷ below)))) a
        → WalksToGoals says nodes (IsStop same entries (run_of changed))
        (IsAside same results entries (run_of changed) state.nested_goals (runs_of below)) v
        (stack_of (frames_of says (runs_of (changed ∷ below)))) a
    stays_aside grown =
        aside_leads says same nodes nodes (λ place goal is. is) (λ a v edges is. is) results results (λ goal lone. lone)
        (λ node. Unit {0}) entries entries (all_stay same entries) (run_of (entry, run))
        (run_of changed) goes_on.follows (λ node older. tt)
        entry.state.nested_goals state.nested_goals grown (runs_of below)

  module _ (old new : List (OpenGoal X F I R A T)) where
    module _ (step : PathKind) (required : ℕ) (overflow : Bool) (heads : Heads)
        (a : AnswersNewest step required overflow heads old new) where
      provisional_stays : a.state.provisional_result ≡ a.entry.state.provisional_result
      provisional_stays = ap (λ (s : EntryState X I R A T). s.provisional_result) a.takes.others

      carried : (P : List (OpenGoal X F I R A T) → List (OpenGoal X F I R A T) → Type 0) → P old new
          → P ((a.entry, a.run) ∷ a.below) ((record a.entry { state = a.state }, a.run) ∷ a.below)
      carried P h = subst (P ((a.entry, a.run) ∷ a.below)) a.is (subst (λ l. P l new) a.was h)

      -- the stack is the same
      pub taken_stack : stack_of (frames_of says (runs_of old)) ≡ stack_of (frames_of says (runs_of new))
      taken_stack =
          ap (λ l. stack_of (frames_of says (runs_of l))) a.was
          ∙ sym (ap (λ l. stack_of (frames_of says (runs_of l))) a.is
          ∙ ap (λ o. stack_of (frames_of says (o ∷ runs_of a.below)))
          (taken_run says nodes old new step required overflow heads a))

      -- and the first nodes
      pub taken_firsts : map cycles_node (runs_of old) ≡ map cycles_node (runs_of new)
      taken_firsts =
          ap (λ l. map cycles_node (runs_of l)) a.was
          ∙ sym (ap (λ l. map cycles_node (runs_of l)) a.is
          ∙ ap (λ o. cycles_node o ∷ map cycles_node (runs_of a.below))
          (taken_run says nodes old new step required overflow heads a))

      changed_newest : (above : Option ℕ) → ((goal : I) → IsSome (paths_at same a.entry.state.nested_goals goal)
          → IsSome (paths_at same a.state.nested_goals goal))
          → IsSome (paths_at same a.state.nested_goals a.entry.input)
          ⊎ ((a.state.nested_goals ≡ []) × (is_in_cycle a.state ≡ false))
          → AreSettledGoals says same nodes results entries above old
          → AreSettledGoals says same nodes results entries above new
      changed_newest above grown itself h =
          subst (AreSettledGoals says same nodes results entries above) (sym a.is)
          (newest_changed a.entry a.run a.state (tally_of a.state a.run.candidates) a.below
          (taken_run says nodes old new step required overflow heads a)
          (taken_counts says nodes old new step required overflow heads a).heads above provisional_stays grown itself
          (subst (AreSettledGoals says same nodes results entries above) a.was h))

      -- it takes over an answer with its nested goals, of which there are some if the answer has heads
      pub answered_goals : (above : Option ℕ) (nested : NestedPaths I) → (nested ≡ [] → heads ≡ [])
          → NestsAnswer same step nested old new → AreSettledGoals says same nodes results entries above old
          → AreSettledGoals says same nodes results entries above new
      answered_goals above nested none nests h =
          let was = subst (AreSettledGoals says same nodes results entries above) a.was h in
          let takes : TakesNestedGoals same a.entry.input step nested a.entry.state.nested_goals a.state.nested_goals =
          carried (NestsAnswer same step nested) nests in
          changed_newest above
          (taken_stay same by_value a.entry.input step nested a.entry.state.nested_goals a.state.nested_goals takes)
          (taken_itself same by_value a.entry.input step nested a.entry.state.nested_goals a.state.nested_goals heads
          (is_in_cycle a.entry.state) (is_in_cycle a.state) none a.takes.in_cycle takes was.0.itself) h

      -- or the head of a cycle that its question closed
      pub cycled_goals : (above : Option ℕ) (goal : I) → NestsHead same step goal old new
          → AreSettledGoals says same nodes results entries above old
          → AreSettledGoals says same nodes results entries above new
      cycled_goals above goal nests h =
          let takes : TakesHeadGoal same a.entry.input step goal a.entry.state.nested_goals a.state.nested_goals =
          carried (NestsHead same step goal) nests in
          changed_newest above
          (head_stay same by_value a.entry.input step goal a.entry.state.nested_goals a.state.nested_goals takes)
          (inl (head_itself same by_value a.entry.input step goal
          a.entry.state.nested_goals a.state.nested_goals takes)) h

      -- or a provisional entry, and is nested in itself then
      module _ (nests : NestsItself same old new) where
        itself_joins : JoinsPaths same a.entry.state.nested_goals a.state.nested_goals a.entry.input path_of_no_step
        itself_joins = carried (NestsItself same) nests

        nested_stay : (goal : I) → IsSome (paths_at same a.entry.state.nested_goals goal)
            → IsSome (paths_at same a.state.nested_goals goal)
        nested_stay = joins_some same by_value a.entry.state.nested_goals a.state.nested_goals
            a.entry.input path_of_no_step itself_joins

        pub entry_goals : (above : Option ℕ) → AreSettledGoals says same nodes results entries above old
            → AreSettledGoals says same nodes results entries above new
        entry_goals above = changed_newest above nested_stay (inl (joins_here same by_value a.entry.state.nested_goals
            a.state.nested_goals a.entry.input path_of_no_step itself_joins))

        -- which it doesn't see behind, if the entry is older, and else was made for it
        module _ (goal : I) (entry : ProvisionalCacheEntry X I R A T) (heads_are : entry.heads ≡ heads)
            (there : Contains (entries_at same entries goal) entry)
            (some : IsDefinite says entry.result → IsSome entry.node)
            (older : RestOnOlder same entries (map cycles_node (runs_of old)))
            (h : AreSettledGoals says same nodes results entries None old) where
          abbrev later : OpenGoal X F I R A T
          later = (record a.entry { state = a.state }, a.run)

          later_goes_on : GoesOn (run_of (a.entry, a.run)) (run_of later)
          later_goes_on = goes_on a.entry a.run a.state (tally_of a.state a.run.candidates) a.below
              (taken_run says nodes old new step required overflow heads a)
              (taken_counts says nodes old new step required overflow heads a).heads

          entry_leads : (node : ℕ) → HasEntry same entries goal entry node
              → WalksToGoals says nodes (IsStop same entries (run_of later))
              (IsAside same results entries (run_of later) a.state.nested_goals (runs_of a.below))
              (verdict_of says entry.result) (stack_of (frames_of says (runs_of (later ∷ a.below)))) node
          entry_leads node has = elim (cases_lt node (cycles_node (run_of (a.entry, a.run)))) [
            | inl before ↦
                stops_here (shapes_of says nodes) (verdict_of says entry.result)
                (stack_of (frames_of says (runs_of (later ∷ a.below)))) (IsStop same entries (run_of later))
                (HasSuchGoal nodes
                (IsAside same results entries (run_of later) a.state.nested_goals (runs_of a.below))) node
                (inr (record {
                  goal = goal;
                  entry = entry;
                  has = has;
                  older = subst (λ first. node < first) (sym later_goes_on.follows.first_is) before;
                  known = λ head recorded.
                      let began = subst (λ l. RestOnOlder same entries (map cycles_node (runs_of l))) a.was older
                      goal entry node has head recorded in
                      subst (λ (o : OpenRun I R). IsSome (at_depth o.tally.heads head))
                      (sym (taken_run says nodes old new step required overflow heads a))
                      (heads_come says nodes old new step required overflow heads a head
                      (λ own. let after =
                      began.0 (own ∙ sym (length-map (runs_of a.below) cycles_node ∙ length-map a.below run_of)) in
                      omega (arith, after, before))
                      (subst (λ hs. IsSome (at_depth hs head)) heads_are recorded));
                }))
            | inr since ↦
                stays_aside a.entry a.run a.state (tally_of a.state a.run.candidates) a.below
                (taken_run says nodes old new step required overflow heads a)
                (taken_counts says nodes old new step required overflow heads a).heads
                nested_stay (verdict_of says entry.result) node
                ((subst (AreSettledGoals says same nodes results entries None) a.was h).0.made goal entry
                node has since tt)
          ]

          pub entry_stays_off : AnswerStaysOff says same nodes results entries new (Answer entry.result) entry.node
          entry_stays_off =
              subst (λ l. AnswerStaysOff says same nodes results entries l (Answer entry.result) entry.node) (sym a.is)
              (λ other is definite. let one : entry.result ≡ other = cc in
              at entry.node refl (some (subst (IsDefinite says) (sym one) definite)) other one)
            where
              at : (o : Option NodeId) → entry.node ≡ o → IsSome o → (other : R) → entry.result ≡ other
                  → IsSomeAnd o (λ n. WalksToGoals says nodes (IsStop same entries (run_of later))
                  (IsAside same results entries (run_of later) a.state.nested_goals (runs_of a.below))
                  (verdict_of says other) (stack_of (frames_of says (runs_of (later ∷ a.below)))) n.0)
              at None is some other one = absurd (false≢true some)
              at (Some n) is some other one =
                  subst (λ x. WalksToGoals says nodes (IsStop same entries (run_of later))
                  (IsAside same results entries (run_of later) a.state.nested_goals (runs_of a.below))
                  (verdict_of says x) (stack_of (frames_of says (runs_of (later ∷ a.below)))) n.0) one
                  (entry_leads n.0 (record { there = there; node_is = is }))

    -- or a stored result
    module _ (step : PathKind) (hit : Hit I R T) (t : TakesStored same step hit old new) where
      pub stored_goals : AreSettledGoals says same nodes results entries None old
          → AreSettledGoals says same nodes results entries None new
      stored_goals h =
          let was = subst (AreSettledGoals says same nodes results entries None) t.was h in
          let state =
          with_nested_goals (with_depth t.entry.state hit.required_depth hit.encountered_overflow) t.nested in
          subst (AreSettledGoals says same nodes results entries None) (sym t.is)
          (newest_changed t.entry t.run state (tally_of t.entry.state t.run.candidates)
          t.below refl (λ head some. some) None refl
          (taken_stay same by_value t.entry.input step hit.nested_goals t.entry.state.nested_goals t.nested t.takes)
          (taken_itself same by_value t.entry.input step hit.nested_goals t.entry.state.nested_goals t.nested []
          (is_in_cycle t.entry.state) (is_in_cycle state) (λ none. refl)
          (or_nothing (is_in_cycle t.entry.state)) t.takes was.0.itself) was)
        where
          or_nothing : (b : Bool) → b ≡ (b || false)
          or_nothing true = refl
          or_nothing false = refl

      -- the first nodes are the same
      pub stored_firsts : map cycles_node (runs_of old) ≡ map cycles_node (runs_of new)
      stored_firsts = ap (λ l. map cycles_node (runs_of l)) t.was ∙ sym (ap (λ l. map cycles_node (runs_of l)) t.is)

      abbrev with_result : OpenGoal X F I R A T
      with_result = (
        record t.entry {
          state = with_nested_goals (with_depth t.entry.state hit.required_depth hit.encountered_overflow) t.nested;
        },
        t.run,
      )

      abbrev IsOffThen : I → Type 0
      IsOffThen = IsAside same results entries (run_of with_result) t.nested (runs_of t.below)

      abbrev LeadsThen : theory.Verdict → ℕ → Type 0
      LeadsThen v = WalksToGoals says nodes (IsStop same entries (run_of with_result)) IsOffThen v
          (stack_of (frames_of says (runs_of (with_result ∷ t.below))))

      module _ (off_nested : (goal : I) → IsSome (paths_at same hit.nested_goals goal) → IsOff (runs_of old) goal)
          (off_lone : (goal : I) → IsLone same results goal → IsOff (runs_of old) goal)
          (none_nested : (goal : I) → IsSome (paths_at same hit.nested_goals goal) → HasNone same entries goal)
          (none_lone : (goal : I) → IsLone same results goal → HasNone same entries goal) where
        off_known : (goal : I) → IsKnown same results hit.nested_goals goal → IsOffThen goal
        off_known goal (inl there) = record {
          known = inl (taken_come same by_value t.entry.input step hit.nested_goals
              t.entry.state.nested_goals t.nested t.takes goal there);
          off = subst (λ l. IsOff (runs_of l) goal) t.was (off_nested goal there);
          no_older = λ entry node has. absurd (none_nested goal there entry has.there);
        }
        off_known goal (inr alone) = record {
          known = inr alone;
          off = subst (λ l. IsOff (runs_of l) goal) t.was (off_lone goal alone);
          no_older = λ entry node has. absurd (none_lone goal alone entry has.there);
        }

        module _ (asked : I) (runs : List (OpenRun I R)) (r : R) (node : Option NodeId)
            (free : IsFree says nodes runs asked r node) (leads : IfSome node
            (λ n. LeadsOnly says nodes (IsKnown same results hit.nested_goals) (verdict_of says r) [] n.0)) where
          graph : IsDefinite says r → IsSomeAnd node (λ n. IsNodeOf nodes n.0 asked × Use (shapes_of says nodes)
              (verdict_of says r) (stack_of (frames_of says runs)) (λ depth. 0) 0 n.0 no_heads)
          graph = free.definite

          off_node : (o : Option NodeId)
              → IfSome o (λ n. LeadsOnly says nodes (IsKnown same results hit.nested_goals) (verdict_of says r) [] n.0)
              → IsSomeAnd o (λ n. IsNodeOf nodes n.0 asked × Use (shapes_of says nodes) (verdict_of says r)
              (stack_of (frames_of says runs)) (λ depth. 0) 0 n.0 no_heads) → (other : R) → r ≡ other
              → IsSomeAnd o (λ n. LeadsThen (verdict_of says other) n.0)
          off_node None leads some other is = absurd some
          off_node (Some n) leads some other is =
              subst (λ x. LeadsThen (verdict_of says x) n.0) is
              (leads_over says nodes IsOffThen (verdict_of says r)
              (stack_of (frames_of says (runs_of (with_result ∷ t.below)))) (IsStop same entries (run_of with_result))
              n.0 (free_graph says nodes runs (verdict_of says r) n.0 some.1)
              (leads_weaker says nodes (IsKnown same results hit.nested_goals) IsOffThen
              off_known (verdict_of says r) [] n.0 leads))

          -- whose graph stays off the goals, if its goals are nested in it or lone, and no such goal is under
          -- evaluation or has an entry
          pub stored_stays_off : AnswerStaysOff says same nodes results entries new (Answer r) node
          stored_stays_off =
              subst (λ l. AnswerStaysOff says same nodes results entries l (Answer r) node) (sym t.is)
              (λ other is definite. let one : r ≡ other = cc in
              off_node node leads (graph (subst (IsDefinite says) (sym one) definite)) other one)

  -- a goal that is found under evaluation answers by a node at which walks stop
  pub leaf_stays_off : (items : List (OpenGoal X F I R A T)) (r : R) (node : Option NodeId)
      → (IsDefinite says r → IsSomeAnd node (λ n. IsLeaf (stack_of (frames_of says (runs_of items))) n.0))
      → AnswerStaysOff says same nodes results entries items (Answer r) node
  leaf_stays_off [] r node leaf = tt
  leaf_stays_off (s ∷ below) r node leaf = λ other is definite.
      let one : r ≡ other = cc in
      at node other (leaf (subst (IsDefinite says) (sym one) definite))
    where
      at : (o : Option NodeId) (other : R)
          → IsSomeAnd o (λ n. IsLeaf (stack_of (frames_of says (runs_of (s ∷ below)))) n.0)
          → IsSomeAnd o (λ n. WalksToGoals says nodes (IsStop same entries (run_of s))
          (IsAside same results entries (run_of s) s.0.state.nested_goals (runs_of below)) (verdict_of says other)
          (stack_of (frames_of says (runs_of (s ∷ below)))) n.0)
      at None other h = absurd h
      at (Some n) other h = stops_here (shapes_of says nodes) (verdict_of says other)
          (stack_of (frames_of says (runs_of (s ∷ below)))) (IsStop same entries (run_of s)) (HasSuchGoal nodes
          (IsAside same results entries (run_of s) s.0.state.nested_goals (runs_of below))) n.0 (inl h)

  -- a reply that is no answer
  pub begin_stays_off : (items : List (OpenGoal X F I R A T)) (reply : Reply R) (node : Option NodeId)
      → ((r : R) → reply ≡ Answer r → ⊥) → AnswerStaysOff says same nodes results entries items reply node
  begin_stays_off [] reply node none = tt
  begin_stays_off (s ∷ below) reply node none = λ r is definite. absurd (none r is)

  -- ---- a goal is pushed

  pub pushed_goals :
      (goal : I) (kind : PathKind) (depth : AvailableDepth) (own : NodeId) (frame : F) (fate : Fate R)
      (items : List (OpenGoal X F I R A T)) → fate ≡ becomes.Stored → IsOff (runs_of items) goal
      → ((other : I) (entry : ProvisionalCacheEntry X I R A T) (node : ℕ) → HasEntry same entries other entry node
      → node < own.0) → AreSettledGoals says same nodes results entries (Some own.0) items
      → AreSettledGoals says same nodes results entries None ((
        first_entry goal kind depth own,
        record {
          frame = frame;
          node = own;
          progress = no_record;
          finished_runs = 0;
          met_overflow_before = false;
          candidates = [];
          fate = fate;
        },
      ) ∷ items)
  pushed_goals goal kind depth own frame fate items stored apart older h = (
    record {
      off = off_new says same nodes results entries goal kind own (Some own) None no_tally []
          (runs_of items) (λ r is definite. absurd cc);
      made = λ other entry node has since before.
          (let earlier = older other entry node has in absurd (omega (arith, since, earlier)));
      began = tt;
      apart = apart;
      itself = inr (refl, refl);
      first = λ none. refl;
      stored = stored;
    },
    h,
  )

-- the newest goal began before a node that is added
pub newest_before :
    {X F I R A T : Type 0} (says : Verdicts R) (nodes : List (CacheNode I R)) (goals : List (OpenGoal X F I R A T))
    → AreSupported says nodes (runs_of goals) → (own : ℕ) → own ≡ length nodes → AreBefore own goals
newest_before says nodes [] supported own at = tt
newest_before says nodes (s ∷ below) supported own at =
    let within = node_within nodes (cycles_node (run_of s)) s.0.input
    (leads_home nodes (run_of s) s.0.state.node supported.0.lead_home) in
    omega (arith, within, at)

-- entries rest on older goals, also where a goal is pushed
module _ {X F I R A T : Type 0} (says : Verdicts R) (same : I → I → Bool) (scripts : I → List (Reply R) → Request I R)
    (nodes : List (CacheNode I R)) (goals : List (OpenGoal X F I R A T))
    (entries : Lists I (ProvisionalCacheEntry X I R A T))
    (ready : AreReady says same scripts nodes (runs_of goals) entries) where
  pub pushed_older : HaveTallies (runs_of goals) → (own : ℕ)
      → RestOnOlder same entries (map cycles_node (runs_of goals))
      → RestOnOlder same entries (own ∷ map cycles_node (runs_of goals))
  pushed_older tallies own older goal entry node has head some = (
    (λ here.
        let lower = head_below says nodes (runs_of goals) tallies goal entry node
        (known_entry says same scripts nodes (runs_of goals) entries ready goal entry node has) head some in
        let long = length-map (runs_of goals) cycles_node in
        omega (arith, lower, here, long)),
    older goal entry node has head some,
  )

  -- and each entry is older than that goal
  pub entries_before : (own : ℕ) → own ≡ length nodes → (goal : I) (entry : ProvisionalCacheEntry X I R A T) (node : ℕ)
      → HasEntry same entries goal entry node → node < own
  entries_before own at goal entry node has =
      let within = node_within nodes node goal
      (known_entry says same scripts nodes (runs_of goals) entries ready goal entry node has).home in
      omega (arith, within, at)

  -- a definite one has a node
  pub entry_has_node : (goal : I) (entry : ProvisionalCacheEntry X I R A T)
      → Contains (entries_at same entries goal) entry → IsDefinite says entry.result → IsSome entry.node
  entry_has_node goal entry there definite = some_there entry.node _
      ((All-contains (IsReady says scripts nodes (runs_of goals) goal) (entries_at same entries goal) entry
      (ready goal) there).reusable.definite definite)
    where
      some_there : {N : Type 0} (o : Option N) (P : N → Type 0) → IsSomeAnd o P → IsSome o
      some_there None P at = absurd at
      some_there (Some n) P at = refl
