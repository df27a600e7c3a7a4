-- Goals under evaluation whose answers stay off them, once the newest goal is popped. What its walks stopped at, but
-- its parent's don't, are entries that were made since the parent began, of which it is known where they lead; and what
-- walks to the goal itself came to, leads on by the node of its result.
use Rattle.std.proofs.Common.{◌≡◌, ◌<◌, ◌≤◌, ℕ, Bool, true, List, [], ◌∷◌, map, IsSome, Option, None, Some, refl, sym}
use Rattle.std.proofs.Common.{ap, ◌∙◌, subst, ◌⊎◌, inl, inr, arith}
use Rattle.std.specs.Option.{IfSome, IsSomeAnd}
use Rattle.std.proofs.lemmas.Bool.{cases_lt, false≢true}
use Rattle.std.proofs.lemmas.List.{length-map}
use Rattle.open_graphs.specs.Graph as theory
use Rattle.open_graphs.specs.Stack.{IsLeaf}
use Rattle.open_graphs.specs.Use as theory_use
use Rattle.open_graphs.proofs.Keep.{leaf_cases}
use Rattle.goal_changes.specs.NestedGoals.{TakesNestedGoals}
use Rattle.two_runs.specs.Apart.{StandApart}
use Rattle.two_runs.specs.Lone.{IsLone}
use Rattle.two_runs.specs.Leads.{HasSuchGoal, StepOn, WalksToGoals}
use Rattle.two_runs.specs.Older.{BeganBefore, HasEntry, HasNoOlder, IsStop, RestOnOlder}
use Rattle.two_runs.specs.Settled.{AnswerStaysOff, AreSettledGoals, IsAside, IsBehind, IsKnown, IsOff}
use Rattle.two_runs.specs.Settled.{IsSettledGoal, LeadsOnly}
use Rattle.two_runs.specs.Below.{Answer, AnswersNewest, at_depth, CacheNode, heads_shape, IsDefinite, IsNodeOf, Lists}
use Rattle.two_runs.specs.Below.{NestsAnswer, NodeId, OpenGoal, path_kind, PathKind, paths_at, ProvisionalCacheEntry}
use Rattle.two_runs.specs.Below.{rank_of, Reply, Request, shapes_of, stack_of, Store, StoredResult, Use, UsesNo}
use Rattle.two_runs.specs.Below.{verdict_of, Verdicts}
use Rattle.search_rules.specs.Justified.{AreJustified, AreSupported, cycles_node, frame_of, frames_of, OpenRun}
use Rattle.search_rules.specs.Provisional.{AreReady}
use Rattle.search_rules.specs.Runs.{HasResultNode, run_of, runs_of}
use Rattle.search_rules.specs.Tallies.{tally_of}
use Rattle.search_rules.proofs.answers.Kept.{heads_come, taken_run}
use Rattle.two_runs.proofs.settled.Leading.{goals_later, leads_headless}
use Rattle.two_runs.proofs.settled.LeftEntries.{LeavesEntries}
use Rattle.two_runs.proofs.settled.NestedGoals.{taken_come}
use Rattle.two_runs.proofs.settled.OffStack.{goals_kept}
use Rattle.two_runs.proofs.settled.OlderEntries.{began_before, known_entry}
use Rattle.two_runs.proofs.settled.OneOfBoth.{leaf_of, off_at}
use Rattle.two_runs.proofs.settled.SettledGoals.{answered_goals, taken_firsts}
use Rattle.two_runs.proofs.settled.SettledRuns.{ends, grows, headless, leads, place_first}
use Rattle.two_runs.proofs.settled.StoppedWalks.{stops_here, unstopped, walks_as, walks_kept, walks_on}
use Rattle.search_rules.proofs.entries.LeftOver.{first_head}
use Rattle.search_rules.proofs.justified.Justified.{below_is_justified, popped, used_at}

module _ {X F I R A T : Type 0} (says : Verdicts R) (same : I → I → Bool)
    (by_value : (x y : I) → same x y ≡ true → x ≡ y) (scripts : I → List (Reply R) → Request I R)
    (nodes after : List (CacheNode I R)) (results later : Store I (StoredResult I R T))
    (stay : (goal : I) → IsLone same results goal → IsLone same later goal)
    (entries more : Lists I (ProvisionalCacheEntry X I R A T))
    (s : OpenGoal X F I R A T) (below : List (OpenGoal X F I R A T)) (h : AreJustified says nodes (runs_of (s ∷ below)))
    (ready : AreReady says same scripts nodes (runs_of (s ∷ below)) entries) (r : R) (target : Option NodeId)
    (ended : HasResultNode says nodes after s.0.state.provisional_result s.1.node s.0.state.node s.1.progress r target)
    (definite : IsDefinite says r)
    (apart : StandApart same results (s ∷ below) entries)
    (goals : AreSettledGoals says same nodes results entries None (s ∷ below))
    (older : RestOnOlder same entries (map cycles_node (runs_of (s ∷ below))))
    (again : (earlier : R) → s.0.state.provisional_result ≡ Some earlier → verdict_of says earlier ≡ verdict_of says r)
    (left : LeavesEntries same (cycles_node (run_of s)) s.0.input r entries more) where
  abbrev Left : I → Type 0
  Left = IsBehind same results entries (run_of s) s.0.state.nested_goals (runs_of below)

  abbrev place : ℕ
  place = (ends says same nodes after results entries s below h r target ended definite apart goals again).place

  goals_same : (node : ℕ) (goal : I) → IsNodeOf nodes node goal → IsNodeOf after node goal
  goals_same =
      (ends says same nodes after results entries s below h r target ended definite apart goals again).goals_kept

  nodes_grow : theory.Grown (shapes_of says nodes) (shapes_of says after)
  nodes_grow = grows says same nodes after results entries s below h r target ended definite apart goals again

  place_is : place ≡ cycles_node (run_of s)
  place_is = place_first says same nodes after results entries s below h r target ended definite apart goals again

  result_walks : WalksToGoals says after (IsStop same entries (run_of s)) Left (verdict_of says r)
      (stack_of (frames_of says (runs_of below))) place
  result_walks = leads says same nodes after results entries s below h r target ended definite apart goals again

  used : Use (shapes_of says after) (verdict_of says r) (stack_of (frames_of says (runs_of below)))
      (path_kind (stack_of (frames_of says (runs_of below))) (rank_of s.0.step_kind_from_parent))
      0 place (heads_shape s.0.state.heads)
  used =
      (popped says nodes after (run_of s) (runs_of below) h r target
      (ends says same nodes after results entries s below h r target ended definite apart goals again)).1 definite

  supported_below : AreSupported says after (runs_of below)
  supported_below = (below_is_justified says nodes after (run_of s) (runs_of below) h r target
      (ends says same nodes after results entries s below h r target ended definite apart goals again)).supported

  -- the goals below it
  below_goals : AreSettledGoals says same after later more (Some (cycles_node (run_of s))) below
  below_goals =
      goals_kept says same nodes after goals_same nodes_grow results later stay (λ node. node < cycles_node (run_of s))
      entries more left.stay below (Some (cycles_node (run_of s))) (λ node before. before) goals.1

  -- a node at which its walks stop is of none of these goals
  stop_past : (b : ℕ) → IsStop same entries (run_of s) b
      → (holds : (goal : I) → IsNodeOf nodes b goal → HasNoOlder same entries (run_of s) goal) → ⊥
  stop_past b stop holds =
      let since = holds stop.goal (known_entry says same scripts nodes (runs_of (s ∷ below)) entries ready stop.goal
      stop.entry b stop.has).home stop.entry b stop.has in
      let before = stop.older in
      omega (arith, since, before)

  -- where nothing is nested in it, and it rests on no goal, it is lone then
  module _ (lone : s.0.state.nested_goals ≡ [] → s.0.state.heads ≡ [] → IsLone same later s.0.input) where
    own_known : IsKnown same later s.0.state.nested_goals s.0.input
    own_known = elim goals.0.itself [ inl there ↦ inl there | inr w ↦ inr (lone w.0 (headless s.0 w.1)) ]

    left_known : (goal : I) → Left goal → IsKnown same later s.0.state.nested_goals goal
    left_known goal p = elim p.known [
      | inl own ↦ subst (IsKnown same later s.0.state.nested_goals) (sym own) own_known
      | inr known ↦ elim known [ inl there ↦ inl there | inr alone ↦ inr (stay goal alone) ]
    ]

    -- the graph of its result has goals alone that it knows, if it has no heads
    module _ (none : s.0.state.heads ≡ []) where
      no_stop : (b : ℕ) → IsStop same entries (run_of s) b → ⊥
      no_stop b stop =
          let head = first_head stop.entry.heads (known_entry says same scripts nodes (runs_of (s ∷ below)) entries
          ready stop.goal stop.entry b stop.has).some in
          absurd (false≢true (subst (λ heads. IsSome (at_depth heads head.0)) none (stop.known head.0 head.1)))

      over_none : LeadsOnly says after (IsKnown same later s.0.state.nested_goals) (verdict_of says r) [] place
      over_none =
          leads_headless says after (IsKnown same later s.0.state.nested_goals) (verdict_of says r)
          (stack_of (frames_of says (runs_of below))) (IsStop same entries (run_of s))
          (path_kind (stack_of (frames_of says (runs_of below))) (rank_of s.0.step_kind_from_parent))
          0 place (heads_shape s.0.state.heads)
          (subst (λ heads. (depth : ℕ) → UsesNo (heads_shape heads) depth) (sym none)
          (λ depth path cycle recorded. recorded.1 refl)) no_stop used
          (walks_kept (shapes_of says after) (shapes_of says after) (verdict_of says r) (λ a v edges is. is)
          (stack_of (frames_of says (runs_of below))) (stack_of (frames_of says (runs_of below)))
          (IsStop same entries (run_of s)) (IsStop same entries (run_of s)) (HasSuchGoal after Left)
          (HasSuchGoal after (IsKnown same later s.0.state.nested_goals))
          (λ b f holds goal is. left_known goal (holds goal is)) place result_walks (λ b leaf. leaf) (λ b stop. stop))

      pub result_known : IfSome target
          (λ n. LeadsOnly says after (IsKnown same later s.0.state.nested_goals) (verdict_of says r) [] n.0)
      result_known = at target ((ends says same nodes after results entries s below h r target ended definite
          apart goals again).definite definite)
        where
          at : (o : Option NodeId) → IsSomeAnd o (λ n. (n.0 ≡ place) × IsNodeOf after n.0 s.0.input) → IfSome o
              (λ n. LeadsOnly says after (IsKnown same later s.0.state.nested_goals) (verdict_of says r) [] n.0)
          at None there = absurd there
          at (Some n) there =
              subst (LeadsOnly says after (IsKnown same later s.0.state.nested_goals) (verdict_of says r) [])
              (sym there.0) over_none

    -- ---- the goal below it takes its answer over

    module _ (new : List (OpenGoal X F I R A T)) (step : PathKind) (required : ℕ) (overflow : Bool)
        (a : AnswersNewest step required overflow s.0.state.heads below new)
        (nests : NestsAnswer same step s.0.state.nested_goals below new)
        (ready_then : AreReady says same scripts after (runs_of new) more) where
      none_nested : s.0.state.nested_goals ≡ [] → s.0.state.heads ≡ []
      none_nested empty = elim goals.0.itself [
        | inl there ↦ absurd (false≢true (subst (λ n. IsSome (paths_at same n s.0.input)) empty there))
        | inr w ↦ headless s.0 w.1
      ]

      abbrev parent : OpenGoal X F I R A T
      parent = (record a.entry { state = a.state }, a.run)

      abbrev before : OpenGoal X F I R A T
      before = (a.entry, a.run)

      parent_settled : AreSettledGoals says same after later more (Some (cycles_node (run_of s))) (parent ∷ a.below)
      parent_settled =
          subst (AreSettledGoals says same after later more (Some (cycles_node (run_of s)))) a.is
          (answered_goals says same by_value after later more below new step required overflow s.0.state.heads a
          (Some (cycles_node (run_of s))) s.0.state.nested_goals none_nested nests below_goals)

      takes : TakesNestedGoals same a.entry.input step s.0.state.nested_goals
          a.entry.state.nested_goals a.state.nested_goals
      takes = subst (NestsAnswer same step s.0.state.nested_goals ((a.entry, a.run) ∷ a.below)) a.is
          (subst (λ l. NestsAnswer same step s.0.state.nested_goals l new) a.was nests)

      run_is : run_of parent ≡ record (run_of before) { tally = tally_of a.state a.run.candidates }
      run_is = taken_run says after below new step required overflow s.0.state.heads a

      same_first : cycles_node (run_of parent) ≡ cycles_node (run_of before)
      same_first = ap cycles_node run_is

      same_stack : stack_of (frames_of says (runs_of below)) ≡ stack_of (frames_of says (runs_of (parent ∷ a.below)))
      same_stack = ap (λ l. stack_of (frames_of says (runs_of l))) a.was
          ∙ ap (λ o. stack_of (frames_of says (o ∷ runs_of a.below))) (sym run_is)

      leaf_to : (b : ℕ) → IsLeaf (stack_of (frames_of says (runs_of below))) b
          → IsLeaf (stack_of (frames_of says (runs_of (parent ∷ a.below)))) b
      leaf_to b = subst (λ stack. IsLeaf stack b) same_stack

      abbrev Stops : ℕ → Type 0
      Stops = IsStop same more (run_of parent)

      abbrev Then : I → Type 0
      Then = IsAside same later more (run_of parent) a.state.nested_goals (runs_of a.below)

      abbrev LeadsThen : theory.Verdict → ℕ → Type 0
      LeadsThen v = WalksToGoals says after Stops Then v (stack_of (frames_of says (runs_of (parent ∷ a.below))))

      began : cycles_node (run_of parent) < cycles_node (run_of s)
      began = parent_settled.0.began

      off_to : (goal : I) → IsOff (runs_of below) goal → IsOff (runs_of (parent ∷ a.below)) goal
      off_to goal off =
          let there : IsOff (runs_of (before ∷ a.below)) goal = subst (λ l. IsOff (runs_of l) goal) a.was off in
          subst (λ (o : OpenRun I R). IsOff (o ∷ runs_of a.below) goal) (sym run_is) there

      -- what its own graph has is known to the goal below it
      parent_off : (goal : I) → Left goal → Then goal
      parent_off goal p = record {
        known = elim (left_known goal p) [
          | inl there ↦ inl (taken_come same by_value a.entry.input step s.0.state.nested_goals
              a.entry.state.nested_goals a.state.nested_goals takes goal there)
          | inr alone ↦ inr alone
        ];
        off = off_to goal p.off;
        no_older = λ entry node has. elim (cases_lt node (cycles_node (run_of parent))) [
          | inl earlier ↦
              let lower : node < cycles_node (run_of s) = let b = began in omega (arith, b, earlier) in
              let since = p.no_older entry node (left.stay.comes goal entry node has lower) in
              absurd (omega (arith, lower, since))
          | inr after ↦ after
        ];
      }

      -- where its walks stopped, those of the goal below it stop, or it is known where they lead
      from_stop : (v : theory.Verdict) (b : ℕ) → IsStop same entries (run_of s) b
          → IsLeaf (stack_of (frames_of says (runs_of (parent ∷ a.below)))) b
          ⊎ theory.IsFinished (shapes_of says after) v b → LeadsThen v b
      from_stop v b stop placed =
          let has : HasEntry same more stop.goal stop.entry b =
          left.stay.stays stop.goal stop.entry b stop.has stop.older in
          elim (cases_lt b (cycles_node (run_of parent))) [
            | inl earlier ↦
                stops_here (shapes_of says after) v (stack_of (frames_of says (runs_of (parent ∷ a.below)))) Stops
                (HasSuchGoal after Then) b
                (inr (record {
                  goal = stop.goal;
                  entry = stop.entry;
                  has = has;
                  older = earlier;
                  known = λ head some.
                      let rests : BeganBefore (map cycles_node (runs_of (before ∷ a.below))) head b =
                      subst (λ l. BeganBefore (map cycles_node (runs_of l)) head b) a.was
                      (older stop.goal stop.entry b stop.has head some).1 in
                      subst (λ (o : OpenRun I R). IsSome (at_depth o.tally.heads head)) (sym run_is)
                      (heads_come says after below new step required overflow s.0.state.heads a head
                      (λ own.
                      let later_than =
                      rests.0 (own ∙ sym (length-map (runs_of a.below) cycles_node ∙ length-map a.below run_of)) in
                      let sooner : b < cycles_node (run_of before) = subst (λ n. b < n) same_first earlier in
                      omega (arith, later_than, sooner))
                      (stop.known head some));
                }))
            | inr since ↦
                walks_as (shapes_of says after) (verdict_of says stop.entry.result) v
                (stack_of (frames_of says (runs_of (parent ∷ a.below)))) Stops (HasSuchGoal after Then) b placed
                (parent_settled.0.made stop.goal stop.entry b has since stop.older)
          ]

      -- what is reached over the goal below it is a leaf or finished
      placed_by : (v : theory.Verdict) (root : ℕ)
          → theory_use.OpenGraph (shapes_of says after) v (stack_of (frames_of says (runs_of (parent ∷ a.below)))) root
          → (b q : ℕ) → theory.Walk
          (StepOn (shapes_of says after) v (stack_of (frames_of says (runs_of (parent ∷ a.below)))) Stops) root q b
          → IsLeaf (stack_of (frames_of says (runs_of (parent ∷ a.below)))) b
          ⊎ theory.IsFinished (shapes_of says after) v b
      placed_by v root graph b q w = graph.placed b q
          (unstopped (shapes_of says after) v (stack_of (frames_of says (runs_of (parent ∷ a.below)))) Stops w)

      parent_leads : LeadsThen (verdict_of says r) place
      parent_leads =
          walks_on (shapes_of says after) (shapes_of says after) (verdict_of says r) (λ x v edges is. is)
          (stack_of (frames_of says (runs_of below))) (stack_of (frames_of says (runs_of (parent ∷ a.below))))
          (IsStop same entries (run_of s)) Stops (HasSuchGoal after Left) (HasSuchGoal after Then)
          (λ b f holds goal is. parent_off goal (holds goal is)) place result_walks
          (λ b f holds. (
            (λ leaf. let l = leaf_of after says (runs_of below) supported_below b leaf in
                off_at (runs_of below) l.run.goal (holds l.run.goal l.home).off l.index l.run l.at refl),
            (λ stop. stop_past b stop (λ goal is. (holds goal (goals_same b goal is)).no_older)),
          ))
          (λ b q w. λ end. elim end [
            | inl leaf ↦ stops_here (shapes_of says after) (verdict_of says r)
                (stack_of (frames_of says (runs_of (parent ∷ a.below)))) Stops
                (HasSuchGoal after Then) b (inl (leaf_to b leaf))
            | inr stop ↦ from_stop (verdict_of says r) b stop (placed_by (verdict_of says r) place
                (subst (λ stack. theory_use.OpenGraph (shapes_of says after) (verdict_of says r) stack place)
                same_stack used.open_graph) b q w)
          ])

      pub parent_stays_off : AnswerStaysOff says same after later more new (Answer r) target
      parent_stays_off =
          subst (λ l. AnswerStaysOff says same after later more l (Answer r) target) (sym a.is)
          (λ other is d.
          let one : r ≡ other = cc in
          subst (λ x. IsSomeAnd target (λ n. LeadsThen (verdict_of says x) n.0)) one
          (used_at says nodes after (run_of s) (runs_of below) h r target
          (ends says same nodes after results entries s below h r target ended definite apart goals again) target
          definite ((ends says same nodes after results entries s below h r target ended definite
          apart goals again).definite definite)
          (λ n. LeadsThen (verdict_of says r) n) (λ of_goal. parent_leads)))

      -- ---- the entries that were made since the goal itself began

      module _ (goal : I) (entry : ProvisionalCacheEntry X I R A T) (node : ℕ)
          (has : HasEntry same more goal entry node) where
        abbrev v : theory.Verdict
        v = verdict_of says entry.result

        entry_graph : theory_use.OpenGraph (shapes_of says after) v
            (stack_of (frames_of says (runs_of (parent ∷ a.below)))) node
        entry_graph =
            subst (λ l. theory_use.OpenGraph (shapes_of says after) v (stack_of (frames_of says (runs_of l))) node) a.is
            (known_entry says same scripts after (runs_of new) more ready_then goal entry
            node has).holds.use_there.open_graph

        entry_placed : (b q : ℕ) → theory.Walk
            (StepOn (shapes_of says after) v (stack_of (frames_of says (runs_of (parent ∷ a.below)))) Stops) node q b
            → IsLeaf (stack_of (frames_of says (runs_of (parent ∷ a.below)))) b
            ⊎ theory.IsFinished (shapes_of says after) v b
        entry_placed = placed_by v node entry_graph

        kept_leads : WalksToGoals says nodes (IsStop same entries (run_of s))
            (IsAside same results entries (run_of s) s.0.state.nested_goals (runs_of below)) v
            (stack_of (frames_of says (runs_of (s ∷ below)))) node → LeadsThen v node
        kept_leads made =
            walks_on (shapes_of says nodes) (shapes_of says after) v nodes_grow
            (stack_of (frames_of says (runs_of (s ∷ below)))) (stack_of (frames_of says (runs_of (parent ∷ a.below))))
            (IsStop same entries (run_of s)) Stops
            (HasSuchGoal nodes (IsAside same results entries (run_of s) s.0.state.nested_goals (runs_of below)))
            (HasSuchGoal after Then)
            (goals_later says nodes after goals_same
            (IsAside same results entries (run_of s) s.0.state.nested_goals (runs_of below)) Then
            (λ g p. parent_off g (record { known = inr p.known; off = p.off.1; no_older = p.no_older })) v) node made
            (λ b f holds. (
              (λ leaf. let l = leaf_of nodes says (runs_of (s ∷ below)) h.supported b leaf in
                  off_at (runs_of (s ∷ below)) l.run.goal (holds l.run.goal l.home).off l.index l.run l.at refl),
              (λ stop. stop_past b stop (λ g is. (holds g is).no_older)),
            ))
            (λ b q w. λ end. elim end [
              | inl leaf ↦ elim (leaf_cases (stack_of (frames_of says (runs_of below)))
                  (frame_of says (run_of s)).entry b leaf) [
                    | inl lower ↦
                        stops_here (shapes_of says after) v
                        (stack_of (frames_of says (runs_of (parent ∷ a.below)))) Stops
                        (HasSuchGoal after Then) b (inl (leaf_to b lower))
                    | inr here ↦ walks_as (shapes_of says after) (verdict_of says r) v
                        (stack_of (frames_of says (runs_of (parent ∷ a.below)))) Stops (HasSuchGoal after Then) b
                        (entry_placed b q w) (subst (LeadsThen (verdict_of says r)) (place_is ∙ here) parent_leads)
                  ]
              | inr stop ↦ from_stop v b stop (entry_placed b q w)
            ])

        since_leads : cycles_node (run_of s) ≤ node → LeadsThen v node
        since_leads since = elim (left.since goal entry node has since) [
          | inl was ↦
              kept_leads
              (subst (λ x. WalksToGoals says nodes (IsStop same entries (run_of s))
              (IsAside same results entries (run_of s) s.0.state.nested_goals (runs_of below)) (verdict_of says x)
              (stack_of (frames_of says (runs_of (s ∷ below)))) node) was.2
              (goals.0.made goal was.0 node was.1 since tt))
          | inr own ↦ subst (λ x. LeadsThen (verdict_of says x) node) (sym own.2)
              (subst (LeadsThen (verdict_of says r)) (place_is ∙ sym own.1) parent_leads)
        ]

      widened : IsSettledGoal says same after later more (Some (cycles_node (run_of s))) parent a.below
          → IsSettledGoal says same after later more None parent a.below
      widened g = record {
        off = g.off;
        made = λ goal entry node has since always. elim (cases_lt node (cycles_node (run_of s))) [
          | inl earlier ↦ g.made goal entry node has since earlier
          | inr afterwards ↦ since_leads goal entry node has afterwards
        ];
        began = tt;
        apart = g.apart;
        itself = g.itself;
        first = g.first;
        stored = g.stored;
      }

      pub parent_goals : AreSettledGoals says same after later more None new
      parent_goals = subst (AreSettledGoals says same after later more None) (sym a.is)
          (widened parent_settled.0, parent_settled.1)

      -- and entries rest on older goals
      pub popped_older : RestOnOlder same more (map cycles_node (runs_of new))
      popped_older =
          subst (RestOnOlder same more)
          (taken_firsts says same by_value after later more below new step required overflow s.0.state.heads a)
          (λ goal entry node has head some. elim (cases_lt node (cycles_node (run_of s))) [
            | inl earlier ↦ (older goal entry node (left.stay.comes goal entry node has earlier) head some).1
            | inr afterwards ↦
                began_before says same after later more (cycles_node (run_of s)) below below_goals node afterwards head
          ])
