-- A goal's later run says what the run before it said, so it needs no third one.
use Rattle.std.proofs.Common.{◌≡◌, ◌≢◌, ◌≤◌, ◌↔◌, ℕ, zero, suc, Bool, true, false, IsTrue, List, [], ◌∷◌, Option, None}
use Rattle.std.proofs.Common.{Some, option_map, Result, Err, refl, sym, ap, ◌∙◌, subst, inl, inr, arith}
use Rattle.std.specs.Option.{IfSome, IsSomeAnd}
use Rattle.open_graphs.specs.Graph as theory
use Rattle.open_graphs.proofs.Keep.{growth_keeps_use}
use Rattle.open_graphs.proofs.Runs.{answered_grows}
use Rattle.open_graphs.proofs.States.{verdict_cases}
use Rattle.graph_nodes.proofs.NodeLists.{AreRuns-ended}
use Rattle.search_context.proofs.Rules.{KeepsRule}
use Rattle.two_runs.specs.Below.{AreRuns, CacheNode, edges_of, EndedRun, entries_at, heads_shape, HeadUsages}
use Rattle.two_runs.specs.Below.{IsDefinite, IsNodeOf, Lists, Neither, No, NodeId, OpenGoal, Overlap, path_kind}
use Rattle.two_runs.specs.Below.{PathKind, ProvisionalCacheEntry, Question, rank_of, RebaseReason, Reply, Request}
use Rattle.two_runs.specs.Below.{shapes_of, stack_of, Store, StoredResult, Use, Verdict, verdict_of, verdict_shape}
use Rattle.two_runs.specs.Below.{Verdicts, with_run, Yes}
use Rattle.search_rules.specs.EndOfRun.{IsEndOfRun, Limited, Repeats, Stable, Unused}
use Rattle.search_rules.specs.Justified.{AreJustified, cycles_node, frame_of, frames_of, LeadToGoals, OpenRun}
use Rattle.search_rules.specs.Runs.{EndsNewest, EndsRun, HasResultNode, run_of, runs_of}
use Rattle.two_runs.specs.Leads.{WalksToGoals}
use Rattle.two_runs.specs.Apart.{StandApart}
use Rattle.search_rules.specs.Claims.{HasOneOfEach}
use Rattle.two_runs.specs.Older.{HasEntry, IsStop}
use Rattle.two_runs.specs.Settled.{AreSettledGoals, IsBehind, IsOff}
use Rattle.search_rules.specs.Provisional.{AreReady}
use Rattle.search_rules.specs.declared.end_of_run.Unstable.{Unstable}
use Rattle.search_rules.specs.declared.end_of_run.Unstable.TheVariants.{Again, AtLimit}
use Rattle.two_runs.proofs.settled.OffStack.{behind_leads, own_no_older, result_leads}
use Rattle.two_runs.proofs.settled.OlderEntries.{all_stay, follows_itself, known_entry, same_entry, same_node}
use Rattle.two_runs.proofs.settled.OneOfBoth.{HaveDistinctGoals, off_at, one_goal, one_of_both}
use Rattle.search_rules.proofs.records.LeanNodes.{node_by}
use Rattle.lean_runs.proofs.LeanRuns.{told_for_itself}
use Rattle.search_rules.proofs.justified.Finishing.{answers_placed, ends_run, open_for_run, rebases}
use Rattle.lean_runs.proofs.Verdicts.{neither_is, verdict_is}
use Rattle.search_rules.proofs.justified.Justified.{below_is_justified, EndsWithNode, no_answers, popped}

-- the verdict of a result that is not both yes and no
record IsSorted (y n : Bool) : Type 0 where
  verdict : Verdict
  yes : (verdict ≡ Yes) ↔ IsTrue y
  no : (verdict ≡ No) ↔ IsTrue n

sorted : (y n : Bool) → (y ≡ true → n ≡ false) → IsSorted y n
sorted true true one = absurd (let clash = one refl in cc)
sorted true false one =
    record { verdict = Yes; yes = (λ is. refl, λ is. refl); no = (λ is. absurd cc, λ is. absurd cc) }
sorted false true one = record { verdict = No; yes = (λ is. absurd cc, λ is. absurd cc); no = (λ is. refl, λ is. refl) }
sorted false false one =
    record { verdict = Neither; yes = (λ is. absurd cc, λ is. absurd cc); no = (λ is. absurd cc, λ is. absurd cc) }

module _ {X F I R A T : Type 0} (says : Verdicts R) (same : I → I → Bool) (nodes : List (CacheNode I R))
    (results : Store I (StoredResult I R T)) (entries : Lists I (ProvisionalCacheEntry X I R A T)) where
  -- no two of the goals are the same
  distinct_goals : (above : Option ℕ) (goals : List (OpenGoal X F I R A T))
      → AreSettledGoals says same nodes results entries above goals → HaveDistinctGoals (runs_of goals)
  distinct_goals above [] h i j o p at at' is = absurd (no_answers i o at)
  distinct_goals above (s ∷ below) h zero zero o p at at' is = refl
  distinct_goals above (s ∷ below) h zero (suc j) o p at at' is = let one : run_of s ≡ o = cc in
      absurd (off_at (runs_of below) s.0.input h.0.apart j p at' (sym is ∙ ap (λ (x : OpenRun I R). x.goal) (sym one)))
  distinct_goals above (s ∷ below) h (suc i) zero o p at at' is = let one : run_of s ≡ p = cc in
      absurd (off_at (runs_of below) s.0.input h.0.apart i o at (is ∙ ap (λ (x : OpenRun I R). x.goal) (sym one)))
  distinct_goals above (s ∷ below) h (suc i) (suc j) o p at at' is =
      ap suc (distinct_goals (Some (cycles_node (run_of s))) below h.1 i j o p at at' is)

module _ {X F I R A T : Type 0} (says : Verdicts R) (one_sort : (r : R) → says.is_yes r ≡ true → says.is_no r ≡ false)
    (scripts : I → List (Reply R) → Request I R) (nodes : List (CacheNode I R)) (runs : AreRuns says scripts nodes)
    (proves refutes : I → List (Question I) → Type 0)
    (clash : (goal : I) (held failed : List (Question I)) → proves goal held
    → refutes goal failed → Overlap held failed)
    (yes_is_proved : KeepsRule says.is_yes scripts proves) (no_is_refuted : KeepsRule says.is_no scripts refutes)
    (same : I → I → Bool) (results : Store I (StoredResult I R T)) (s : OpenGoal X F I R A T)
    (below : List (OpenGoal X F I R A T))
    (entries : Lists I (ProvisionalCacheEntry X I R A T)) (h : AreJustified says nodes (runs_of (s ∷ below)))
    (ready : AreReady says same scripts nodes (runs_of (s ∷ below)) entries)
    (apart : StandApart same results (s ∷ below) entries)
    (goals : AreSettledGoals says same nodes results entries None (s ∷ below)) (r : R)
    (came : EndsNewest says scripts (s ∷ below) r) (definite : IsDefinite says r)
    (earlier : R) (was : s.0.state.provisional_result ≡ Some earlier) (definite_then : IsDefinite says earlier) where
  run_ended : EndsRun says scripts nodes s.1.node s.1.progress r
  run_ended = ends_run says nodes nodes s.0 s.1 below h scripts r came

  run_placed : LeadToGoals nodes s.1.progress.answers
  run_placed = answers_placed says nodes nodes s.0 s.1 below h

  sort : IsSorted (says.is_yes r) (says.is_no r)
  sort = sorted (says.is_yes r) (says.is_no r) (one_sort r)

  some_verdict : sort.verdict ≢ Neither
  some_verdict neither = definite (neither_at (says.is_yes r) (says.is_no r) refl refl)
    where
      neither_at : (y n : Bool) → says.is_yes r ≡ y → says.is_no r ≡ n → verdict_of says r ≡ theory.Neither
      neither_at true n is_yes is_no = let clashing : Neither ≡ Yes = sym neither ∙ sort.yes.1 is_yes in absurd cc
      neither_at y true is_yes is_no = let clashing : Neither ≡ No = sym neither ∙ sort.no.1 is_no in absurd cc
      neither_at false false is_yes is_no = neither_is says r (record { not_yes = is_yes; not_no = is_no })

  shape_is : verdict_shape sort.verdict ≡ verdict_of says r
  shape_is = verdict_is says r sort.verdict sort.yes sort.no some_verdict

  -- the run's node as it would be finished
  abbrev ended_run : EndedRun I R
  ended_run = record { replies = s.1.progress.replies; edges = edges_of s.1.progress sort.verdict; outcome = r }

  abbrev after : List (CacheNode I R)
  after = with_run nodes s.1.node.0 ended_run

  module _ (differ : verdict_of says earlier ≢ verdict_of says r) where
    has_node : HasResultNode says nodes after s.0.state.provisional_result s.1.node
        s.0.state.node s.1.progress r (Some s.1.node)
    has_node =
        node_by says scripts nodes s.1.node run_ended.goal run_ended.is_open s.1.progress r sort.verdict s.1.progress
        (told_for_itself says (scripts run_ended.goal) nodes s.1.node.0 s.1.progress sort.verdict r run_ended.ends)
        sort.yes sort.no some_verdict run_ended s.0.state.provisional_result s.0.state.node
        (λ again. differ (let both : Some (verdict_of says earlier) ≡ Some (verdict_shape sort.verdict) =
        ap (option_map (verdict_of says)) (sym was) ∙ again in
        let one : verdict_of says earlier ≡ verdict_shape sort.verdict = cc in one ∙ shape_is))
        after refl

    run_ends : EndsWithNode says nodes after (run_of s) (runs_of below) r (Some s.1.node)
    run_ends = rebases says nodes after s.0 s.1 below h r (Some s.1.node) has_node

    grows : theory.Grown (shapes_of says nodes) (shapes_of says after)
    grows = answered_grows (shapes_of says nodes) (frame_of says (run_of s)).entry (run_of s).own run_ends.edges
        (verdict_of says r) h.sound.running.0.unfinished run_ends.answered

    abbrev kind_from : ℕ → ℕ
    kind_from = path_kind (stack_of (frames_of says (runs_of below))) (rank_of s.0.step_kind_from_parent)

    used_now : Use (shapes_of says after) (verdict_of says r) (stack_of (frames_of says (runs_of below))) kind_from 0
        run_ends.place (heads_shape s.0.state.heads)
    used_now = (popped says nodes after (run_of s) (runs_of below) h r (Some s.1.node) run_ends).1 definite

    abbrev Stops : ℕ → Type 0
    Stops = IsStop same entries (run_of s)

    abbrev Left : I → Type 0
    Left = IsBehind same results entries (run_of s) s.0.state.nested_goals (runs_of below)

    leads_now : WalksToGoals says after Stops Left (verdict_of says r)
        (stack_of (frames_of says (runs_of below))) run_ends.place
    leads_now =
        result_leads says same nodes after results entries (run_of s) (runs_of below) h r (Some s.1.node) run_ends
        s.0.state.nested_goals goals.0.off goals.0.apart (own_no_older same results entries s below apart) definite

    home_now : IsNodeOf after run_ends.place s.0.input
    home_now = let there = run_ends.definite definite in subst (λ n. IsNodeOf after n s.0.input) there.0 there.1

    before : (verdict : theory.Verdict) → verdict_of says earlier ≡ verdict
        → Use (shapes_of says nodes) verdict (stack_of (frames_of says (runs_of below))) kind_from 0
        (cycles_node (run_of s)) (frame_of says (run_of s)).heads_before
    before verdict is = h.sound.running.0.earlier verdict (λ neither. definite_then (is ∙ neither))
        (ap (option_map (verdict_of says)) was ∙ ap Some is)

    used_then : Use (shapes_of says after) (verdict_of says earlier) (stack_of (frames_of says (runs_of below)))
        kind_from 0 (cycles_node (run_of s)) (frame_of says (run_of s)).heads_before
    used_then = growth_keeps_use (shapes_of says nodes) (shapes_of says after) (verdict_of says earlier)
        (stack_of (frames_of says (runs_of below))) kind_from 0 (cycles_node (run_of s))
        (frame_of says (run_of s)).heads_before grows (before (verdict_of says earlier) refl)

    leads_then : WalksToGoals says after Stops Left (verdict_of says earlier)
        (stack_of (frames_of says (runs_of below))) (cycles_node (run_of s))
    leads_then =
        behind_leads says same nodes after run_ends.goals_kept grows results results (λ goal lone. lone)
        (λ node. Unit {0}) entries entries (all_stay same entries) (run_of s) (run_of s)
        (follows_itself (run_of s)) (λ node older. tt)
        s.0.state.nested_goals s.0.state.nested_goals (λ goal there. there) (runs_of below) (verdict_of says earlier)
        (cycles_node (run_of s)) (goals.0.off.earlier earlier was definite_then)

    home_then : IsNodeOf after (cycles_node (run_of s)) s.0.input
    home_then = at s.0.state.node h.supported.0.lead_home
      where
        at : (lead : Option NodeId) → IsSomeAnd lead (λ n. IsNodeOf nodes n.0 s.0.input)
            → IsNodeOf after (elim lead [ None ↦ s.1.node.0 | Some n ↦ n.0 ]) s.0.input
        at None there = absurd there
        at (Some n) there = run_ends.goals_kept n.0 s.0.input there

    runs_then : AreRuns says scripts after
    runs_then = AreRuns-ended says scripts nodes s.1.node.0 ended_run (open_for_run says scripts nodes s.1.node
        s.1.progress r run_ended run_placed sort.verdict sort.yes sort.no some_verdict) runs

    -- a node at which walks stop has the goal of its entry,
    stop_goal : (n : ℕ) (stop : Stops n) (goal : I) → IsNodeOf after n goal → stop.goal ≡ goal
    stop_goal n stop goal is = one_goal after n stop.goal goal (run_ends.goals_kept n stop.goal (known_entry says same
        scripts nodes (runs_of (s ∷ below)) entries ready stop.goal stop.entry n stop.has).home) is

    -- which is none of these goals, and has no other entry
    past : (goal : I) → Left goal → (n : ℕ) → Stops n → IsNodeOf after n goal → ⊥
    past goal left n stop is =
        let later = left.no_older stop.entry n
        (subst (λ g. HasEntry same entries g stop.entry n) (stop_goal n stop goal is) stop.has) in
        let older = stop.older in
        omega (arith, later, older)

    stop_off : (n : ℕ) → Stops n → (goal : I) → IsNodeOf after n goal → IsOff (runs_of below) goal
    stop_off n stop goal is =
        subst (IsOff (runs_of below)) (stop_goal n stop goal is) (apart.off stop.goal stop.entry stop.has.there).1

    stop_same : (x y : ℕ) → Stops x → Stops y → (goal : I) × IsNodeOf after x goal × IsNodeOf after y goal → x ≡ y
    stop_same x y stop other alike =
        let there : HasEntry same entries alike.0 stop.entry x =
        subst (λ g. HasEntry same entries g stop.entry x) (stop_goal x stop alike.0 alike.1) stop.has in
        let here : HasEntry same entries alike.0 other.entry y =
        subst (λ g. HasEntry same entries g other.entry y) (stop_goal y other alike.0 alike.2) other.has in
        let one : stop.entry ≡ other.entry = same_entry (entries_at same entries alike.0) (apart.one alike.0) stop.entry
        other.entry there.there here.there in
        same_node x y stop.entry.node there.node_is
        (ap (λ (e : ProvisionalCacheEntry X I R A T). e.node) one ∙ here.node_is)

    -- one says yes and the other one no
    meet : (v w : theory.Verdict) (a b : ℕ) (ha hb : _) → v ≢ theory.Neither → w ≢ theory.Neither → v ≢ w
        → Use (shapes_of says after) v (stack_of (frames_of says (runs_of below))) kind_from 0 a ha
        → Use (shapes_of says after) w (stack_of (frames_of says (runs_of below))) kind_from 0 b hb
        → WalksToGoals says after Stops Left v (stack_of (frames_of says (runs_of below))) a
        → WalksToGoals says after Stops Left w (stack_of (frames_of says (runs_of below))) b
        → IsNodeOf after a s.0.input → IsNodeOf after b s.0.input → ⊥
    meet theory.Yes theory.No a b ha hb dv dw d ua ub la lb ia ib =
        one_of_both says scripts after runs_then proves refutes clash yes_is_proved no_is_refuted (runs_of below)
        (below_is_justified says nodes after (run_of s) (runs_of below) h r (Some s.1.node) run_ends).supported
        (distinct_goals says same nodes results entries (Some (cycles_node (run_of s))) below goals.1)
        kind_from s.0.input a b ia ib ha hb Stops Left (λ goal left. left.off) past stop_off stop_same ua ub la lb
    meet theory.No theory.Yes a b ha hb dv dw d ua ub la lb ia ib =
        one_of_both says scripts after runs_then proves refutes clash yes_is_proved no_is_refuted (runs_of below)
        (below_is_justified says nodes after (run_of s) (runs_of below) h r (Some s.1.node) run_ends).supported
        (distinct_goals says same nodes results entries (Some (cycles_node (run_of s))) below goals.1)
        kind_from s.0.input b a ib ia hb ha Stops Left (λ goal left. left.off) past stop_off stop_same ub ua lb la
    meet theory.Yes theory.Yes a b ha hb dv dw d ua ub la lb ia ib = d refl
    meet theory.No theory.No a b ha hb dv dw d ua ub la lb ia ib = d refl
    meet theory.Neither w a b ha hb dv dw d ua ub la lb ia ib = dv refl
    meet v theory.Neither a b ha hb dv dw d ua ub la lb ia ib = dw refl

    never : ⊥
    never = meet (verdict_of says earlier) (verdict_of says r) (cycles_node (run_of s)) run_ends.place _ _ definite_then
        definite differ used_then used_now leads_then leads_now home_then home_now

  -- the run says what the one before it said
  pub says_again : verdict_of says earlier ≡ verdict_of says r
  says_again = elim (verdict_cases (verdict_of says earlier) (verdict_of says r)) [
    | inl one ↦ one
    | inr differ ↦ absurd (never differ)
  ]

-- so no goal has had its most runs, if it may be run twice
module _ {X R I A T : Type 0} (says : Verdicts R) (same_result : R → R → Bool) (own : (x : R) → same_result x x ≡ true)
    (initial_kind : R → Option PathKind) (ambiguity : R → Option A) (limit : ℕ)
    (some : 2 ≤ limit) (one : HasOneOfEach says) where
  pub never_at_limit :
      (provisional : Option R) (usages : Option HeadUsages) (finished_runs : ℕ) (r : R)
      (end : Result (Option (RebaseReason X I R A T)) Unstable)
      → (provisional ≡ None → finished_runs ≡ 0) → IfSome provisional (IsDefinite says)
      → ((earlier : R) → provisional ≡ Some earlier → verdict_of says earlier ≡ verdict_of says r)
      → IsEndOfRun same_result initial_kind ambiguity limit provisional usages finished_runs r end
      → end ≡ Err AtLimit → ⊥
  never_at_limit provisional usages finished_runs r end first definite again (Unused none) is = cc
  never_at_limit provisional usages finished_runs r end first definite again (Stable used why some_usages reason) is =
      cc
  never_at_limit provisional usages finished_runs r end first definite again (Repeats used some_usages unstable few)
      is =
      let clash : Again ≡ AtLimit = cc in cc
  never_at_limit None usages finished_runs r end first definite again (Limited used some_usages unstable many) is =
      let none = first refl in omega (arith, some, many, none)
  never_at_limit (Some earlier) usages finished_runs r end first definite again
      (Limited used some_usages unstable many) is =
      unstable
      (inl (subst (λ x. same_result earlier x ≡ true) (one earlier r definite (again earlier refl)) (own earlier)))
