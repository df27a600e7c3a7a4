-- Goals under evaluation whose answers stay off them, once the newest goal's run has ended: the node of its result, and
-- what is left if it is run again.
use Rattle.std.proofs.Common.{◌≡◌, ◌<◌, ◌≤◌, ℕ, Bool, true, false, List, [], ◌∷◌, ◌++◌, length, map, IsSome, Option}
use Rattle.std.proofs.Common.{None, Some, option_map, refl, sym, ap, ◌∙◌, subst, inl, inr}
use Rattle.std.specs.Option.{IsSomeAnd, option_or}
use Rattle.std.proofs.lemmas.Bool.{false≢true, or_parts}
use Rattle.open_graphs.specs.Graph as theory
use Rattle.open_graphs.proofs.Runs.{answered_grows}
use Rattle.graph_nodes.proofs.NodeLists.{Grown-appended, KeepsGoals-appended}
use Rattle.two_runs.specs.Leads.{WalksToGoals}
use Rattle.two_runs.specs.Apart.{StandApart}
use Rattle.two_runs.specs.Older.{HasEntry, IsStop, RestOnOlder}
use Rattle.two_runs.specs.Settled.{AreSettledGoals, IsBehind}
use Rattle.two_runs.specs.Below.{CacheNode, Heads, is_in_cycle, IsDefinite, IsNodeOf, KeepsGoals, Lists, NodeId}
use Rattle.two_runs.specs.Below.{open_node, OpenGoal, ProvisionalCacheEntry, rerun_with, RunRecord, shapes_of}
use Rattle.two_runs.specs.Below.{some_heads, stack_of, StackEntry, Store, StoredResult, verdict_of}
use Rattle.two_runs.specs.Below.{Verdicts, with_no_record}
use Rattle.search_rules.specs.Justified.{AreJustified, cycles_node, frame_of, frames_of}
use Rattle.search_rules.specs.Runs.{Again, Ended, HasResultNode, LeftOpen, run_of, runs_of}
use Rattle.search_rules.specs.Tallies.{tally_of}
use Rattle.two_runs.proofs.settled.OffStack.{aside_leads, behind_leads, goals_kept, off_new, own_no_older, result_leads}
use Rattle.two_runs.proofs.settled.OlderEntries.{Follows, StaySame}
use Rattle.search_rules.proofs.justified.Finishing.{rebases}
use Rattle.search_rules.proofs.justified.Justified.{EndsWithNode, lead_is, leads_there, tally_again}

no_heads_at : (heads : Heads) → some_heads heads ≡ false → heads ≡ []
no_heads_at [] none = refl
no_heads_at (head ∷ heads) none = absurd cc

-- a goal that rests on no goal has no heads
pub headless : {X I R A T : Type 0} (e : StackEntry X I R A T) → is_in_cycle e.state ≡ false → e.state.heads ≡ []
headless e apart = no_heads_at e.state.heads (or_parts _ (some_heads e.state.heads) apart).1

-- ---- the node of its result is its first one

module _ {I R : Type 0} (says : Verdicts R) where
  -- a result that says what the one before said has its node, and the first one has the run's own
  result_node_at :
      (before after : List (CacheNode I R)) (earlier : Option R) (node : NodeId) (cycles_lead : Option NodeId)
      (p : RunRecord I R) (r : R) (target : Option NodeId)
      → HasResultNode says before after earlier node cycles_lead p r target → IsDefinite says r
      → ((x : R) → earlier ≡ Some x → verdict_of says x ≡ verdict_of says r) → (own first : ℕ) → own ≡ node.0
      → IsSomeAnd cycles_lead (λ n. n.0 ≡ first) → (earlier ≡ None → first ≡ own) → IsSomeAnd target (λ n. n.0 ≡ first)
  result_node_at before after earlier node cycles_lead p r target (Again some is same) definite again own
      first own_is lead_is first_is = lead_is
  result_node_at before after None node cycles_lead p r target (Ended run of_result done some not_again is edges)
      definite again own first own_is lead_is first_is =
      sym own_is ∙ sym (first_is refl)
  result_node_at before after (Some x) node cycles_lead p r target (Ended run of_result done some not_again is edges)
      definite again own first own_is lead_is first_is =
      absurd (not_again (ap Some (again x refl)))
  result_node_at before after earlier node cycles_lead p r target (LeftOpen neither is) definite again own first own_is
      lead_is first_is = absurd (definite neither)

lead_first : (own : ℕ) (lead : Option NodeId) → IsSome lead
    → IsSomeAnd lead (λ n. n.0 ≡ elim lead [ None ↦ own | Some n ↦ n.0 ])
lead_first own None some = absurd (false≢true some)
lead_first own (Some n) some = refl

there : {A : Type 0} (P : A → Type 0) (o : Option A) → IsSomeAnd o P → IsSome o
there P None at = absurd at
there P (Some x) at = refl

module _ {X F I R A T : Type 0} (says : Verdicts R) (same : I → I → Bool) (nodes after : List (CacheNode I R))
    (results : Store I (StoredResult I R T)) (entries : Lists I (ProvisionalCacheEntry X I R A T))
    (s : OpenGoal X F I R A T) (below : List (OpenGoal X F I R A T))
    (h : AreJustified says nodes (runs_of (s ∷ below))) (r : R) (target : Option NodeId)
    (ended : HasResultNode says nodes after s.0.state.provisional_result s.1.node s.0.state.node s.1.progress r target)
    (definite : IsDefinite says r)
    (apart : StandApart same results (s ∷ below) entries)
    (goals : AreSettledGoals says same nodes results entries None (s ∷ below)) (again : (earlier : R)
    → s.0.state.provisional_result ≡ Some earlier → verdict_of says earlier ≡ verdict_of says r) where
  pub ends : EndsWithNode says nodes after (run_of s) (runs_of below) r target
  ends = rebases says nodes after s.0 s.1 below h r target ended

  pub grows : theory.Grown (shapes_of says nodes) (shapes_of says after)
  grows = answered_grows (shapes_of says nodes) (frame_of says (run_of s)).entry (run_of s).own ends.edges
      (verdict_of says r) h.sound.running.0.unfinished ends.answered

  first_run_node : s.0.state.provisional_result ≡ None → cycles_node (run_of s) ≡ s.1.node.0
  first_run_node none = elim h.sound.running.0.which_run [
    | inl first ↦ first.0
    | inr later ↦ absurd (later.1 (ap (option_map (verdict_of says)) none))
  ]

  pub target_first : IsSomeAnd target (λ n. n.0 ≡ cycles_node (run_of s))
  target_first =
      result_node_at says nodes after s.0.state.provisional_result s.1.node s.0.state.node s.1.progress r target ended
      definite again s.1.node.0 (cycles_node (run_of s)) refl
      (lead_first s.1.node.0 s.0.state.node
      (there (λ n. IsNodeOf nodes n.0 s.0.input) s.0.state.node h.supported.0.lead_home)) first_run_node

  one_place : (o : Option NodeId) (place first : ℕ) → IsSomeAnd o (λ n. (n.0 ≡ place) × IsNodeOf after n.0 s.0.input)
      → IsSomeAnd o (λ n. n.0 ≡ first) → place ≡ first
  one_place None place first at is = absurd at
  one_place (Some n) place first at is = sym at.0 ∙ is

  pub place_first : ends.place ≡ cycles_node (run_of s)
  place_first = one_place target ends.place (cycles_node (run_of s)) (ends.definite definite) target_first

  abbrev Left : I → Type 0
  Left = IsBehind same results entries (run_of s) s.0.state.nested_goals (runs_of below)

  -- what it leads to
  pub leads : WalksToGoals says after (IsStop same entries (run_of s)) Left (verdict_of says r)
      (stack_of (frames_of says (runs_of below))) ends.place
  leads = result_leads says same nodes after results entries (run_of s) (runs_of below) h r target ends
      s.0.state.nested_goals goals.0.off goals.0.apart (own_no_older same results entries s below apart) definite

  -- ---- it is run again

  module _ (more : Lists I (ProvisionalCacheEntry X I R A T))
      (stay : StaySame same (λ node. node < cycles_node (run_of s)) entries more)
      (comes : (goal : I) (entry : ProvisionalCacheEntry X I R A T) (node : ℕ) → HasEntry same more goal entry node
      → HasEntry same entries goal entry node)
      (frame : F) (own : NodeId) (at : own.0 ≡ length after) (used : is_in_cycle s.0.state ≡ true) where
    abbrev lead : Option NodeId
    lead = option_or target s.0.state.node

    abbrev opened : List (CacheNode I R)
    opened = after ++ open_node s.0.input ∷ []

    abbrev rerun : OpenGoal X F I R A T
    rerun = rerun_with r lead frame own (with_no_record s)

    pub opened_kept : KeepsGoals nodes opened
    opened_kept place goal is = KeepsGoals-appended true after s.0.input place goal (ends.goals_kept place goal is)

    pub opened_grown : theory.Grown (shapes_of says nodes) (shapes_of says opened)
    opened_grown a v edges is = Grown-appended says true after s.0.input a v edges (grows a v edges is)

    place_then : cycles_node (run_of rerun) ≡ ends.place
    place_then = leads_there says nodes after (run_of s) (runs_of below) h r target ends own at lead
        (lead_is says nodes after (run_of s) (runs_of below) h r target ends)

    follows : Follows (run_of s) (run_of rerun)
    follows = record { goal_is = refl; first_is = place_then ∙ place_first; heads = λ head some. some }

    leads_then : WalksToGoals says opened (IsStop same more (run_of rerun))
        (IsBehind same results more (run_of rerun) s.0.state.nested_goals (runs_of below)) (verdict_of says r)
        (stack_of (frames_of says (runs_of below))) (cycles_node (run_of rerun))
    leads_then =
        subst (WalksToGoals says opened (IsStop same more (run_of rerun))
        (IsBehind same results more (run_of rerun) s.0.state.nested_goals (runs_of below)) (verdict_of says r)
        (stack_of (frames_of says (runs_of below)))) (sym place_then)
        (behind_leads says same after opened (KeepsGoals-appended true after s.0.input)
        (Grown-appended says true after s.0.input) results results (λ goal lone. lone)
        (λ node. node < cycles_node (run_of s)) entries more stay (run_of s)
        (run_of rerun) follows (λ node older. older)
        s.0.state.nested_goals s.0.state.nested_goals (λ goal nested. nested) (runs_of below)
        (verdict_of says r) ends.place leads)

    pub rerun_goals : AreSettledGoals says same opened results more None (rerun ∷ below)
    rerun_goals = (
      record {
        off = off_new says same opened results more s.0.input s.0.step_kind_from_parent own lead (Some r)
            (tally_again (tally_of s.0.state s.1.candidates)) s.0.state.nested_goals (runs_of below)
            (λ other is d.
            let one : r ≡ other = cc in
            subst (λ x. WalksToGoals says opened (IsStop same more (run_of rerun))
            (IsBehind same results more (run_of rerun) s.0.state.nested_goals (runs_of below)) (verdict_of says x)
            (stack_of (frames_of says (runs_of below))) (cycles_node (run_of rerun))) one leads_then);
        made = λ goal entry node has since before.
            aside_leads says same nodes opened opened_kept opened_grown results results (λ g lone. lone)
            (λ node. node < cycles_node (run_of s)) entries more stay (run_of s)
            (run_of rerun) follows (λ node older. older)
            s.0.state.nested_goals s.0.state.nested_goals (λ g nested. nested)
            (runs_of below) (verdict_of says entry.result) node
            (goals.0.made goal entry node (comes goal entry node has)
            (subst (λ first. first ≤ node) follows.first_is since) tt);
        began = tt;
        apart = goals.0.apart;
        itself = elim goals.0.itself [ inl nested ↦ inl nested | inr w ↦ absurd (false≢true (sym w.1 ∙ used)) ];
        first = λ none. absurd cc;
        stored = goals.0.stored;
      },
      subst (λ first. AreSettledGoals says same opened results more (Some first) below) (sym follows.first_is)
          (goals_kept says same nodes opened opened_kept opened_grown results results (λ goal lone. lone)
          (λ node. node < cycles_node (run_of s)) entries more stay below
          (Some (cycles_node (run_of s))) (λ node older. older) goals.1),
    )

    -- entries rest on older goals still
    pub rerun_older : RestOnOlder same entries (map cycles_node (runs_of (s ∷ below)))
        → RestOnOlder same more (map cycles_node (runs_of (rerun ∷ below)))
    rerun_older older = subst (λ first. RestOnOlder same more (first ∷ map cycles_node (runs_of below)))
        (sym follows.first_is) (λ goal entry node has. older goal entry node (comes goal entry node has))
