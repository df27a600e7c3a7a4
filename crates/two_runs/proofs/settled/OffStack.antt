-- What the answers of a goal rest on stays off the goals under evaluation, and known to the goal, through
-- each change of the goal.
use Rattle.std.proofs.Common.{◌≡◌, ◌<◌, ◌≤◌, ℕ, Bool, false, true, List, [], ◌∷◌, ◌++◌, IsSome, Option, None, Some}
use Rattle.std.proofs.Common.{option_map, slice_get, refl, sym, ap, ◌∙◌, subst, ◌⊎◌, inl, inr, max, arith}
use Rattle.std.specs.Option.{IfSome}
use Rattle.open_graphs.specs.Graph as theory
use Rattle.list_lemmas.proofs.Lists.{get_cases, mapped_some}
use Rattle.two_runs.specs.Below.{CacheNode, counted_by, DefiniteAnswer, Entry, is_in_cycle, IsDefinite, KeepsGoals}
use Rattle.two_runs.specs.Below.{Lists, NestedPaths, NodeId, OpenGoal, PathKind, paths_at, ProvisionalCacheEntry}
use Rattle.two_runs.specs.Below.{shapes_of, stack_of, Store, StoredResult, verdict_of, verdict_shape, Verdicts}
use Rattle.run_records.specs.declared.runs.Fate.TheVariants as becomes
use Rattle.two_runs.specs.Apart.{StandApart}
use Rattle.two_runs.specs.Lone.{IsLone}
use Rattle.two_runs.specs.Leads.{HasSuchGoal, StepOn, WalksTo, WalksToGoals}
use Rattle.two_runs.specs.Older.{HasNoOlder, IsStop}
use Rattle.two_runs.specs.Settled.{AreSettledGoals, IsAside, IsBehind, IsKnown, IsOff, IsSettledGoal, StaysOff}
use Rattle.search_rules.specs.Justified.{AreJustified, cycles_node, frame_of, frames_of, OpenRun}
use Rattle.search_rules.specs.Runs.{run_of, runs_of}
use Rattle.search_rules.specs.Tallies.{Tally}
use Rattle.two_runs.proofs.settled.Leading.{goals_later}
use Rattle.two_runs.proofs.settled.OlderEntries.{all_stay, Follows, follows_itself, leaf_kept, no_older_kept}
use Rattle.two_runs.proofs.settled.OlderEntries.{StaySame, stop_kept}
use Rattle.two_runs.proofs.settled.StoppedWalks.{answered_walks, walks_kept}
use Rattle.search_rules.proofs.justified.Justified.{EndsWithNode, goal_of_open, IsEdgeFrom, new_run}
use Rattle.search_rules.proofs.justified.Justified.{no_answers, no_leaf_after}

-- what is known stays known where more goals are nested
pub known_more : {I R T : Type 0} (same : I → I → Bool) (results later : Store I (StoredResult I R T))
    → ((goal : I) → IsLone same results goal → IsLone same later goal) → (nested more : NestedPaths I)
    → ((goal : I) → IsSome (paths_at same nested goal) → IsSome (paths_at same more goal)) → (goal : I)
    → IsKnown same results nested goal → IsKnown same later more goal
known_more same results later stay nested more grown goal (inl there) = inl (grown goal there)
known_more same results later stay nested more grown goal (inr lone) = inr (stay goal lone)

-- the goal goes on with its answers, of which perhaps fewer count
pub record GoesOn {I R : Type 0} (o p : OpenRun I R) : Type 0 where
  pub follows : Follows o p
  pub answers : (i : ℕ) (a : DefiniteAnswer I) → slice_get p.answers i ≡ Some a
      → counted_by p.ignored a.candidate ≡ true
      → (slice_get o.answers i ≡ Some a) × (counted_by o.ignored a.candidate ≡ true)
  pub provisional : p.provisional ≡ o.provisional

pub goes_on_itself : {I R : Type 0} (o : OpenRun I R) → GoesOn o o
goes_on_itself o = record { follows = follows_itself o; answers = λ i a at counts. (at, counts); provisional = refl }

below_limit : (above : Option ℕ) (first node : ℕ) → IfSome above (λ limit. first < limit) → node < first
    → IfSome above (λ limit. node < limit)
below_limit None first node began before = tt
below_limit (Some limit) first node began before = omega (arith, began, before)

-- the newest goal began before this node
abbrev pub AreBefore : {X F I R A T : Type 0} → ℕ → List (OpenGoal X F I R A T) → Type 0
AreBefore limit [] = Unit {0}
AreBefore limit (s ∷ below) = cycles_node (run_of s) < limit

-- ---- nodes are added or finished, results are stored, entries come and go, and more goals are nested

module _ {X I R A T : Type 0} (says : Verdicts R) (same : I → I → Bool) (nodes after : List (CacheNode I R))
    (kept : KeepsGoals nodes after) (grown : theory.Grown (shapes_of says nodes) (shapes_of says after))
    (results later : Store I (StoredResult I R T))
    (lone_stay : (goal : I) → IsLone same results goal → IsLone same later goal)
    (Within : ℕ → Type 0) (entries more : Lists I (ProvisionalCacheEntry X I R A T))
    (stay : StaySame same Within entries more) where
  module _ (o p : OpenRun I R) (f : Follows o p)
      (within : (node : ℕ) → node < cycles_node o → Within node) (nested further : NestedPaths I)
      (nested_grown : (goal : I) → IsSome (paths_at same nested goal) → IsSome (paths_at same further goal))
      (below : List (OpenRun I R)) where
    pub aside_kept : (goal : I) → IsAside same results entries o nested below goal
        → IsAside same later more p further below goal
    aside_kept goal a = record {
      known = known_more same results later lone_stay nested further nested_grown goal a.known;
      off = ((λ is. a.off.0 (is ∙ f.goal_is)), a.off.1);
      no_older = no_older_kept same Within entries more stay o p f within goal a.no_older;
    }

    pub behind_kept : (goal : I) → IsBehind same results entries o nested below goal
        → IsBehind same later more p further below goal
    behind_kept goal a = record {
      known = elim a.known [
        | inl own ↦ inl (own ∙ sym f.goal_is)
        | inr known ↦ inr (known_more same results later lone_stay nested further nested_grown goal known)
      ];
      off = a.off;
      no_older = no_older_kept same Within entries more stay o p f within goal a.no_older;
    }

    pub aside_leads : (v : theory.Verdict) (a : ℕ) → WalksToGoals says nodes (IsStop same entries o)
        (IsAside same results entries o nested below) v (stack_of (frames_of says (o ∷ below))) a → WalksToGoals says
        after (IsStop same more p) (IsAside same later more p further below) v (stack_of (frames_of says (p ∷ below))) a
    aside_leads v a leads =
        walks_kept (shapes_of says nodes) (shapes_of says after) v grown (stack_of (frames_of says (o ∷ below)))
        (stack_of (frames_of says (p ∷ below))) (IsStop same entries o) (IsStop same more p)
        (HasSuchGoal nodes (IsAside same results entries o nested below))
        (HasSuchGoal after (IsAside same later more p further below))
        (goals_later says nodes after kept (IsAside same results entries o nested below)
        (IsAside same later more p further below) aside_kept v) a leads
        (leaf_kept says o p f below) (stop_kept same Within entries more stay o p f within)

    pub behind_leads : (v : theory.Verdict) (a : ℕ) → WalksToGoals says nodes (IsStop same entries o)
        (IsBehind same results entries o nested below) v (stack_of (frames_of says below)) a → WalksToGoals says after
        (IsStop same more p) (IsBehind same later more p further below) v (stack_of (frames_of says below)) a
    behind_leads v a leads =
        walks_kept (shapes_of says nodes) (shapes_of says after) v grown (stack_of (frames_of says below))
        (stack_of (frames_of says below)) (IsStop same entries o) (IsStop same more p)
        (HasSuchGoal nodes (IsBehind same results entries o nested below))
        (HasSuchGoal after (IsBehind same later more p further below))
        (goals_later says nodes after kept (IsBehind same results entries o nested below)
        (IsBehind same later more p further below) behind_kept v) a leads
        (λ b leaf. leaf) (stop_kept same Within entries more stay o p f within)

  pub off_kept : (o p : OpenRun I R) (g : GoesOn o p)
      → ((node : ℕ) → node < cycles_node o → Within node) → (nested further : NestedPaths I)
      → ((goal : I) → IsSome (paths_at same nested goal) → IsSome (paths_at same further goal))
      → (below : List (OpenRun I R)) → StaysOff says same nodes results entries o nested below
      → StaysOff says same after later more p further below
  off_kept o p g within nested further nested_grown below h = record {
    answers = λ i a at counts. let was = g.answers i a at counts in aside_leads o p g.follows within nested further
        nested_grown below (verdict_shape a.verdict) a.edge.target (h.answers i a was.0 was.1);
    earlier = λ r is definite.
        subst (WalksToGoals says after (IsStop same more p) (IsBehind same later more p further below)
        (verdict_of says r) (stack_of (frames_of says below))) (sym g.follows.first_is)
        (behind_leads o p g.follows within nested further nested_grown below (verdict_of says r) (cycles_node o)
        (h.earlier r (sym g.provisional ∙ is) definite));
  }

  -- all that holds of a goal
  module _ {F : Type 0} where
    pub goal_kept : (s t : OpenGoal X F I R A T) (g : GoesOn (run_of s) (run_of t))
        → ((node : ℕ) → node < cycles_node (run_of s) → Within node) → ((goal : I)
        → IsSome (paths_at same s.0.state.nested_goals goal) → IsSome (paths_at same t.0.state.nested_goals goal))
        → (below : List (OpenGoal X F I R A T)) (above then : Option ℕ)
        → ((node : ℕ) → IfSome then (λ first. node < first) → Within node × IfSome above (λ first. node < first))
        → IfSome then (λ first. cycles_node (run_of t) < first)
        → IsSome (paths_at same t.0.state.nested_goals t.0.input)
        ⊎ ((t.0.state.nested_goals ≡ []) × (is_in_cycle t.0.state ≡ false))
        → (t.0.state.provisional_result ≡ None → t.1.finished_runs ≡ 0) → t.1.fate ≡ becomes.Stored
        → IsSettledGoal says same nodes results entries above s below
        → IsSettledGoal says same after later more then t below
    goal_kept s t g within nested_grown below above then up began itself first stored h = record {
      off = off_kept (run_of s) (run_of t) g within s.0.state.nested_goals
          t.0.state.nested_goals nested_grown (runs_of below) h.off;
      made = λ goal entry node has since before.
          let limits = up node before in
          aside_leads (run_of s) (run_of t) g.follows within s.0.state.nested_goals t.0.state.nested_goals nested_grown
          (runs_of below) (verdict_of says entry.result) node
          (h.made goal entry node (stay.comes goal entry node has limits.0)
          (subst (λ first. first ≤ node) g.follows.first_is since) limits.1);
      began = began;
      apart = subst (IsOff (runs_of below)) (sym g.follows.goal_is) h.apart;
      itself = itself;
      first = first;
      stored = stored;
    }

    -- the same of all goals
    pub goals_kept : (goals : List (OpenGoal X F I R A T)) (above : Option ℕ)
        → ((node : ℕ) → IfSome above (λ limit. node < limit) → Within node)
        → AreSettledGoals says same nodes results entries above goals
        → AreSettledGoals says same after later more above goals
    goals_kept [] above within h = tt
    goals_kept (s ∷ below) above within h =
        let lower = λ (node : ℕ) (before : node < cycles_node (run_of s)).
        within node (below_limit above (cycles_node (run_of s)) node h.0.began before) in (
          goal_kept s s (goes_on_itself (run_of s)) lower (λ goal there. there) below above above
              (λ node before. (within node before, before)) h.0.began h.0.itself h.0.first h.0.stored h.0,
          goals_kept below (Some (cycles_node (run_of s))) lower h.1,
        )

    -- a goal begins above them
    pub narrowed : (goals : List (OpenGoal X F I R A T)) (limit : ℕ) → ((node : ℕ) → Within node)
        → AreBefore limit goals → AreSettledGoals says same nodes results entries None goals
        → AreSettledGoals says same after later more (Some limit) goals
    narrowed [] limit within before h = tt
    narrowed (s ∷ below) limit within before h = (
      goal_kept s s (goes_on_itself (run_of s)) (λ node older. within node) (λ goal there. there) below None
          (Some limit) (λ node lower. (within node, tt)) before h.0.itself h.0.first h.0.stored h.0,
      goals_kept below (Some (cycles_node (run_of s))) (λ node older. within node) h.1,
    )

-- ---- the goal itself

module _ {X I R A T : Type 0} (says : Verdicts R) (same : I → I → Bool) (nodes : List (CacheNode I R))
    (results : Store I (StoredResult I R T)) (entries : Lists I (ProvisionalCacheEntry X I R A T)) where
  -- it gets one more answer
  module _ (a : DefiniteAnswer I) (o : OpenRun I R) (nested : NestedPaths I) (below : List (OpenRun I R)) where
    abbrev answered : OpenRun I R
    answered = record o { answers = o.answers ++ a ∷ [] }

    follows : Follows o answered
    follows = record { goal_is = refl; first_is = refl; heads = λ head some. some }

    aside_later : (v : theory.Verdict) (b : ℕ) → WalksToGoals says nodes (IsStop same entries o)
        (IsAside same results entries o nested below) v (stack_of (frames_of says (o ∷ below))) b
        → WalksToGoals says nodes (IsStop same entries answered) (IsAside same results entries answered nested below) v
        (stack_of (frames_of says (answered ∷ below))) b
    aside_later = aside_leads says same nodes nodes (λ place goal is. is) (λ a v edges is. is) results results
        (λ goal lone. lone) (λ node. Unit {0}) entries entries (all_stay same entries) o answered follows
        (λ node older. tt) nested nested (λ goal there. there) below

    behind_later : (v : theory.Verdict) (b : ℕ) → WalksToGoals says nodes (IsStop same entries o)
        (IsBehind same results entries o nested below) v (stack_of (frames_of says below)) b
        → WalksToGoals says nodes (IsStop same entries answered) (IsBehind same results entries answered nested below)
        v (stack_of (frames_of says below)) b
    behind_later = behind_leads says same nodes nodes (λ place goal is. is) (λ a v edges is. is) results results
        (λ goal lone. lone) (λ node. Unit {0}) entries entries (all_stay same entries) o answered follows
        (λ node older. tt) nested nested (λ goal there. there) below

    pub off_answered : WalksToGoals says nodes (IsStop same entries o) (IsAside same results entries o nested below)
        (verdict_shape a.verdict) (stack_of (frames_of says (o ∷ below))) a.edge.target
        → StaysOff says same nodes results entries o nested below
        → StaysOff says same nodes results entries answered nested below
    off_answered leads h = record {
      answers = λ i b at counts. elim (get_cases o.answers a i b at) [
        | inl old ↦ aside_later (verdict_shape b.verdict) b.edge.target (h.answers i b old counts)
        | inr new ↦ subst (λ (d : DefiniteAnswer I).
            WalksToGoals says nodes (IsStop same entries answered) (IsAside same results entries answered nested below)
            (verdict_shape d.verdict) (stack_of (frames_of says (answered ∷ below))) d.edge.target)
            new.1 (aside_later (verdict_shape a.verdict) a.edge.target leads)
      ];
      earlier = λ r is definite. behind_later (verdict_of says r) (cycles_node o) (h.earlier r is definite);
    }

  -- it begins, or is run again
  pub off_new : (goal : I) (step : PathKind) (own : NodeId) (lead : Option NodeId) (earlier : Option R) (tally : Tally)
      (nested : NestedPaths I) (below : List (OpenRun I R))
      → ((r : R) → earlier ≡ Some r → IsDefinite says r
      → WalksToGoals says nodes (IsStop same entries (new_run goal step own lead earlier tally))
      (IsBehind same results entries (new_run goal step own lead earlier tally) nested below) (verdict_of says r)
      (stack_of (frames_of says below)) (cycles_node (new_run goal step own lead earlier tally)))
      → StaysOff says same nodes results entries (new_run goal step own lead earlier tally) nested below
  off_new goal step own lead earlier tally nested below leads =
      record { answers = λ i a at counts. absurd (no_answers i a at); earlier = leads }

-- what is so of walks from a node is so of those from the next one
walks_beyond : (nodes : List theory.Node) (verdict : theory.Verdict) (stack : List Entry) (Stops Inner : ℕ → Type 0)
    (a k b : ℕ) → StepOn nodes verdict stack Stops a k b → WalksTo nodes verdict stack Stops Inner a
    → WalksTo nodes verdict stack Stops Inner b
walks_beyond nodes verdict stack Stops Inner a k b step walks c q w = walks c (max k q) (theory.go step w)

-- a goal under evaluation has no entry
pub own_no_older : {X F I R A T : Type 0} (same : I → I → Bool) (results : Store I (StoredResult I R T))
    (entries : Lists I (ProvisionalCacheEntry X I R A T)) (s : OpenGoal X F I R A T)
    (below : List (OpenGoal X F I R A T))
    → StandApart same results (s ∷ below) entries → HasNoOlder same entries (run_of s) s.0.input
own_no_older same results entries s below apart entry node has = absurd ((apart.off s.0.input entry has.there).0 refl)

-- ---- the goal's run has ended

module _ {X I R A T : Type 0} (says : Verdicts R) (same : I → I → Bool) (nodes after : List (CacheNode I R))
    (results : Store I (StoredResult I R T)) (entries : Lists I (ProvisionalCacheEntry X I R A T)) (o : OpenRun I R)
    (below : List (OpenRun I R)) (h : AreJustified says nodes (o ∷ below)) (r : R) (target : Option NodeId)
    (s : EndsWithNode says nodes after o below r target) (nested : NestedPaths I)
    (off : StaysOff says same nodes results entries o nested below) (apart : IsOff below o.goal)
    (own_none : HasNoOlder same entries o o.goal) (definite : IsDefinite says r) where
  abbrev Left : I → Type 0
  Left = IsBehind same results entries o nested below

  own_left : HasSuchGoal after Left o.own
  own_left goal is =
      let found : Some o.goal ≡ Some goal =
      sym (s.goals_kept o.own o.goal (goal_of_open nodes o.own o.goal h.are_open.0)) ∙ is in
      let one : o.goal ≡ goal = cc in
      record {
        known = inl (sym one);
        off = subst (IsOff below) one apart;
        no_older = subst (HasNoOlder same entries o) one own_none;
      }

  -- where the answer with this node was used
  behind_answer : (verdict : theory.Verdict) (place : ℕ) (answer : DefiniteAnswer I)
      → slice_get o.answers place ≡ Some answer → counted_by o.ignored answer.candidate ≡ true
      → verdict_shape answer.verdict ≡ verdict → WalksTo (shapes_of says nodes) verdict
      (stack_of (frames_of says (o ∷ below))) (IsStop same entries o) (HasSuchGoal after Left) answer.edge.target
  behind_answer verdict place answer at counts is =
      subst (λ v. WalksTo (shapes_of says nodes) v (stack_of (frames_of says (o ∷ below))) (IsStop same entries o)
      (HasSuchGoal after Left) answer.edge.target) is
      (walks_kept (shapes_of says nodes) (shapes_of says nodes) (verdict_shape answer.verdict) (λ a v es is. is)
      (stack_of (frames_of says (o ∷ below))) (stack_of (frames_of says (o ∷ below)))
      (IsStop same entries o) (IsStop same entries o)
      (HasSuchGoal nodes (IsAside same results entries o nested below)) (HasSuchGoal after Left)
      (goals_later says nodes after s.goals_kept (IsAside same results entries o nested below) Left
      (λ goal p. record { known = inr p.known; off = p.off.1; no_older = p.no_older }) (verdict_shape answer.verdict))
      answer.edge.target (off.answers place answer at counts) (λ b leaf. leaf) (λ b stop. stop))

  -- no walk stops at a node that was written after the run's own
  goes_on : (a : ℕ) → o.own < a → IsStop same entries o a → ⊥
  goes_on a later stop =
      let older = stop.older in let least : cycles_node o ≤ o.own = h.in_order.0.0 in omega (arith, later, older, least)

  behind_edge : (edge : theory.Edge) (from : IsEdgeFrom says nodes o (verdict_of says r) edge)
      → WalksTo (shapes_of says nodes) (verdict_of says r) (stack_of (frames_of says (o ∷ below)))
      (IsStop same entries o) (HasSuchGoal after Left) edge.target
  behind_edge edge from = elim from.edge_is [
    | inl is ↦
        subst (WalksTo (shapes_of says nodes) (verdict_of says r) (stack_of (frames_of says (o ∷ below)))
        (IsStop same entries o) (HasSuchGoal after Left)) (ap (λ (e : theory.Edge). e.target) is)
        (behind_answer (verdict_of says r) from.place from.answer from.is_at from.counts from.verdict_is)
    | inr beyond ↦
        walks_beyond (shapes_of says nodes) (verdict_of says r) (stack_of (frames_of says (o ∷ below)))
        (IsStop same entries o) (HasSuchGoal after Left) from.answer.edge.target
        (theory.cycle_kind (verdict_of says r)) edge.target
        (record {
          step = record {
            edge = beyond.step;
            inner = λ leaf.
                no_leaf_after says nodes o.own (o ∷ below) h.in_order.0 from.answer.edge.target beyond.after_own leaf;
          };
          on = goes_on from.answer.edge.target beyond.after_own;
        })
        (behind_answer (verdict_of says r) from.place from.answer from.is_at from.counts from.verdict_is)
  ]

  behind : (i : ℕ) (edge : theory.Edge) → slice_get (s.edges (verdict_of says r)) i ≡ Some edge
      → WalksTo (shapes_of says nodes) (verdict_of says r) (stack_of (frames_of says (o ∷ below)))
      (IsStop same entries o) (HasSuchGoal after Left) edge.target
  behind i edge at = behind_edge edge (s.from (verdict_of says r) i edge at)

  before : option_map (verdict_of says) o.provisional ≡ Some (verdict_of says r)
      → WalksTo (shapes_of says nodes) (verdict_of says r) (stack_of (frames_of says below)) (IsStop same entries o)
      (HasSuchGoal after Left) (cycles_node o)
  before again =
      let was = mapped_some (verdict_of says) o.provisional (verdict_of says r) again in
      walks_kept (shapes_of says nodes) (shapes_of says nodes) (verdict_of says r) (λ a v es is. is)
      (stack_of (frames_of says below)) (stack_of (frames_of says below)) (IsStop same entries o)
      (IsStop same entries o) (HasSuchGoal nodes Left) (HasSuchGoal after Left)
      (goals_later says nodes after s.goals_kept Left Left (λ goal p. p) (verdict_of says r)) (cycles_node o)
      (subst (λ v. WalksToGoals says nodes (IsStop same entries o) Left v (stack_of (frames_of says below))
      (cycles_node o)) was.2 (off.earlier was.0 was.1 (λ neither. definite (sym was.2 ∙ neither))))
      (λ b leaf. leaf) (λ b stop. stop)

  -- the node of its result leads to goals that it knows, or to itself, and to none below it
  pub result_leads : WalksToGoals says after (IsStop same entries o) Left (verdict_of says r)
      (stack_of (frames_of says below)) s.place
  result_leads =
      answered_walks (shapes_of says nodes) (stack_of (frames_of says below)) (frame_of says o).entry o.own s.edges
      (frame_of says o).heads_before (frame_of says o).heads (verdict_of says r) s.sound.running.0
      (IsStop same entries o) (HasSuchGoal after Left) own_left behind definite s.answered before
