-- Each move of the search keeps the goals under evaluation justified.
use Rattle.std.proofs.Common.{◌≡◌, ◌≢◌, ◌<◌, ◌≤◌, ◌⊎◌, ℕ, zero, suc, Bool, true, false, cond, if◌then◌else◌, List, []}
use Rattle.std.proofs.Common.{◌∷◌, ◌++◌, map, length, length-append, arith, Option, None, Some, option_map, slice_get}
use Rattle.std.proofs.Common.{slice_set, refl, sym, ap, ◌∙◌, subst, inl, inr}
use Rattle.std.specs.Option.{IsSomeAnd, option_or}
use Rattle.std.proofs.lemmas.List.{map-append, map-set, length-map}
use Rattle.open_graphs.specs.Graph as theory
use Rattle.search_rules.specs.Below.{Entry, path_kind, IsClosedGraph, Use, Includes, IncludesBelow, UsesNo, RunningGoal}
use Rattle.search_rules.specs.Below.{ProvisionalEntry, Final, stack_of, in_first_run, in_next_run, answering, OwnsOther}
use Rattle.search_rules.specs.Below.{IsSoundState, TakesIn, Answered, Again, Anew, Without, IsAnsweredEdge, AllAnswered}
use Rattle.search_rules.specs.Below.{PathKind, Edge, Request, NodeId, heads_shape, no_usages, rank_of, EndedRun}
use Rattle.search_rules.specs.Below.{CacheNode, goal_if_open, open_node, open_goal, with_run, IsNodeOf, KeepsNodes}
use Rattle.search_rules.specs.Below.{KeepsGoals, verdict_of, edge_shape, shape_of, shapes_of, DefiniteAnswer, HasGraph}
use Rattle.search_rules.specs.Below.{counted_by, Verdicts, Beyond, IsBacked, OfAnswer, verdict_shape}
use Rattle.open_graphs.specs.Use as theory_use
use Rattle.list_lemmas.proofs.Lists.{get_cases, get_end, get_set_other}
use Rattle.open_graphs.proofs.Verdicts.{same as same_verdicts}
use Rattle.open_graphs.proofs.States.{push_keeps_sound, answers_keep_sound, pop_keeps_sound, rerun_keeps_sound}
use Rattle.open_graphs.proofs.States.{start_is_sound, verdict_cases}
use Rattle.open_graphs.proofs.Asked.{done_is_answered}
use Rattle.open_graphs.proofs.Runs.{answered_grows, root_is_graph}
use Rattle.open_graphs.proofs.Closed.{closed_is_graph}
use Rattle.open_graphs.proofs.Keep.{append_grows, growth_keeps_use, heads_keep_use, leaf_cases}
use Rattle.open_graphs.specs.Stack.{IsLeaf}
use Rattle.std.proofs.lemmas.Option.{slice_get_within}
use Rattle.search_rules.specs.Justified.{LeadUpTo}
use Rattle.search_rules.proofs.justified.Beyond.{answered_beyond}
use Rattle.graph_nodes.proofs.Definites.{IsSomeAnd-weaker}
use Rattle.graph_nodes.proofs.NodeLists.{KeepsNodes-appended, KeepsGoals-appended, before}
use Rattle.graph_nodes.proofs.NodeLists.{with_run-is, KeepsGoals-ended}
use Rattle.search_rules.specs.Words.{OpenRun, cycles_node, frame_of, frames_of, AreOpen, AreEdges, NewestAsks, HasTally}
use Rattle.search_rules.specs.Words.{AreCharged, AreSupported, AreJustified, asked_now, MayAnswer, Tally, IsTallied}
use Rattle.search_rules.specs.Words.{heads_of, spare_heads, SaysAgain}
use Rattle.search_rules.proofs.counts.Tallies.{charge_within, fresh_tallied, rerun_keeps, rerun_tallied, spare_within}

-- ---- open nodes

open_run : {I R : Type 0} (n : CacheNode I R) (goal : I) (run : Option (EndedRun I R)) (gone : Bool) → n.run ≡ run
    → elim run [ None ↦ if gone then None else Some n.goal | Some r ↦ None ] ≡ Some goal
    → (m : CacheNode I R) × (Some n ≡ Some m) × (m.run ≡ None) × (m.goal ≡ goal)
open_run n goal None true is h = absurd cc
open_run n goal None false is h = (n, refl, is, cc)
open_run n goal (Some r) gone is h = absurd cc

open_is : {I R : Type 0} (o : Option (CacheNode I R)) (goal : I)
    → elim o [ None ↦ None | Some n ↦ goal_if_open n ] ≡ Some goal
    → (n : CacheNode I R) × (o ≡ Some n) × (n.run ≡ None) × (n.goal ≡ goal)
open_is None goal h = absurd cc
open_is (Some n) goal h = open_run n goal n.run n.gone refl h

opened_goal : {I R : Type 0} (nodes : List (CacheNode I R)) (at : ℕ) (goal : I)
    → slice_get nodes at ≡ Some (open_node goal) → open_goal nodes at ≡ Some goal
opened_goal nodes at goal is = ap (λ o. elim o [ None ↦ None | Some n ↦ goal_if_open n ]) is

-- an open node has its goal
pub goal_of_open : {I R : Type 0} (nodes : List (CacheNode I R)) (at : ℕ) (goal : I)
    → open_goal nodes at ≡ Some goal → IsNodeOf nodes at goal
goal_of_open nodes at goal h =
    let w = open_is (slice_get nodes at) goal h in ap (option_map (λ n. n.goal)) w.1 ∙ ap Some w.3

module _ {I R : Type 0} (nodes more : List (CacheNode I R)) where
  -- what is at a place stays there, so the place is open with the same goal
  open_kept : (at : ℕ) (goal : I) → ((n : CacheNode I R) → slice_get nodes at ≡ Some n → slice_get more at ≡ Some n)
      → open_goal nodes at ≡ Some goal → open_goal more at ≡ Some goal
  open_kept at goal kept h = let w = open_is (slice_get nodes at) goal h in
      ap (λ o. elim o [ None ↦ None | Some n ↦ goal_if_open n ]) (kept w.0 w.1 ∙ sym w.1) ∙ h

  AreOpen-kept : KeepsNodes nodes more → (goals : List (OpenRun I R)) → AreOpen nodes goals → AreOpen more goals
  AreOpen-kept kept [] h = tt
  AreOpen-kept kept (o ∷ below) h = (open_kept o.own o.goal (kept o.own) h.0, AreOpen-kept kept below h.1)

-- ---- answers

-- an answer may be used in a longer list, too
answered_again : (before after : List theory.Node) (verdict : theory.Verdict) (below : List Entry) (top : Entry)
    (edge : theory.Edge) (heads : theory_use.Heads) → theory.Grown before after
    → IsAnsweredEdge before verdict below top edge heads → IsAnsweredEdge after verdict below top edge heads
answered_again before after verdict below top edge heads grown h = record {
  answer = h.answer;
  used = growth_keeps_use before after verdict (below ++ top ∷ []) (path_kind (below ++ top ∷ []) edge.kind)
      edge.kind edge.target h.answer grown h.used;
  among = h.among;
}

-- and where more is recorded of its heads
answered_more : (nodes : List theory.Node) (verdict : theory.Verdict) (below : List Entry) (top : Entry)
    (edge : theory.Edge) (heads more : theory_use.Heads) → IncludesBelow (length below) heads more
    → IsAnsweredEdge nodes verdict below top edge heads → IsAnsweredEdge nodes verdict below top edge more
answered_more nodes verdict below top edge heads more includes h = record {
  answer = h.answer;
  used = h.used;
  among = λ depth path cycle lower recorded. includes depth path cycle lower (h.among depth path cycle lower recorded);
}

supported_kept : {I R : Type 0} (says : Verdicts R) (nodes more : List (CacheNode I R)) → KeepsGoals nodes more
    → theory.Grown (shapes_of says nodes) (shapes_of says more) → (goals : List (OpenRun I R))
    → AreSupported says nodes goals → AreSupported says more goals
supported_kept says nodes more kept grown [] h = tt
supported_kept says nodes more kept grown (o ∷ below) h = (
  record {
    lead_home = IsSomeAnd-weaker (λ n. IsNodeOf nodes n.0 o.goal) (λ n. IsNodeOf more n.0 o.goal)
        (λ n. kept n.0 o.goal) o.cycles_lead h.0.lead_home;
    placed = λ i a is. kept a.edge.target a.edge.input (h.0.placed i a is);
    charged = λ i a is counts. answered_again (shapes_of says nodes) (shapes_of says more) (verdict_shape a.verdict)
        (stack_of (frames_of says below)) (frame_of says o).entry (edge_shape a.edge)
        (heads_of o.tally a.candidate) grown (h.0.charged i a is counts);
  },
  supported_kept says nodes more kept grown below h.1,
)

pub stack_length : {I R : Type 0} (says : Verdicts R) (goals : List (OpenRun I R))
    → length (stack_of (frames_of says goals)) ≡ length goals
stack_length says [] = refl
stack_length says (o ∷ below) = omega
    (arith, length-append (stack_of (frames_of says below)) ((frame_of says o).entry ∷ []), stack_length says below)

-- ---- verdicts

same_verdict-refl : (v : theory.Verdict) → theory.same_verdict v v ≡ true
same_verdict-refl theory.Yes = refl
same_verdict-refl theory.No = refl
same_verdict-refl theory.Neither = refl

pub no_answers : {A : Type 0} (i : ℕ) (a : A) → slice_get [] i ≡ Some a → ⊥
no_answers i a is = cc

-- A frame without edges may have more heads from before its run, and other heads now, as long as the former
-- are among the latter.
heads_change : (nodes : List theory.Node) (f : RunningGoal) (frames : List RunningGoal)
    (provisional : List ProvisionalEntry) (final : List Final) (kept heads : theory_use.Heads)
    → Includes f.heads_before kept → Includes kept heads
    → IsSoundState nodes (f ∷ frames) provisional final → IsSoundState nodes
    (record { entry = f.entry; own = f.own; edges = λ verdict. []; heads_before = kept; heads = heads } ∷ frames)
    provisional final
heads_change nodes f frames provisional final kept heads more within h =
    let r = h.running.0 in
    record {
      is_stack = h.is_stack;
      running = (
        record {
          unfinished = r.unfinished;
          lower = r.lower;
          which_run = r.which_run;
          earlier = λ v definite earlier. heads_keep_use nodes v (stack_of frames)
              (path_kind (stack_of frames) f.entry.step) (path_kind (stack_of frames) f.entry.step) 0 f.entry.node
              f.heads_before kept more (λ depth path cycle recorded. refl) (r.earlier v definite earlier);
          still = within;
          answered = λ v i edge at. absurd (no_answers i edge at);
        },
        h.running.1,
      );
      apart = h.apart;
      stored = h.stored;
      closed = h.closed;
    }

-- what a goal counts before it was answered, and when it is run again
abbrev pub no_tally : Tally
no_tally = record { heads = []; own = None; current = None; finished = [] }

abbrev pub tally_again : Tally → Tally
tally_again t = record t { own = Some no_usages; current = None; finished = [] }

-- a run that begins
abbrev pub new_run : {I R : Type 0} → I → PathKind → NodeId → Option NodeId → Option R → Tally → OpenRun I R
new_run goal step own lead earlier tally = record {
  goal = goal;
  step = step;
  own = own.0;
  cycles_lead = lead;
  provisional = earlier;
  tally = tally;
  is_open = false;
  ignored = [];
  request = None;
  answers = [];
}

-- the edge leads one step further than the answer, from a node that was written after the run's own
pub record LeadsBeyond {I R : Type 0} (says : Verdicts R) (nodes : List (CacheNode I R)) (o : OpenRun I R)
    (verdict : theory.Verdict) (answer : DefiniteAnswer I) (edge : theory.Edge) : Type 0 where
  pub after_own : o.own < answer.edge.target
  pub step : theory.HasShapeEdge (shapes_of says nodes) verdict answer.edge.target
      (theory.cycle_kind verdict) edge.target

-- the edge is that of an answer of this verdict outside ignored candidates, or leads one step further
pub record IsEdgeFrom {I R : Type 0} (says : Verdicts R) (nodes : List (CacheNode I R)) (o : OpenRun I R)
    (verdict : theory.Verdict) (edge : theory.Edge) : Type 0 where
  pub place : ℕ
  pub answer : DefiniteAnswer I
  pub is_at : slice_get o.answers place ≡ Some answer
  pub edge_is : (edge_shape answer.edge ≡ edge) ⊎ LeadsBeyond says nodes o verdict answer edge
  pub verdict_is : verdict_shape answer.verdict ≡ verdict
  pub counts : counted_by o.ignored answer.candidate ≡ true

-- a node of a goal is in the list,
node_at : {I R : Type 0} (nodes : List (CacheNode I R)) (at : ℕ) (goal : I) (n : Option (CacheNode I R))
    → slice_get nodes at ≡ n → option_map (λ m. m.goal) n ≡ Some goal → at < length nodes
node_at nodes at goal None is has = absurd cc
node_at nodes at goal (Some n) is has = slice_get_within nodes at n is

pub node_within : {I R : Type 0} (nodes : List (CacheNode I R)) (at : ℕ) (goal : I)
    → IsNodeOf nodes at goal → at < length nodes
node_within nodes at goal is = node_at nodes at goal (slice_get nodes at) refl is

-- so none of the goals' cycles leads past its end
lead_at : {I R : Type 0} (nodes : List (CacheNode I R)) (own : ℕ) (goal : I) (lead : Option NodeId)
    → IsSomeAnd lead (λ n. IsNodeOf nodes n.0 goal) → elim lead [ None ↦ own | Some n ↦ n.0 ] ≤ length nodes
lead_at nodes own goal None is = absurd is
lead_at nodes own goal (Some n) is = let lower = node_within nodes n.0 goal is in omega (arith, lower)

lead_within : {I R : Type 0} (says : Verdicts R) (nodes : List (CacheNode I R)) (goals : List (OpenRun I R))
    → AreSupported says nodes goals → LeadUpTo (length nodes) goals
lead_within says nodes [] supported = tt
lead_within says nodes (o ∷ below) supported =
    (lead_at nodes o.own o.goal o.cycles_lead supported.0.lead_home, lead_within says nodes below supported.1)

module _ {I R : Type 0} (says : Verdicts R) (nodes : List (CacheNode I R)) where
  -- nothing is under evaluation
  pub nothing_is_justified : AreJustified says nodes []
  nothing_is_justified = record {
    sound = start_is_sound (shapes_of says nodes) [] (λ i x is. absurd (no_answers i x is));
    are_open = tt;
    supported = tt;
    asked = tt;
    tallies = tt;
    in_order = tt;
  }

  pub shapes_opened : (goal : I)
      → shapes_of says (nodes ++ open_node goal ∷ []) ≡ shapes_of says nodes ++ theory.Unfinished ∷ []
  shapes_opened goal = map-append (shape_of says) nodes (open_node goal ∷ [])

  opened_grows : (goal : I) → theory.Grown (shapes_of says nodes) (shapes_of says (nodes ++ open_node goal ∷ []))
  opened_grows goal =
      subst (theory.Grown (shapes_of says nodes)) (sym (shapes_opened goal)) (append_grows (shapes_of says nodes))

  new_node_is : (goal : I) → IsNodeOf (nodes ++ open_node goal ∷ []) (length nodes) goal
  new_node_is goal = ap (option_map (λ n. n.goal)) (get_end nodes (open_node goal))

  -- the goal that was asked is pushed
  pub pushed_is_justified : (goal : I) (step : PathKind) (own : NodeId) (goals : List (OpenRun I R))
      → own.0 ≡ length nodes → NewestAsks goals step goal → AreJustified says nodes goals
      → AreJustified says (nodes ++ open_node goal ∷ []) (new_run goal step own (Some own) None no_tally ∷ goals)
  pushed_is_justified goal step own goals at asks h =
      let many : length (shapes_of says nodes) ≡ own.0 = length-map nodes (shape_of says) ∙ sym at in
      let last : slice_get (nodes ++ open_node goal ∷ []) own.0 ≡ Some (open_node goal) =
      ap (slice_get (nodes ++ open_node goal ∷ [])) at ∙ get_end nodes (open_node goal) in
      record {
        sound =
            subst (λ more. IsSoundState more (frames_of says (new_run goal step own (Some own) None no_tally ∷ goals))
            [] []) (sym (shapes_opened goal))
            (heads_change (shapes_of says nodes ++ theory.Unfinished ∷ [])
            (in_first_run (rank_of step) own.0 (heads_shape [])) (frames_of says goals) [] [] (spare_heads no_tally)
            (heads_shape []) (λ depth path cycle recorded. absurd (recorded.1 refl))
            (λ depth path cycle recorded. absurd (recorded.1 refl))
            (subst (λ n. IsSoundState (shapes_of says nodes ++ theory.Unfinished ∷ [])
            (in_first_run (rank_of step) n (heads_shape []) ∷ frames_of says goals) [] []) many
            (push_keeps_sound (shapes_of says nodes) (frames_of says goals) [] []
            (rank_of step) (heads_shape []) h.sound)));
        are_open = (
          opened_goal (nodes ++ open_node goal ∷ []) own.0 goal last,
          AreOpen-kept nodes (nodes ++ open_node goal ∷ []) (KeepsNodes-appended true nodes goal) goals h.are_open,
        );
        supported = (
          record {
            lead_home = subst (λ n. IsNodeOf (nodes ++ open_node goal ∷ []) n goal) (sym at) (new_node_is goal);
            placed = λ i a is. absurd (no_answers i a is);
            charged = λ i a is. absurd (no_answers i a is);
          },
          supported_kept says nodes (nodes ++ open_node goal ∷ []) (KeepsGoals-appended true nodes goal)
              (opened_grows goal) goals h.supported,
        );
        asked = (asks, h.asked);
        tallies = (record { tallied = fresh_tallied (length goals); open_is = refl; finished_are = refl }, h.tallies);
        in_order = (
          (omega arith, subst (λ n. LeadUpTo n goals) (sym at) (lead_within says nodes goals h.supported)),
          h.in_order,
        );
      }

  -- the newest goal gets a definite answer, in the candidate that is open
  pub answered_is_justified : (a : DefiniteAnswer I) (o : OpenRun I R) (below : List (OpenRun I R))
      → a.candidate ≡ asked_now o
      → MayAnswer says nodes o below (verdict_shape a.verdict) a.edge.kind a.edge.input a.edge.target
      → AreJustified says nodes (o ∷ below)
      → AreJustified says nodes (record o { answers = o.answers ++ a ∷ [] } ∷ below)
  answered_is_justified a o below inside may h = record {
    sound = h.sound;
    are_open = h.are_open;
    supported = (
      record {
        lead_home = h.supported.0.lead_home;
        placed = λ i b is. elim (get_cases o.answers a i b is) [
          | inl old ↦ h.supported.0.placed i b old
          | inr new ↦ subst (λ d. IsNodeOf nodes d.edge.target d.edge.input) new.1 may.of_goal
        ];
        charged = λ i b is kept. elim (get_cases o.answers a i b is) [
          | inl old ↦ h.supported.0.charged i b old kept
          | inr new ↦
              subst (λ (d : DefiniteAnswer I).
              IsAnsweredEdge (shapes_of says nodes) (verdict_shape d.verdict) (stack_of (frames_of says below))
              (frame_of says o).entry (edge_shape d.edge) (heads_of o.tally d.candidate)) new.1
              (subst (λ c. IsAnsweredEdge (shapes_of says nodes) (verdict_shape a.verdict)
              (stack_of (frames_of says below)) (frame_of says o).entry (edge_shape a.edge) (heads_of o.tally c))
              (sym inside) may.answered)
        ];
      },
      h.supported.1,
    );
    asked = h.asked;
    tallies = (
      record { tallied = h.tallies.0.tallied; open_is = h.tallies.0.open_is; finished_are = h.tallies.0.finished_are },
      h.tallies.1,
    );
    in_order = h.in_order;
  }

  -- What it counts changes, and its candidates, and it makes another request: for each candidate that isn't ignored
  -- afterwards it counts all that it did, and so of what was used outside candidates.
  pub recounted_is_justified : (tally : Tally) (is_open : Bool) (ignored : List Bool) (request : Option (Request I R))
      (o : OpenRun I R) (below : List (OpenRun I R))
      → HasTally (length below) (record o { tally = tally; is_open = is_open; ignored = ignored })
      → ((c : Option ℕ) → counted_by ignored c ≡ true
      → (counted_by o.ignored c ≡ true) × Includes (heads_of o.tally c) (heads_of tally c))
      → AreJustified says nodes (o ∷ below) → AreJustified says nodes
      (record o { tally = tally; is_open = is_open; ignored = ignored; request = request } ∷ below)
  recounted_is_justified tally is_open ignored request o below has keeps h = record {
    sound = heads_change (shapes_of says nodes) (frame_of says o) (frames_of says below) [] [] (spare_heads tally)
        (heads_shape tally.heads) (keeps None refl).1 (spare_within (length below) tally) h.sound;
    are_open = h.are_open;
    supported = (
      record {
        lead_home = h.supported.0.lead_home;
        placed = h.supported.0.placed;
        charged = λ i a is kept.
            let was = keeps a.candidate kept in
            answered_more (shapes_of says nodes) (verdict_shape a.verdict) (stack_of (frames_of says below))
            (frame_of says o).entry (edge_shape a.edge) (heads_of o.tally a.candidate) (heads_of tally a.candidate)
            (λ depth path cycle lower recorded. was.1 depth path cycle recorded)
            (h.supported.0.charged i a is was.0);
      },
      h.supported.1,
    );
    asked = h.asked;
    tallies = (record { tallied = has.tallied; open_is = has.open_is; finished_are = has.finished_are }, h.tallies.1);
    in_order = h.in_order;
  }

  -- ---- the newest goal's run has ended

  -- the edges of the result
  abbrev chosen_edges : theory.Verdict → List (Edge I) → theory.Verdict → List theory.Edge
  chosen_edges verdict edges other = cond (theory.same_verdict verdict other) (map edge_shape edges) []

  edge_in : (edges : List (Edge I)) (i : ℕ) (edge : theory.Edge) → slice_get (map edge_shape edges) i ≡ Some edge
      → (e : Edge I) × (slice_get edges i ≡ Some e) × (edge_shape e ≡ edge)
  edge_in [] i edge at = absurd cc
  edge_in (e ∷ es) zero edge at = (e, refl, cc)
  edge_in (e ∷ es) (suc i) edge at = edge_in es i edge at

  -- no goal's cycles lead to a node that was written after the newest goal's own
  pub no_leaf_after : (own : ℕ) (goals : List (OpenRun I R)) → LeadUpTo own goals → (a : ℕ) → own < a
      → IsLeaf (stack_of (frames_of says goals)) a → ⊥
  no_leaf_after own [] up a later leaf = absurd (no_answers leaf.0 leaf.1 leaf.2)
  no_leaf_after own (o ∷ below) up a later leaf =
      elim (leaf_cases (stack_of (frames_of says below)) (frame_of says o).entry a leaf) [
        | inl lower ↦ no_leaf_after own below up.1 a later lower
        | inr is ↦ let least : cycles_node o ≤ own = up.0 in omega (arith, is, least, later)
      ]

  -- what an answer rests on is counted by the goal
  answer_at : (other : theory.Verdict) (a : DefiniteAnswer I) (o : OpenRun I R) (below : List (OpenRun I R))
      → verdict_shape a.verdict ≡ other → IsAnsweredEdge (shapes_of says nodes) (verdict_shape a.verdict)
      (stack_of (frames_of says below)) (frame_of says o).entry (edge_shape a.edge) (heads_of o.tally a.candidate)
      → IsTallied (length below) o.tally → IsAnsweredEdge (shapes_of says nodes) other (stack_of (frames_of says below))
      (frame_of says o).entry (edge_shape a.edge) (heads_shape o.tally.heads)
  answer_at other a o below verdict charged tallied =
      answered_more (shapes_of says nodes) other (stack_of (frames_of says below)) (frame_of says o).entry
      (edge_shape a.edge) (heads_of o.tally a.candidate) (heads_shape o.tally.heads)
      (λ depth path cycle lower. charge_within (length below) o.tally tallied a.candidate depth path cycle)
      (subst (λ v. IsAnsweredEdge (shapes_of says nodes) v (stack_of (frames_of says below)) (frame_of says o).entry
      (edge_shape a.edge) (heads_of o.tally a.candidate)) verdict charged)

  -- so each edge was answered
  backed_at : (other : theory.Verdict) (e : Edge I) (o : OpenRun I R) (below : List (OpenRun I R))
      → LeadUpTo o.own (o ∷ below) → IsBacked says nodes o.own o.answers o.ignored other e
      → IsTallied (length below) o.tally → AreCharged says nodes o below → IsAnsweredEdge (shapes_of says nodes) other
      (stack_of (frames_of says below)) (frame_of says o).entry (edge_shape e) (heads_shape o.tally.heads)
  backed_at other e o below up (OfAnswer j a at verdict counts is) tallied charged =
      subst (λ x. IsAnsweredEdge (shapes_of says nodes) other (stack_of (frames_of says below)) (frame_of says o).entry
      x (heads_shape o.tally.heads)) (ap edge_shape is)
      (answer_at other a o below verdict (charged j a at counts) tallied)
  backed_at other e o below up (Beyond j a at verdict counts later kind kind_too step of_goal) tallied charged =
      answered_beyond (shapes_of says nodes) other (stack_of (frames_of says below)) (frame_of says o).entry
      (edge_shape a.edge) (edge_shape e) (heads_shape o.tally.heads) kind kind_too
      (record { edge = step; inner = λ leaf. no_leaf_after o.own (o ∷ below) up a.edge.target later leaf })
      (answer_at other a o below verdict (charged j a at counts) tallied)

  chosen_at : (b : Bool) (verdict other : theory.Verdict) (edges : List (Edge I)) (o : OpenRun I R)
      (below : List (OpenRun I R)) → theory.same_verdict verdict other ≡ b → LeadUpTo o.own (o ∷ below)
      → AreEdges says nodes o.own o.answers o.ignored verdict edges → IsTallied (length below) o.tally
      → AreCharged says nodes o below → AllAnswered (shapes_of says nodes) other (stack_of (frames_of says below))
      (frame_of says o).entry (cond b (map edge_shape edges) []) (heads_shape o.tally.heads)
  chosen_at false verdict other edges o below same up are tallied charged = λ i edge at. absurd (no_answers i edge at)
  chosen_at true verdict other edges o below same up are tallied charged = λ i edge at.
      let e = edge_in edges i edge at in
      subst (λ x. IsAnsweredEdge (shapes_of says nodes) other (stack_of (frames_of says below))
      (frame_of says o).entry x (heads_shape o.tally.heads)) e.2
      (backed_at other e.0 o below up (subst (λ v. IsBacked says nodes o.own o.answers o.ignored v e.0)
      (sym (same_verdicts verdict other same)) (are i e.0 e.1)) tallied charged)

  -- each of them is that of an answer, or leads one step further
  backed_from : (other : theory.Verdict) (e : Edge I) (o : OpenRun I R)
      → IsBacked says nodes o.own o.answers o.ignored other e → IsEdgeFrom says nodes o other (edge_shape e)
  backed_from other e o (OfAnswer j a at verdict counts is) = record {
    place = j;
    answer = a;
    is_at = at;
    edge_is = inl (ap edge_shape is);
    verdict_is = verdict;
    counts = counts;
  }
  backed_from other e o (Beyond j a at verdict counts later kind kind_too step of_goal) = record {
    place = j;
    answer = a;
    is_at = at;
    edge_is = inr (record { after_own = later; step = step });
    verdict_is = verdict;
    counts = counts;
  }

  chosen_from : (b : Bool) (verdict other : theory.Verdict) (edges : List (Edge I)) (o : OpenRun I R)
      → theory.same_verdict verdict other ≡ b → AreEdges says nodes o.own o.answers o.ignored verdict edges
      → (i : ℕ) (edge : theory.Edge) → slice_get (cond b (map edge_shape edges) []) i ≡ Some edge
      → IsEdgeFrom says nodes o other edge
  chosen_from false verdict other edges o same are i edge at = absurd (no_answers i edge at)
  chosen_from true verdict other edges o same are i edge at =
      let e = edge_in edges i edge at in
      subst (IsEdgeFrom says nodes o other) e.2
      (backed_from other e.0 o (subst (λ v. IsBacked says nodes o.own o.answers o.ignored v e.0)
      (sym (same_verdicts verdict other same)) (are i e.0 e.1)))

  -- other goals' nodes are still open
  AreOpen-ended : (run : EndedRun I R) (k : ℕ) (goal : I) → open_goal nodes k ≡ Some goal → (goals : List (OpenRun I R))
      → OwnsOther k (frames_of says goals) → AreOpen nodes goals → AreOpen (with_run nodes k run) goals
  AreOpen-ended run k goal is [] apart h = tt
  AreOpen-ended run k goal is (o ∷ below) apart h =
      let w = open_is (slice_get nodes k) goal is in
      let other : (o.own ≡ k) → ⊥ = λ e. apart.0 (sym e) in (
        open_kept nodes (with_run nodes k run) o.own o.goal
            (λ n at. ap (λ more. slice_get more o.own) (ap (λ x. elim x [
              | None ↦ nodes
              | Some m ↦ slice_set nodes k (record m { run = Some run })
            ]) w.1) ∙ get_set_other nodes k (record w.0 { run = Some run }) o.own other ∙ at) h.0,
        AreOpen-ended run k goal is below apart.1 h.1,
      )

-- The run of the newest goal came to a result: in the theory's words, with the edges that the result rests on and the
-- place of the answer's node.
pub record EndsWithNode {I R : Type 0} (says : Verdicts R) (nodes after : List (CacheNode I R)) (o : OpenRun I R)
    (below : List (OpenRun I R)) (r : R) (target : Option NodeId) : Type 0 where
  pub edges : theory.Verdict → List theory.Edge
  pub from : (verdict : theory.Verdict) (i : ℕ) (edge : theory.Edge) → slice_get (edges verdict) i ≡ Some edge
      → IsEdgeFrom says nodes o verdict edge
  pub place : ℕ
  pub sound : IsSoundState (shapes_of says nodes)
      (answering (frame_of says o) edges (heads_shape o.tally.heads) ∷ frames_of says below) [] []
  pub answered : Answered (shapes_of says nodes) (frame_of says o).entry o.own edges
      (verdict_of says r) (shapes_of says after) place
  pub goals_kept : KeepsGoals nodes after
  pub open_below : AreOpen after below
  pub definite : verdict_of says r ≢ theory.Neither → IsSomeAnd target (λ n. (n.0 ≡ place) × IsNodeOf after n.0 o.goal)
  pub neither : verdict_of says r ≡ theory.Neither → (target ≡ None) × (cycles_node o ≡ place)

module _ {I R : Type 0} (says : Verdicts R) (nodes : List (CacheNode I R)) (o : OpenRun I R)
    (below : List (OpenRun I R)) (h : AreJustified says nodes (o ∷ below)) where
  home : (lead : Option NodeId) → o.cycles_lead ≡ lead → IsSomeAnd lead (λ n. IsNodeOf nodes n.0 o.goal)
      → IsSomeAnd lead (λ n. (n.0 ≡ cycles_node o) × IsNodeOf nodes n.0 o.goal)
  home None is at = absurd at
  home (Some n) is at = (ap (λ l. elim l [ None ↦ o.own | Some m ↦ m.0 ]) (sym is), at)

  -- it says what the provisional result said
  pub again_ends : (r : R) → verdict_of says r ≢ theory.Neither → SaysAgain says o.provisional r
      → EndsWithNode says nodes nodes o below r o.cycles_lead
  again_ends r definite says = record {
    edges = λ verdict. [];
    from = λ verdict i edge at. absurd (no_answers i edge at);
    place = cycles_node o;
    sound = h.sound;
    answered = Again says;
    goals_kept = λ at goal is. is;
    open_below = h.are_open.1;
    definite = λ d. home o.cycles_lead refl h.supported.0.lead_home;
    neither = λ n. absurd (definite n);
  }

  -- it isn't definite
  pub neither_ends : (r : R) → verdict_of says r ≡ theory.Neither → EndsWithNode says nodes nodes o below r None
  neither_ends r neither = record {
    edges = λ verdict. [];
    from = λ verdict i edge at. absurd (no_answers i edge at);
    place = cycles_node o;
    sound = h.sound;
    answered = Without neither;
    goals_kept = λ at goal is. is;
    open_below = h.are_open.1;
    definite = λ d. absurd (d neither);
    neither = λ n. (refl, refl);
  }

  -- its node is finished with the run
  module _ (node : NodeId) (same_node : node.0 ≡ o.own) (run : EndedRun I R)
      (definite : verdict_of says run.outcome ≢ theory.Neither) (anew : SaysAgain says o.provisional run.outcome → ⊥)
      (edges : AreEdges says nodes o.own o.answers o.ignored (verdict_of says run.outcome) run.edges) where
    is_open : IsSomeAnd (open_goal nodes o.own) (λ goal. goal ≡ o.goal)
    is_open = subst (λ x. IsSomeAnd x (λ goal. goal ≡ o.goal)) (sym h.are_open.0) refl

    later_shapes : shapes_of says (with_run nodes o.own run) ≡ slice_set (shapes_of says nodes) o.own
        (theory.Finished (verdict_of says run.outcome) (map edge_shape run.edges))
    later_shapes =
        ap (shapes_of says) (with_run-is nodes o.own run (λ goal. goal ≡ o.goal) is_open)
        ∙ map-set (shape_of says) nodes o.own
        (record (before nodes o.own run (λ goal. goal ≡ o.goal) is_open).0 { run = Some run })

    later_same : slice_set (shapes_of says nodes) o.own (theory.Finished (verdict_of says run.outcome)
        (chosen_edges says nodes (verdict_of says run.outcome) run.edges (verdict_of says run.outcome)))
        ≡ shapes_of says (with_run nodes o.own run)
    later_same =
        let v = verdict_of says run.outcome in
        ap (λ b. slice_set (shapes_of says nodes) o.own (theory.Finished v (cond b (map edge_shape run.edges) [])))
        (same_verdict-refl v) ∙ sym later_shapes

    own_node_is : IsNodeOf (with_run nodes o.own run) o.own o.goal
    own_node_is =
        let w = open_is (slice_get nodes o.own) o.goal h.are_open.0 in
        KeepsGoals-ended nodes o.own run (λ goal. goal ≡ o.goal) is_open o.own o.goal
        (ap (option_map (λ n. n.goal)) w.1 ∙ ap Some w.3)

    pub anew_ends : EndsWithNode says nodes (with_run nodes o.own run) o below run.outcome (Some node)
    anew_ends =
        let v = verdict_of says run.outcome in
        record {
          edges = chosen_edges says nodes v run.edges;
          from = λ u i edge at. chosen_from says nodes (theory.same_verdict v u) v u run.edges o refl edges i edge at;
          place = o.own;
          sound = answers_keep_sound (shapes_of says nodes) (frame_of says o) (frames_of says below) [] []
              (chosen_edges says nodes v run.edges) (heads_shape o.tally.heads) (spare_within (length below) o.tally)
              (λ u. chosen_at says nodes (theory.same_verdict v u) v u run.edges o below refl h.in_order.0 edges
              h.tallies.0.tallied h.supported.0.charged) h.sound;
          answered = subst (λ more. Answered (shapes_of says nodes) (frame_of says o).entry o.own
              (chosen_edges says nodes v run.edges) v more o.own) later_same (Anew anew);
          goals_kept = KeepsGoals-ended nodes o.own run (λ goal. goal ≡ o.goal) is_open;
          open_below = AreOpen-ended says nodes run o.own o.goal h.are_open.0 below h.sound.apart.0 h.are_open.1;
          definite =
              λ d. (same_node, subst (λ n. IsNodeOf (with_run nodes o.own run) n o.goal) (sym same_node) own_node_is);
          neither = λ n. absurd (definite n);
        }

-- what follows once the run has ended
module _ {I R : Type 0} (says : Verdicts R) (nodes after : List (CacheNode I R)) (o : OpenRun I R)
    (below : List (OpenRun I R)) (h : AreJustified says nodes (o ∷ below)) (r : R) (target : Option NodeId)
    (s : EndsWithNode says nodes after o below r target) where
  grown : theory.Grown (shapes_of says nodes) (shapes_of says after)
  grown = answered_grows (shapes_of says nodes) (frame_of says o).entry o.own s.edges (verdict_of says r)
      h.sound.running.0.unfinished s.answered

  pub popped : IsSoundState (shapes_of says after) (frames_of says below) [] [] × (verdict_of says r ≢ theory.Neither
      → Use (shapes_of says after) (verdict_of says r) (stack_of (frames_of says below))
      (path_kind (stack_of (frames_of says below)) (rank_of o.step)) 0 s.place (heads_shape o.tally.heads))
  popped =
      pop_keeps_sound (shapes_of says nodes) (answering (frame_of says o) s.edges (heads_shape o.tally.heads))
      (frames_of says below) [] [] [] [] (verdict_of says r) (shapes_of says after) s.place s.answered
      (λ i k is. absurd (no_answers i k is)) (λ i k is. absurd (no_answers i k is)) s.sound

  -- the goal is popped: those below stay justified,
  pub below_is_justified : AreJustified says after below
  below_is_justified = record {
    sound = popped.0;
    are_open = s.open_below;
    supported = supported_kept says nodes after s.goals_kept grown below h.supported.1;
    asked = h.asked.1;
    tallies = h.tallies.1;
    in_order = h.in_order.1;
  }

  pub used_at : (t : Option NodeId) → verdict_of says r ≢ theory.Neither
      → IsSomeAnd t (λ n. (n.0 ≡ s.place) × IsNodeOf after n.0 o.goal) → (P : ℕ → Type 0)
      → (IsNodeOf after s.place o.goal → P s.place) → IsSomeAnd t (λ n. P n.0)
  used_at None definite at P from = absurd at
  used_at (Some n) definite at P from = subst P (sym at.0) (from (subst (λ m. IsNodeOf after m o.goal) at.0 at.1))

  -- its node may answer the goal below, whose heads take in its own,
  pub may_answer_parent : (p : OpenRun I R) (rest : List (OpenRun I R)) (tally : Tally) → below ≡ p ∷ rest
      → TakesIn (length (stack_of (frames_of says rest))) (rank_of o.step) (heads_shape o.tally.heads)
      (heads_of tally (asked_now p)) → verdict_of says r ≢ theory.Neither → IsSomeAnd target
      (λ n. MayAnswer says after (record p { tally = tally }) rest (verdict_of says r) o.step o.goal n.0)
  may_answer_parent p rest tally is takes definite =
      let v = verdict_of says r in
      used_at target definite (s.definite definite)
      (λ n. MayAnswer says after (record p { tally = tally }) rest v o.step o.goal n) (λ of_goal. record {
        of_goal = of_goal;
        answered = done_is_answered (shapes_of says after) v (stack_of (frames_of says rest)) (frame_of says p).entry
            (rank_of o.step) s.place (heads_shape o.tally.heads) (heads_of tally (asked_now p))
            (subst (λ b. Use (shapes_of says after) v (stack_of (frames_of says b))
            (path_kind (stack_of (frames_of says b)) (rank_of o.step)) 0 s.place (heads_shape o.tally.heads))
            is (popped.1 definite)) takes;
      })

  -- and has its graph where no goal is below it, or where it rests on none.
  pub last_has_graph : below ≡ [] → HasGraph says after o.goal r target
  last_has_graph none = record {
    definite = λ d. used_at target d (s.definite d)
        (λ n. IsNodeOf after n o.goal × IsClosedGraph (shapes_of says after) (verdict_of says r) n) (λ of_goal. (
          of_goal,
          root_is_graph (shapes_of says after) (verdict_of says r) (path_kind [] (rank_of o.step))
              0 s.place (heads_shape o.tally.heads)
              (subst (λ b. Use (shapes_of says after) (verdict_of says r) (stack_of (frames_of says b))
              (path_kind (stack_of (frames_of says b)) (rank_of o.step)) 0 s.place (heads_shape o.tally.heads))
              none (popped.1 d)),
        ));
    neither = λ n. (s.neither n).0;
  }

  pub headless_has_graph : o.tally.heads ≡ [] → HasGraph says after o.goal r target
  headless_has_graph none = record {
    definite = λ d. used_at target d (s.definite d)
        (λ n. IsNodeOf after n o.goal × IsClosedGraph (shapes_of says after) (verdict_of says r) n) (λ of_goal. (
          of_goal,
          closed_is_graph (shapes_of says after) (verdict_of says r) (stack_of (frames_of says below))
              (path_kind (stack_of (frames_of says below)) (rank_of o.step)) 0 s.place (heads_shape o.tally.heads)
              (subst (λ heads. (depth : ℕ) → UsesNo (heads_shape heads) depth) (sym none)
              (λ depth path cycle recorded. recorded.1 refl)) (popped.1 d),
        ));
    neither = λ n. (s.neither n).0;
  }

  or_first : {A : Type 0} (Q : A → Type 0) (t lead : Option A) → IsSomeAnd t Q → IsSomeAnd (option_or t lead) Q
  or_first Q None lead at = absurd at
  or_first Q (Some n) lead at = at

  -- the node to which the answers of the goal's cycles lead from then on
  pub lead_is : IsSomeAnd (option_or target o.cycles_lead) (λ n. (n.0 ≡ s.place) × IsNodeOf after n.0 o.goal)
  lead_is = elim (verdict_cases (verdict_of says r) theory.Neither) [
    | inl neither ↦
        let n = s.neither neither in
        subst (λ t. IsSomeAnd (option_or t o.cycles_lead) (λ n. (n.0 ≡ s.place) × IsNodeOf after n.0 o.goal)) (sym n.0)
        (IsSomeAnd-weaker (λ m. (m.0 ≡ cycles_node o) × IsNodeOf nodes m.0 o.goal)
        (λ m. (m.0 ≡ s.place) × IsNodeOf after m.0 o.goal)
        (λ m at. (at.0 ∙ n.1, s.goals_kept m.0 o.goal at.1)) o.cycles_lead
        (home says nodes o below h o.cycles_lead refl h.supported.0.lead_home))
    | inr definite ↦
        or_first (λ n. (n.0 ≡ s.place) × IsNodeOf after n.0 o.goal) target o.cycles_lead (s.definite definite)
  ]

  -- The goal is run again under the result.
  module _ (own : NodeId) (at : own.0 ≡ length after) where
    pub leads_there : (lead : Option NodeId) → IsSomeAnd lead (λ n. (n.0 ≡ s.place) × IsNodeOf after n.0 o.goal)
        → elim lead [ None ↦ own.0 | Some n ↦ n.0 ] ≡ s.place
    leads_there None is = absurd is
    leads_there (Some n) is = is.0

    lead_node_within : (lead : Option NodeId) → IsSomeAnd lead (λ n. (n.0 ≡ s.place) × IsNodeOf after n.0 o.goal)
        → elim lead [ None ↦ own.0 | Some n ↦ n.0 ] ≤ own.0
    lead_node_within None is = absurd is
    lead_node_within (Some n) is = let lower = node_within after n.0 o.goal is.1 in omega (arith, lower, at)

    pub rerun_is_justified : AreJustified says (after ++ open_node o.goal ∷ [])
        (new_run o.goal o.step own (option_or target o.cycles_lead) (Some r) (tally_again o.tally) ∷ below)
    rerun_is_justified =
        let v = verdict_of says r in
        let many : length (shapes_of says after) ≡ own.0 = length-map after (shape_of says) ∙ sym at in
        let last : slice_get (after ++ open_node o.goal ∷ []) own.0 ≡ Some (open_node o.goal) =
        ap (slice_get (after ++ open_node o.goal ∷ [])) at ∙ get_end after (open_node o.goal) in
        let again = rerun_keeps_sound (shapes_of says nodes)
        (answering (frame_of says o) s.edges (heads_shape o.tally.heads)) (frames_of says below) [] [] [] v
        (shapes_of says after) s.place s.answered (λ i k is. absurd (no_answers i k is)) s.sound in
        record {
          sound =
              subst (λ more. IsSoundState more (frames_of says
              (new_run o.goal o.step own (option_or target o.cycles_lead) (Some r) (tally_again o.tally) ∷ below))
              [] []) (sym (shapes_opened says after o.goal))
              (subst (λ p. IsSoundState (shapes_of says after ++ theory.Unfinished ∷ []) (record {
                entry = record { step = rank_of o.step; provisional = Some v; node = p };
                own = own.0;
                edges = λ verdict. [];
                heads_before = spare_heads (tally_again o.tally);
                heads = heads_shape o.tally.heads;
              } ∷ frames_of says below) [] []) (sym (leads_there (option_or target o.cycles_lead) lead_is))
              (heads_change (shapes_of says after ++ theory.Unfinished ∷ [])
              (in_next_run (frame_of says o) v s.place own.0) (frames_of says below) [] []
              (spare_heads (tally_again o.tally)) (heads_shape o.tally.heads) (rerun_keeps o.tally)
              (spare_within (length below) (tally_again o.tally))
              (subst (λ n. IsSoundState (shapes_of says after ++ theory.Unfinished ∷ [])
              (in_next_run (frame_of says o) v s.place n ∷ frames_of says below) [] []) many again)));
          are_open = (
            opened_goal (after ++ open_node o.goal ∷ []) own.0 o.goal last,
            AreOpen-kept after (after ++ open_node o.goal ∷ [])
                (KeepsNodes-appended true after o.goal) below s.open_below,
          );
          supported = (
            record {
              lead_home = IsSomeAnd-weaker (λ n. (n.0 ≡ s.place) × IsNodeOf after n.0 o.goal)
                  (λ n. IsNodeOf (after ++ open_node o.goal ∷ []) n.0 o.goal)
                  (λ n is. KeepsGoals-appended true after o.goal n.0 o.goal is.1)
                  (option_or target o.cycles_lead) lead_is;
              placed = λ i a is. absurd (no_answers i a is);
              charged = λ i a is. absurd (no_answers i a is);
            },
            supported_kept says after (after ++ open_node o.goal ∷ []) (KeepsGoals-appended true after o.goal)
                (opened_grows says after o.goal) below below_is_justified.supported,
          );
          asked = h.asked;
          tallies = (
            record {
              tallied = rerun_tallied (length below) o.tally h.tallies.0.tallied;
              open_is = refl;
              finished_are = refl;
            },
            h.tallies.1,
          );
          in_order = (
            (
              lead_node_within (option_or target o.cycles_lead) lead_is,
              subst (λ n. LeadUpTo n below) (sym at) (lead_within says after below below_is_justified.supported),
            ),
            h.in_order.1,
          );
        }
