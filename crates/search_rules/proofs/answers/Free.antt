-- Answers that rest on no goal under evaluation, and stored results, all of which are such, through
-- each move of the goals.
use Rattle.run_records.specs.declared.runs.Fate.{Fate}
use Rattle.std.proofs.Common.{◌≡◌, ℕ, Bool, true, false, List, [], ◌∷◌, ◌++◌, length, Option, None, Some, inl, inr}
use Rattle.std.proofs.Common.{refl, sym, ap, ap₂, ◌∙◌, subst}
use Rattle.std.specs.Option.{IsSomeAnd, option_or}
use Rattle.open_graphs.specs.Graph as theory
use Rattle.search_rules.specs.Below.{IsClosedGraph, Entry, path_kind, Use, UsesNo, Final, ProvisionalEntry, stack_of}
use Rattle.search_rules.specs.Below.{no_heads, PathKind, NodeId, heads_shape, rank_of, CacheNode, open_node, IsNodeOf}
use Rattle.search_rules.specs.Below.{KeepsGoals, HasGraph, IsDefinite, verdict_of, shapes_of, Verdicts, Request, Reply}
use Rattle.search_rules.specs.Below.{StoredResult, EvaluationResult, Store, stored_at, place_of, stored_from}
use Rattle.search_rules.specs.Below.{AreSoundResults, AvailableDepth, OpenGoal, first_entry, no_record}
use Rattle.open_graphs.proofs.Runs.{closed_gives_use}
use Rattle.open_graphs.proofs.Closed.{graph_is_use}
use Rattle.open_graphs.proofs.Asked.{final_is_answered}
use Rattle.graph_nodes.proofs.Definites.{HasNode-kept, IsSomeAnd-weaker}
use Rattle.graph_nodes.proofs.NodeLists.{KeepsGoals-appended}
use Rattle.global_cache.proofs.Stores.{put_cases}
use Rattle.search_rules.specs.Words.{OpenRun, frame_of, frames_of, NewestAsks, AreJustified, MayAnswer, asked_now}
use Rattle.search_rules.specs.Words.{heads_of, IsFree, AreFree, StoresAnswer, Put, runs_of}
use Rattle.search_rules.specs.Results.{NotStored}
use Rattle.search_rules.proofs.answers.Moves.{HoldOver, above_hold, alone, nothing, popped_hold}
use Rattle.search_rules.proofs.answers.Moves.{pushed_hold, rerun_hold}
use Rattle.search_rules.proofs.answers.Kept.{KeepsUses}
use Rattle.search_rules.proofs.justified.Justified.{new_run, no_tally, tally_again, EndsWithNode, popped, used_at}

module _ {I R : Type 0} (says : Verdicts R) where
  -- the node may be used over the stack of these goals with no heads
  abbrev IsUsedFree : List (CacheNode I R) → List (OpenRun I R) → theory.Verdict → ℕ → Type 0
  IsUsedFree nodes goals verdict n =
      Use (shapes_of says nodes) verdict (stack_of (frames_of says goals)) (λ depth. 0) 0 n no_heads

  -- where no goal is under evaluation, an answer that has its graph is free
  free_nothing : (nodes : List (CacheNode I R)) (goal : I) (r : R) (target : Option NodeId)
      → HasGraph says nodes goal r target → IsFree says nodes [] goal r target
  free_nothing nodes goal r target =
      HasNode-kept says nodes nodes (IsClosedGraph (shapes_of says nodes)) (IsUsedFree nodes []) goal r target
      (λ definite n of_goal graph.
      (of_goal, graph_is_use (shapes_of says nodes) (verdict_of says r) (λ depth. 0) 0 n no_heads graph))

  -- the node of a free answer may answer the newest goal's question by any step
  pub free_answers : (nodes : List (CacheNode I R)) (o : OpenRun I R) (below : List (OpenRun I R)) (goal : I) (r : R)
      (target : Option NodeId) → IsFree says nodes (o ∷ below) goal r target → IsDefinite says r → (kind : PathKind)
      → IsSomeAnd target (λ n. MayAnswer says nodes o below (verdict_of says r) kind goal n.0)
  free_answers nodes o below goal r target h d kind =
      let v = verdict_of says r in
      IsSomeAnd-weaker (λ n. IsNodeOf nodes n.0 goal × IsUsedFree nodes (o ∷ below) v n.0)
      (λ n. MayAnswer says nodes o below v kind goal n.0)
      (λ n u. record {
        of_goal = u.0;
        answered = final_is_answered (shapes_of says nodes) v (stack_of (frames_of says below)) (frame_of says o).entry
            (rank_of kind) n.0 (heads_of o.tally (asked_now o)) u.1;
      })
      target (h.definite d)

-- an answer without heads is free below its goal
pub done_is_free : {I R : Type 0} (says : Verdicts R) (nodes after : List (CacheNode I R)) (o : OpenRun I R)
    (below : List (OpenRun I R)) (h : AreJustified says nodes (o ∷ below)) (r : R) (target : Option NodeId)
    (s : EndsWithNode says nodes after o below r target) → o.tally.heads ≡ [] → IsFree says after below o.goal r target
done_is_free says nodes after o below h r target s none =
    let v = verdict_of says r in
    let stack : List Entry = stack_of (frames_of says below) in
    record {
      definite = λ d. used_at says nodes after o below h r target s target d (s.definite d)
          (λ n. IsNodeOf after n o.goal × IsUsedFree says after below v n) (λ of_goal. (
            of_goal,
            closed_gives_use (shapes_of says after) v stack (path_kind stack (rank_of o.step)) (λ depth. 0) 0 0 s.place
                (heads_shape o.tally.heads) no_heads
                (subst (λ heads. (depth : ℕ) → UsesNo (heads_shape heads) depth) (sym none)
                (λ depth path cycle recorded. recorded.1 refl)) ((popped says nodes after o below h r target s).1 d),
          ));
      neither = λ n. (s.neither n).0;
    }

-- ---- all stored results

module _ {I R T : Type 0} (says : Verdicts R) (same : I → I → Bool) where
  -- what keeps each final answer keeps all stored results free
  all_free_kept : (nodes after : List (CacheNode I R)) (goals later : List (OpenRun I R))
      (results : Store I (StoredResult I R T)) → KeepsGoals nodes after
      → ((final : List Final) → HoldOver says nodes goals [] final → HoldOver says after later [] final)
      → AreFree says same nodes goals results → AreFree says same after later results
  all_free_kept nodes after goals later results goals_kept holds all = λ goal place s at.
      HasNode-kept says nodes after (IsUsedFree says nodes goals)
      (IsUsedFree says after later) goal s.result.result s.node
      (λ definite n of_goal used.
      let answer : Final = record { verdict = verdict_of says s.result.result; node = n } in (
        goals_kept n goal of_goal,
        (holds (answer ∷ []) (
          nothing (λ (k : ProvisionalEntry). _),
          alone (λ (x : Final). IsUsedFree says nodes goals x.verdict x.node) answer used,
        )).1 0 answer refl,
      ))
      (all goal place s at)

  -- no goal is under evaluation
  pub all_free_nothing : (scripts : I → List (Reply R) → Request I R) (nodes : List (CacheNode I R))
      (results : Store I (StoredResult I R T))
      → AreSoundResults same says scripts nodes results → AreFree says same nodes [] results
  all_free_nothing scripts nodes results sound =
      λ goal place s at. free_nothing says nodes goal s.result.result s.node (sound goal place s at).graph

  -- a goal is pushed
  pub all_free_pushed_goal :
      {F X A : Type 0} (nodes : List (CacheNode I R)) (input : I) (kind : PathKind) (depth : AvailableDepth)
      (own : NodeId) (frame : F) (becomes : Fate R) (goals : List (OpenGoal X F I R A T))
      (results : Store I (StoredResult I R T))
      → own.0 ≡ length nodes → NewestAsks (runs_of goals) kind input → AreJustified says nodes (runs_of goals)
      → AreFree says same nodes (runs_of goals) results → AreFree says same (nodes ++ open_node input ∷ []) (runs_of ((
        first_entry input kind depth own,
        record {
          frame = frame;
          node = own;
          progress = no_record;
          finished_runs = 0;
          met_overflow_before = false;
          candidates = [];
          fate = becomes;
        },
      ) ∷ goals)) results
  all_free_pushed_goal nodes input kind depth own frame becomes goals results at asks h =
      all_free_kept nodes (nodes ++ open_node input ∷ []) (runs_of goals)
      (new_run input kind own (Some own) None no_tally ∷ runs_of goals) results (KeepsGoals-appended true nodes input)
      (pushed_hold says nodes input kind own (runs_of goals) at h [])

  -- the newest goal's run has ended, and the goal is popped or run again
  module _ (nodes after : List (CacheNode I R)) (o : OpenRun I R) (below : List (OpenRun I R))
      (h : AreJustified says nodes (o ∷ below)) (r : R) (target : Option NodeId)
      (s : EndsWithNode says nodes after o below r target) (results : Store I (StoredResult I R T))
      (all : AreFree says same nodes (o ∷ below) results) where
    pub all_free_popped : AreFree says same after below results
    all_free_popped = all_free_kept nodes after (o ∷ below) below results s.goals_kept
        (λ final. popped_hold says nodes after o below h r target s [] [] final (nothing _)) all

    pub all_free_rerun : (own : NodeId) → own.0 ≡ length after → AreFree says same (after ++ open_node o.goal ∷ [])
        (new_run o.goal o.step own (option_or target o.cycles_lead) (Some r) (tally_again o.tally) ∷ below) results
    all_free_rerun own at =
        all_free_kept nodes (after ++ open_node o.goal ∷ []) (o ∷ below)
        (new_run o.goal o.step own (option_or target o.cycles_lead) (Some r) (tally_again o.tally) ∷ below) results
        (λ k goal is. KeepsGoals-appended true after o.goal k goal (s.goals_kept k goal is))
        (λ final. rerun_hold says nodes after o below h r target s own at [] [] final (nothing _)) all

  -- the newest goal changes, but not its step, its provisional result and its nodes
  pub all_free_above : (nodes : List (CacheNode I R)) (o p : OpenRun I R) (below : List (OpenRun I R))
      (results : Store I (StoredResult I R T))
      → o.step ≡ p.step → o.provisional ≡ p.provisional → o.own ≡ p.own → o.cycles_lead ≡ p.cycles_lead
      → AreFree says same nodes (o ∷ below) results → AreFree says same nodes (p ∷ below) results
  all_free_above nodes o p below results steps earlier owns leads = all_free_kept nodes nodes (o ∷ below) (p ∷ below)
      results (λ k goal is. is) (above_hold says o p below steps earlier owns leads nodes [])

  -- a move keeps all answers
  pub uses_kept_free : (nodes after : List (CacheNode I R)) (goals later : List (OpenRun I R))
      (results : Store I (StoredResult I R T)) → KeepsUses says nodes after goals later
      → AreFree says same nodes goals results → AreFree says same after later results
  uses_kept_free nodes after goals later results keeps =
      all_free_kept nodes after goals later results keeps.goals_kept (keeps.hold [])

  -- an answer that has no heads, and is free, is stored
  pub all_free_stored : {X A : Type 0} → ((x y : I) → same x y ≡ true → x ≡ y)
      → (nodes : List (CacheNode I R)) (goals : List (OpenRun I R)) (old new : Store I (StoredResult I R T))
      (goal : I) (answer : EvaluationResult X I R A T)
      → StoresAnswer same old new goal answer → AreFree says same nodes goals old
      → (answer.heads ≡ [] → IsFree says nodes goals goal answer.result answer.node) → AreFree says same nodes goals new
  all_free_stored by_value nodes goals old new goal answer (NotStored is) all free =
      λ other place s at. all other place s (ap (λ store. stored_at same store other place) (sym is) ∙ at)
  all_free_stored by_value nodes goals old new goal answer (Put token none puts) all free = λ other place s at.
      elim (put_cases same by_value old new goal (place_of answer) (stored_from answer token) puts other place) [
        | inl w ↦
            let here : stored_at same new other place ≡ Some (stored_from answer token) =
            ap₂ (stored_at same new) (sym w.0) (sym w.1) ∙ puts.here in
            let found : Some (stored_from answer token) ≡ Some s = sym here ∙ at in
            let is : stored_from answer token ≡ s = cc in
            subst (λ x. IsFree says nodes goals other x.result.result x.node) is
            (subst (λ x. IsFree says nodes goals x answer.result answer.node) w.0 (free none))
        | inr unchanged ↦ all other place s (sym unchanged ∙ at)
      ]
