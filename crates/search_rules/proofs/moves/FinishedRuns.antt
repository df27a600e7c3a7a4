-- What becomes of the goals once the run of the newest one has ended.
use Rattle.std.proofs.Common.{◌≡◌, ◌≢◌, suc, ◌+◌, ◌<◌, ◌^◌, ◌||◌, Bool, List, [], ◌∷◌, ◌++◌, length, Option, Some}
use Rattle.std.proofs.Common.{option_map, refl, sym, ap, ◌∙◌, subst, arith}
use Rattle.std.specs.Option.{IsSomeAnd, option_or}
use Rattle.std.proofs.lemmas.List.{length-map}
use Rattle.search_rules.specs.Below.{Answer, AnswersNewest, CacheNode, change_newest, CxOf, DelegateOf, Finished}
use Rattle.search_rules.specs.Below.{HasGraph, IsDefinite, newest, NodeId, open_node, Reply, Request, rerun_with, Run}
use Rattle.search_rules.specs.Below.{RunRecord, open_goal, OpenGoal, StackEntry, Step, Store, StoredResult, verdict_of}
use Rattle.search_rules.specs.Below.{Verdicts, with_no_record}
use Rattle.search_rules.specs.Runs.{RerunsWithNode}
use Rattle.search_rules.specs.Words.{AreFree, AreJustified, CanLeave, EndsNewest, EndsRun, HasResultNode, IsFit, IsFree}
use Rattle.search_rules.specs.Words.{IsFresh, IsJustifiedNext, KeepsBut, KeepsEarlier, LeadToGoals, LieBelow, MayAnswer}
use Rattle.search_rules.specs.Words.{NewestLeaves, OpenRun, Reruns, run_of, runs_of, tally_of}
use Rattle.search_rules.proofs.justified.Justified.{below_is_justified, EndsWithNode, headless_has_graph}
use Rattle.search_rules.proofs.justified.Justified.{last_has_graph, may_answer_parent, rerun_is_justified}
use Rattle.search_rules.proofs.justified.Finishing.{answered_newest_is_justified, answers_placed, ends_run, rebases}
use Rattle.search_rules.proofs.justified.Justified.{new_run, tally_again}
use Rattle.search_rules.proofs.records.EarlierNodes.{earlier_but}
use Rattle.search_rules.proofs.answers.Free.{all_free_popped, all_free_rerun, done_is_free}
use Rattle.search_rules.proofs.answers.Taken.{later_run, taken_fits, takes_in}

-- ---- the goal is run again

module _ {X F I R A T : Type 0} where
  -- the newest goal, read once its record was handed out
  pub record TakenFrom (old : List (OpenGoal X F I R A T)) (e : StackEntry X I R A T)
      (y : Run X F I R A T) (p : RunRecord I R) : Type 0 where
    pub run : Run X F I R A T
    pub below : List (OpenGoal X F I R A T)
    pub was : old ≡ (e, run) ∷ below
    pub same_node : y.node ≡ run.node
    pub progress_is : p ≡ run.progress

  pub taken_from : (old taken : List (OpenGoal X F I R A T)) (e : StackEntry X I R A T) (y : Run X F I R A T)
      (p : RunRecord I R) → taken ≡ change_newest with_no_record old
      → option_map (λ s. s.1.progress) (newest old) ≡ Some p → option_map (λ s. s.0) (newest taken) ≡ Some e
      → option_map (λ s. s.1) (newest taken) ≡ Some y → TakenFrom old e y p
  taken_from [] taken e y p is progress entry run = absurd cc
  taken_from (s ∷ below) taken e y p is progress entry run =
      let first : Some s.0 ≡ Some e =
      ap (λ l. option_map (λ (t : OpenGoal X F I R A T). t.0) (newest l)) (sym is) ∙ entry in
      let second : Some (record s.1 { progress = (with_no_record s).1.progress }) ≡ Some y =
      ap (λ l. option_map (λ (t : OpenGoal X F I R A T). t.1) (newest l)) (sym is) ∙ run in
      let same : s.0 ≡ e = cc in
      let other : record s.1 { progress = (with_no_record s).1.progress } ≡ y = cc in
      record {
        run = s.1;
        below = below;
        was = ap (λ x. (x, s.1) ∷ below) same;
        same_node = ap (λ (x : Run X F I R A T). x.node) (sym other);
        progress_is = cc;
      }

  -- the run that has its node ended as the newest one
  pub taken_ends : (says : Verdicts R) (scripts : I → List (Reply R) → Request I R) (nodes : List (CacheNode I R))
      (old : List (OpenGoal X F I R A T)) (e : StackEntry X I R A T) (y : Run X F I R A T) (p : RunRecord I R) (r : R)
      → TakenFrom old e y p → AreJustified says nodes (runs_of old) → EndsNewest says scripts old r
      → EndsRun says scripts nodes y.node p r
  taken_ends says scripts nodes old e y p r t h ends =
      subst (λ n. EndsRun says scripts nodes n p r) (sym t.same_node)
      (subst (λ q. EndsRun says scripts nodes t.run.node q r) (sym t.progress_is)
      (ends_run says nodes nodes e t.run t.below (subst (λ l. AreJustified says nodes (runs_of l)) t.was h) scripts r
      (subst (λ l. EndsNewest says scripts l r) t.was ends)))

  pub taken_open : (says : Verdicts R) (nodes : List (CacheNode I R)) (old : List (OpenGoal X F I R A T))
      (e : StackEntry X I R A T) (y : Run X F I R A T) (p : RunRecord I R)
      → TakenFrom old e y p → AreJustified says nodes (runs_of old) → open_goal nodes y.node.0 ≡ Some e.input
  taken_open says nodes old e y p t h =
      subst (λ n. open_goal nodes n.0 ≡ Some e.input) (sym t.same_node)
      (subst (λ l. AreJustified says nodes (runs_of l)) t.was h).are_open.0

  -- and each answer on its record leads to a node of its goal
  pub taken_placed : (says : Verdicts R) (nodes : List (CacheNode I R)) (old : List (OpenGoal X F I R A T))
      (e : StackEntry X I R A T) (y : Run X F I R A T) (p : RunRecord I R)
      → TakenFrom old e y p → AreJustified says nodes (runs_of old) → LeadToGoals nodes p.answers
  taken_placed says nodes old e y p t h =
      subst (λ (q : RunRecord I R). LeadToGoals nodes q.answers) (sym t.progress_is)
      (answers_placed says nodes nodes e t.run t.below (subst (λ l. AreJustified says nodes (runs_of l)) t.was h))

  -- so the nodes that were there before those of the goals' runs stay where that run ends
  pub earlier_taken : (before after : List (CacheNode I R)) (old : List (OpenGoal X F I R A T))
      (e : StackEntry X I R A T) (y : Run X F I R A T) (p : RunRecord I R)
      → TakenFrom old e y p → KeepsBut y.node.0 before after → KeepsEarlier old before after
  earlier_taken before after old e y p t but =
      subst (λ gs. KeepsEarlier gs before after) (sym t.was)
      (earlier_but (e, t.run) t.below before after (subst (λ n. KeepsBut n.0 before after) t.same_node but))

  pub again_is : (old taken new : List (OpenGoal X F I R A T)) (e : StackEntry X I R A T) (run : Run X F I R A T)
      (below : List (OpenGoal X F I R A T)) (r : R) (lead : Option NodeId) (frame : F) (own : NodeId)
      → old ≡ (e, run) ∷ below → taken ≡ change_newest with_no_record old
      → new ≡ change_newest (rerun_with r lead frame own) taken
      → new ≡ rerun_with r lead frame own (with_no_record (e, run)) ∷ below
  again_is old taken new e run below r lead frame own was is then =
      then ∙ ap (change_newest (rerun_with r lead frame own)) is
      ∙ ap (λ l. change_newest (rerun_with r lead frame own) (change_newest with_no_record l)) was

  -- what follows of the newest goal, as its run was read, holds of the goals once it is run again
  module _ (says : Verdicts R) (before after : List (CacheNode I R)) (old taken new : List (OpenGoal X F I R A T))
      (e : StackEntry X I R A T) (y : Run X F I R A T) (p : RunRecord I R) (r : R) (target : Option NodeId) (frame : F)
      (own : NodeId) (t : TakenFrom old e y p) (is : taken ≡ change_newest with_no_record old)
      (then : new ≡ change_newest (rerun_with r (option_or target e.state.node) frame own) taken)
      (ended : HasResultNode says before after e.state.provisional_result y.node e.state.node p r target)
      (at : own.0 ≡ length after) (h : AreJustified says before (runs_of old)) where
    justified_here : AreJustified says before (runs_of ((e, t.run) ∷ t.below))
    justified_here = subst (λ l. AreJustified says before (runs_of l)) t.was h

    ends_here : EndsWithNode says before after (run_of (e, t.run)) (runs_of t.below) r target
    ends_here =
        rebases says before after e t.run t.below justified_here r target
        (subst (λ n. HasResultNode says before after e.state.provisional_result n e.state.node t.run.progress r target)
        t.same_node
        (subst (λ q. HasResultNode says before after e.state.provisional_result y.node e.state.node q r target)
        t.progress_is ended))

    pub rerun_holds : (P Q : List (OpenRun I R) → Type 0)
        → (AreJustified says before (run_of (e, t.run) ∷ runs_of t.below)
        → EndsWithNode says before after (run_of (e, t.run)) (runs_of t.below) r target
        → P (run_of (e, t.run) ∷ runs_of t.below) → Q (new_run e.input e.step_kind_from_parent own
        (option_or target e.state.node) (Some r) (tally_again (tally_of e.state t.run.candidates)) ∷ runs_of t.below))
        → P (runs_of old) → Q (runs_of new)
    rerun_holds P Q keeps was =
        subst (λ l. Q (runs_of l))
        (sym (again_is old taken new e t.run t.below r (option_or target e.state.node) frame own t.was is then))
        (keeps justified_here ends_here (subst (λ l. P (runs_of l)) t.was was))

  -- it is run again with the node of its result
  pub reran_with_node : (says : Verdicts R) (before after opened : List (CacheNode I R))
      (old taken new : List (OpenGoal X F I R A T)) (e : StackEntry X I R A T) (y : Run X F I R A T) (p : RunRecord I R)
      (r : R) (target : Option NodeId) (frame : F) (own : NodeId)
      → TakenFrom old e y p → taken ≡ change_newest with_no_record old
      → new ≡ change_newest (rerun_with r (option_or target e.state.node) frame own) taken
      → HasResultNode says before after e.state.provisional_result y.node e.state.node p r target → own.0 ≡ length after
      → opened ≡ after ++ open_node e.input ∷ [] → RerunsWithNode says before opened r old new
  reran_with_node says before after opened old taken new e y p r target frame own t is then ended at opens = record {
    item = (e, t.run);
    below = t.below;
    ended = after;
    target = target;
    frame = frame;
    own = own;
    was = t.was;
    node =
        subst (λ n. HasResultNode says before after e.state.provisional_result n e.state.node t.run.progress r target)
        t.same_node
        (subst (λ q. HasResultNode says before after e.state.provisional_result y.node e.state.node q r target)
        t.progress_is ended);
    opened = opens;
    place = at;
    is = again_is old taken new e t.run t.below r (option_or target e.state.node) frame own t.was is then;
  }

  -- the goals stay justified
  pub rerun_justified : (says : Verdicts R) (before after : List (CacheNode I R))
      (old taken new : List (OpenGoal X F I R A T)) (e : StackEntry X I R A T) (y : Run X F I R A T) (p : RunRecord I R)
      (r : R) (target : Option NodeId) (frame : F) (own : NodeId)
      → TakenFrom old e y p → taken ≡ change_newest with_no_record old
      → new ≡ change_newest (rerun_with r (option_or target e.state.node) frame own) taken
      → HasResultNode says before after e.state.provisional_result y.node e.state.node p r target → own.0 ≡ length after
      → AreJustified says before (runs_of old) → AreJustified says (after ++ open_node e.input ∷ []) (runs_of new)
  rerun_justified says before after old taken new e y p r target frame own t is then ended at h =
      rerun_holds says before after old taken new e y p r target frame own t is then ended at h
      (AreJustified says before) (AreJustified says (after ++ open_node e.input ∷ []))
      (λ here s was.
      rerun_is_justified says before after (run_of (e, t.run)) (runs_of t.below) here r target s own at) h

  -- and stored results rest on none of them
  pub rerun_free : (says : Verdicts R) (same : I → I → Bool) (results : Store I (StoredResult I R T))
      (before after : List (CacheNode I R)) (old taken new : List (OpenGoal X F I R A T)) (e : StackEntry X I R A T)
      (y : Run X F I R A T) (p : RunRecord I R) (r : R) (target : Option NodeId) (frame : F) (own : NodeId)
      → TakenFrom old e y p → taken ≡ change_newest with_no_record old
      → new ≡ change_newest (rerun_with r (option_or target e.state.node) frame own) taken
      → HasResultNode says before after e.state.provisional_result y.node e.state.node p r target → own.0 ≡ length after
      → AreJustified says before (runs_of old) → AreFree says same before (runs_of old) results
      → AreFree says same (after ++ open_node e.input ∷ []) (runs_of new) results
  rerun_free says same results before after old taken new e y p r target frame own t is then ended at h =
      rerun_holds says before after old taken new e y p r target frame own t is then ended at h
      (λ goals. AreFree says same before goals results)
      (λ goals. AreFree says same (after ++ open_node e.input ∷ []) goals results)
      (λ here s free.
      all_free_rerun says same before after (run_of (e, t.run)) (runs_of t.below) here r target s results free own at)

-- and the newest is run again
pub reran : {D C V P F I R A T : Type 0} (G : DelegateOf D C V P F I R A T) (X : CxOf C I R A T) (cx : C)
    (old taken new : List (OpenGoal C F I R A T)) (e : StackEntry C I R A T) (y : Run C F I R A T) (p : RunRecord I R)
    (r : R) (lead : Option NodeId) (frame : F) (own : NodeId)
    → TakenFrom old e y p → taken ≡ change_newest with_no_record old
    → new ≡ change_newest (rerun_with r lead frame own) taken → IsFresh G X cx frame e.input → Reruns G X cx r old new
reran G X cx old taken new e y p r lead frame own t is then fresh = record {
  item = (e, t.run);
  below = t.below;
  target = lead;
  frame = frame;
  own = own;
  was = t.was;
  is = again_is old taken new e t.run t.below r lead frame own t.was is then;
  fresh = fresh;
}

-- ---- the goal is popped

module _ {X F I R A T : Type 0} (says : Verdicts R) (before after : List (CacheNode I R))
    (old : List (OpenGoal X F I R A T)) (entry : StackEntry X I R A T) (run : Run X F I R A T)
    (rest : List (OpenGoal X F I R A T)) (was : old ≡ (entry, run) ∷ rest) where
  justified_then : AreJustified says before (runs_of old) → AreJustified says before (runs_of ((entry, run) ∷ rest))
  justified_then h = subst (λ l. AreJustified says before (runs_of l)) was h

  pub taken_run_ends : (scripts : I → List (Reply R) → Request I R) (r : R) → AreJustified says before (runs_of old)
      → (IsDefinite says r → EndsNewest says scripts old r) → IsDefinite says r
      → EndsRun says scripts before run.node run.progress r
  taken_run_ends scripts r h ends definite =
      ends_run says before before entry run rest (justified_then h) scripts r
      (subst (λ l. EndsNewest says scripts l r) was (ends definite))

  pub taken_run_open : AreJustified says before (runs_of old) → open_goal before run.node.0 ≡ Some entry.input
  taken_run_open h = (justified_then h).are_open.0

  pub taken_run_placed : AreJustified says before (runs_of old) → LeadToGoals before run.progress.answers
  taken_run_placed h = answers_placed says before before entry run rest (justified_then h)

  module _ (r : R) (target : Option NodeId) (h : AreJustified says before (runs_of old)) (ended : HasResultNode says
      before after entry.state.provisional_result run.node entry.state.node run.progress r target) where
    so : EndsWithNode says before after (run_of (entry, run)) (runs_of rest) r target
    so = rebases says before after entry run rest (justified_then h) r target ended

    -- no goal is left
    pub finished_justified : (new : List (OpenGoal X F I R A T)) → length rest ≡ 0
        → IsJustifiedNext says after old new (Finished (record { result = r; node = target }))
    finished_justified new none =
        subst (λ l. IsJustifiedNext says after l new (Finished (record { result = r; node = target }))) (sym was)
        (last_has_graph says before after (run_of (entry, run)) (runs_of rest)
        (justified_then h) r target so (nothing rest none))
      where
        nothing : (l : List (OpenGoal X F I R A T)) → length l ≡ 0 → runs_of l ≡ []
        nothing [] e = refl
        nothing (x ∷ l) e = absurd (omega (arith, e))

    -- a goal that rests on none has its graph,
    pub headless_graph : entry.state.heads ≡ [] → HasGraph says after entry.input r target
    headless_graph none =
        headless_has_graph says before after (run_of (entry, run)) (runs_of rest) (justified_then h) r target so none

    -- which leads to no goal below
    pub headless_is_free : entry.state.heads ≡ [] → IsFree says after (runs_of rest) entry.input r target
    headless_is_free none =
        done_is_free says before after (run_of (entry, run)) (runs_of rest) (justified_then h) r target so none

    pub stored_stay_free : (same : I → I → Bool) (results : Store I (StoredResult I R T))
        → AreFree says same before (runs_of old) results → AreFree says same after (runs_of rest) results
    stored_stay_free same results free =
        all_free_popped says same before after (run_of (entry, run)) (runs_of rest) (justified_then h) r target so
        results (subst (λ l. AreFree says same before (runs_of l) results) was free)

    -- the goal below takes the answer over
    module _ (new : List (OpenGoal X F I R A T))
        (a : AnswersNewest entry.step_kind_from_parent entry.state.required_depth
        (entry.state.encountered_overflow || run.met_overflow_before) entry.state.heads rest new) where
      below_justified : AreJustified says after (runs_of rest)
      below_justified =
          below_is_justified says before after (run_of (entry, run)) (runs_of rest) (justified_then h) r target so

      -- the heads of the goal lie below it
      heads_lower : LieBelow (suc (length a.below)) entry.state.heads
      heads_lower = subst (λ n. LieBelow n entry.state.heads) (length-map rest run_of ∙ ap length a.was)
          (justified_then h).tallies.0.tallied.lower

      may_answer : IsDefinite says r
          → IsSomeAnd target (λ n. MayAnswer says after (later_run says after rest new entry.step_kind_from_parent
          entry.state.required_depth (entry.state.encountered_overflow || run.met_overflow_before) entry.state.heads a)
          (runs_of a.below) (verdict_of says r) entry.step_kind_from_parent entry.input n.0)
      may_answer =
          may_answer_parent says before after (run_of (entry, run)) (runs_of rest) (justified_then h) r target so
          (run_of (a.entry, a.run)) (runs_of a.below) (tally_of a.state a.run.candidates) (ap runs_of a.was)
          (takes_in says after rest new entry.step_kind_from_parent entry.state.required_depth
          (entry.state.encountered_overflow || run.met_overflow_before) entry.state.heads a heads_lower below_justified)

      pub step_justified : AreJustified says after (runs_of new) × IsFit says after (runs_of new) (Answer r) target
      step_justified = (
        answered_newest_is_justified says after entry.step_kind_from_parent entry.state.required_depth
            (entry.state.encountered_overflow || run.met_overflow_before) entry.state.heads
            rest new a heads_lower below_justified,
        taken_fits says after rest new entry.step_kind_from_parent entry.state.required_depth
            (entry.state.encountered_overflow || run.met_overflow_before) entry.state.heads a r entry.input target
            (justified_then h).asked.0 may_answer,
      )

      leaves_at : (l : List (OpenGoal X F I R A T))
          → AnswersNewest entry.step_kind_from_parent entry.state.required_depth
          (entry.state.encountered_overflow || run.met_overflow_before) entry.state.heads l new
          → length l ≢ 0 → NewestLeaves r ((entry, run) ∷ l) (Step (record { reply = Answer r; node = target })) new
      leaves_at [] b some = absurd (some refl)
      leaves_at (p ∷ below) b some = (target, refl, b)

      pub leaves_step : length rest ≢ 0 → NewestLeaves r old (Step (record { reply = Answer r; node = target })) new
      leaves_step some = subst (λ l. NewestLeaves r l (Step (record { reply = Answer r; node = target })) new)
          (sym was) (leaves_at rest a some)

  -- what the goal required fits the goal below it
  fits_at : (l : List (OpenGoal X F I R A T)) → CanLeave ((entry, run) ∷ l) → length l ≢ 0
      → entry.state.required_depth + 1 < 2 ^ 64
  fits_at [] can some = absurd (some refl)
  fits_at (p ∷ below) can some = can

  pub required_fits : CanLeave old → length rest ≢ 0 → entry.state.required_depth + 1 < 2 ^ 64
  required_fits can some = fits_at rest (subst CanLeave was can) some
