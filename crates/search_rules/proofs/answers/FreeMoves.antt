-- Stored results rest on no goal under evaluation, whatever the newest goal notes; so each of them
-- may answer its question.
use Rattle.std.proofs.Common.{Bool, List, ◌∷◌, sym, subst}
use Rattle.search_rules.specs.Below.{Request, Reply, Answer, PathKind, OpenGoal, StoredResult, CacheNode, Heads, Hit}
use Rattle.search_rules.specs.Below.{Store, with_depth, with_nested_goals, AnswersNewest, TakesStored}
use Rattle.search_rules.specs.Below.{NotesOverflow, Verdicts}
use Rattle.search_rules.specs.Words.{AreFree, IsFit, IsFree, IsUsable, NewestAsks, run_of, runs_of}
use Rattle.search_rules.proofs.justified.Finishing.{answer_fits, overflow_noted_same, stored_taken_same}
use Rattle.search_rules.proofs.answers.Free.{free_answers, uses_kept_free}
use Rattle.search_rules.proofs.answers.Kept.{taken_keeps}

module _ {X F I R A T : Type 0} (says : Verdicts R) (same : I → I → Bool) (nodes : List (CacheNode I R))
    (results : Store I (StoredResult I R T)) (old new : List (OpenGoal X F I R A T)) where
  -- the newest goal takes an answer over
  pub answered_newest_free : (step : PathKind) (required : _) (overflow : Bool) (answer : Heads)
      → AnswersNewest step required overflow answer old new → AreFree says same nodes (runs_of old) results
      → AreFree says same nodes (runs_of new) results
  answered_newest_free step required overflow answer a =
      uses_kept_free says same nodes nodes (runs_of old) (runs_of new) results
      (taken_keeps says nodes old new step required overflow answer a)

  -- or a stored result,
  pub stored_taken_free : (step : PathKind) (hit : Hit I R T) → TakesStored same step hit old new
      → AreFree says same nodes (runs_of old) results → AreFree says same nodes (runs_of new) results
  stored_taken_free step hit t free =
      subst (λ l. AreFree says same nodes l results) (stored_taken_same says nodes same old new step hit t) free

  -- or notes a question that was refused
  pub overflow_noted_free : NotesOverflow same old new → AreFree says same nodes (runs_of old) results
      → AreFree says same nodes (runs_of new) results
  overflow_noted_free n free =
      subst (λ l. AreFree says same nodes l results) (overflow_noted_same says nodes same old new n) free

  -- a stored result answers the newest goal's question
  pub stored_fits : (scripts : I → List (Reply R) → Request I R) (step : PathKind) (goal : I) (depth : _)
      (hit : Hit I R T) → IsUsable same scripts results goal depth hit → TakesStored same step hit old new
      → NewestAsks (runs_of old) step goal → AreFree says same nodes (runs_of old) results
      → IsFit says nodes (runs_of new) (Answer hit.result) hit.node
  stored_fits scripts step goal depth hit u t asks free =
      let later : OpenGoal X F I R A T = (
        record t.entry {
          state = with_nested_goals (with_depth t.entry.state hit.required_depth hit.encountered_overflow) t.nested;
        },
        t.run,
      ) in
      let there : IsFree says nodes (run_of later ∷ runs_of t.below) goal hit.result hit.node =
      subst (λ r. IsFree says nodes (runs_of ((t.entry, t.run) ∷ t.below)) goal r hit.node) u.result_is
      (subst (λ n. IsFree says nodes (runs_of ((t.entry, t.run) ∷ t.below)) goal u.stored.result.result n) u.node_is
      (subst (λ l. IsFree says nodes (runs_of l) goal u.stored.result.result u.stored.node) t.was
      (free goal u.place u.stored u.is_stored))) in
      subst (λ l. IsFit says nodes (runs_of l) (Answer hit.result) hit.node) (sym t.is)
      (answer_fits says nodes (run_of later) (runs_of t.below) hit.result step goal hit.node
      (subst (λ l. NewestAsks (runs_of l) step goal) t.was asks)
      (λ definite. free_answers says nodes (run_of later) (runs_of t.below) goal
      hit.result hit.node there definite step))
