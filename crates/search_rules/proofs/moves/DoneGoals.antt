-- The newest goal is done: its answer is given to the goal below it, and stored where it has no heads.
use Rattle.std.proofs.Common.{◌≡◌, ◌≢◌, ◌||◌, Bool, true, List, [], ◌∷◌, length, Option, refl, sym, ap, ◌∙◌}
use Rattle.std.proofs.Common.{subst, arith}
use Rattle.search_rules.specs.Below.{NodeId, Answer, PathKind, StoredResult, EvaluationResult, OpenGoal, StackEntry}
use Rattle.search_rules.specs.Below.{CacheNode, Store, Run, Next, Step, Finished, AnswersNewest, NestsAnswer, Verdicts}
use Rattle.search_rules.specs.Words.{AreFree, AreJustified, final_answer, GivesAnswer, GivesNested, HasResultNode}
use Rattle.search_rules.specs.Words.{IsJustifiedNext, MayPutNewest, NewestLeaves, node_given, place_of_item}
use Rattle.search_rules.specs.Words.{runs_of, StoresAnswer}
use Rattle.search_rules.proofs.answers.FreeMoves.{answered_newest_free}
use Rattle.search_rules.proofs.answers.Free.{all_free_stored}
use Rattle.search_rules.proofs.moves.FinishedRuns.{finished_justified, headless_is_free, leaves_step}
use Rattle.search_rules.proofs.moves.FinishedRuns.{step_justified, stored_stay_free}
use Rattle.search_rules.proofs.moves.Storing.{stored_result}

module _ {X F I R A T : Type 0} (step : PathKind) (answer : EvaluationResult X I R A T) where
  pub given_to_none : (goals : List (OpenGoal X F I R A T)) → length goals ≡ 0
      → GivesAnswer step answer goals (Finished (record { result = answer.result; node = answer.node })) goals
  given_to_none [] none = (refl, refl)
  given_to_none (p ∷ below) none = absurd (omega (arith, none))

  pub given_to_newest : (goals new : List (OpenGoal X F I R A T)) → length goals ≢ 0
      → AnswersNewest step answer.required_depth answer.encountered_overflow answer.heads goals new
      → GivesAnswer step answer goals (Step (record { reply = Answer answer.result; node = answer.node })) new
  given_to_newest [] new some a = absurd (some refl)
  given_to_newest (p ∷ below) new some a = (refl, a)

  -- what comes next has the answer's node
  pub gives_node : (goals : List (OpenGoal X F I R A T)) (next : Next R) (new : List (OpenGoal X F I R A T))
      → GivesAnswer step answer goals next new → node_given next ≡ answer.node
  gives_node [] next new given = ap node_given given.0
  gives_node (p ∷ below) next new given = ap node_given given.0

  -- the same of the nested goals
  pub nested_to_none : (same : I → I → Bool) (goals : List (OpenGoal X F I R A T)) → length goals ≡ 0
      → GivesNested same step answer.nested_goals goals goals
  nested_to_none same [] none = tt
  nested_to_none same (p ∷ below) none = absurd (omega (arith, none))

  pub nested_to_newest : (same : I → I → Bool) (goals new : List (OpenGoal X F I R A T))
      → NestsAnswer same step answer.nested_goals goals new → GivesNested same step answer.nested_goals goals new
  nested_to_newest same [] new takes = tt
  nested_to_newest same (p ∷ below) new takes = takes

module _ {X F I R A T : Type 0} (says : Verdicts R) (before after : List (CacheNode I R))
    (old : List (OpenGoal X F I R A T)) (entry : StackEntry X I R A T) (run : Run X F I R A T)
    (rest : List (OpenGoal X F I R A T)) (was : old ≡ (entry, run) ∷ rest) (r : R) (target : Option NodeId)
    (h : AreJustified says before (runs_of old)) (ended : HasResultNode says before after entry.state.provisional_result
    run.node entry.state.node run.progress r target) where
  some_below : (p : OpenGoal X F I R A T) (below : List (OpenGoal X F I R A T)) → rest ≡ p ∷ below → length rest ≢ 0
  some_below p below is none = omega (arith, ap length is, none)

  leaves_at : (l new : List (OpenGoal X F I R A T)) (next : Next R) → rest ≡ l
      → GivesAnswer entry.step_kind_from_parent (final_answer (entry, run) r target) l next new
      → NewestLeaves r old next new
  leaves_at [] new next is given =
      subst (λ o. NewestLeaves r o next new) (sym (was ∙ ap (λ l. (entry, run) ∷ l) is)) (target, given.0, given.1)
  leaves_at (p ∷ below) new next is given =
      let a : AnswersNewest entry.step_kind_from_parent entry.state.required_depth
      (entry.state.encountered_overflow || run.met_overflow_before) entry.state.heads rest new =
      subst (λ l. AnswersNewest entry.step_kind_from_parent entry.state.required_depth
      (entry.state.encountered_overflow || run.met_overflow_before) entry.state.heads l new) (sym is) given.1 in
      subst (λ n. NewestLeaves r old n new) (sym given.0)
      (leaves_step says before after old entry run rest was r target h ended new a (some_below p below is))

  pub given_leaves : (new : List (OpenGoal X F I R A T)) (next : Next R)
      → GivesAnswer entry.step_kind_from_parent (final_answer (entry, run) r target) rest next new
      → NewestLeaves r old next new
  given_leaves new next given = leaves_at rest new next refl given

  justified_at : (l new : List (OpenGoal X F I R A T)) (next : Next R) → rest ≡ l
      → GivesAnswer entry.step_kind_from_parent (final_answer (entry, run) r target) l next new
      → IsJustifiedNext says after old new next
  justified_at [] new next is given =
      subst (λ n. IsJustifiedNext says after old new n) (sym given.0)
      (finished_justified says before after old entry run rest was r target h ended new (ap length is))
  justified_at (p ∷ below) new next is given =
      let a : AnswersNewest entry.step_kind_from_parent entry.state.required_depth
      (entry.state.encountered_overflow || run.met_overflow_before) entry.state.heads rest new =
      subst (λ l. AnswersNewest entry.step_kind_from_parent entry.state.required_depth
      (entry.state.encountered_overflow || run.met_overflow_before) entry.state.heads l new) (sym is) given.1 in
      subst (λ n. IsJustifiedNext says after old new n) (sym given.0)
      (step_justified says before after old entry run rest was r target h ended new a)

  pub given_justified : (new : List (OpenGoal X F I R A T)) (next : Next R)
      → GivesAnswer entry.step_kind_from_parent (final_answer (entry, run) r target) rest next new
      → IsJustifiedNext says after old new next
  given_justified new next given = justified_at rest new next refl given

  free_at : (same : I → I → Bool) (results : Store I (StoredResult I R T)) (l new : List (OpenGoal X F I R A T))
      (next : Next R) → GivesAnswer entry.step_kind_from_parent (final_answer (entry, run) r target) l next new
      → AreFree says same after (runs_of l) results → AreFree says same after (runs_of new) results
  free_at same results [] new next given free =
      subst (λ l. AreFree says same after (runs_of l) results) (sym given.1) free
  free_at same results (p ∷ below) new next given free = answered_newest_free says same after results (p ∷ below) new
      entry.step_kind_from_parent entry.state.required_depth
      (entry.state.encountered_overflow || run.met_overflow_before) entry.state.heads given.1 free

  -- the stored results rest on no goal that is left, with the answer too
  pub given_free : (same : I → I → Bool) → ((x y : I) → same x y ≡ true → x ≡ y)
      → (results stored : Store I (StoredResult I R T)) (new : List (OpenGoal X F I R A T)) (next : Next R)
      → GivesAnswer entry.step_kind_from_parent (final_answer (entry, run) r target) rest next new
      → StoresAnswer same results stored entry.input (final_answer (entry, run) r target)
      → AreFree says same before (runs_of old) results → AreFree says same after (runs_of new) stored
  given_free same by_value results stored new next given stores free =
      free_at same stored rest new next given
      (all_free_stored says same by_value after (runs_of rest) results stored entry.input
      (final_answer (entry, run) r target) stores
      (stored_stay_free says before after old entry run rest was r target h ended same results free)
      (headless_is_free says before after old entry run rest was r target h ended))

  -- what was stored is the newest goal's result
  pub newest_stored : (same : I → I → Bool) (results stored : Store I (StoredResult I R T))
      → StoresAnswer same results stored entry.input (final_answer (entry, run) r target)
      → MayPutNewest same old r results stored
  newest_stored same results stored stores =
      subst (λ o. MayPutNewest same o r results stored) (sym was) (stored_result same results stored entry.input
      (final_answer (entry, run) r target) (place_of_item (entry, run)) r refl refl stores)
