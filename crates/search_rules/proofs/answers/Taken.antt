-- The newest goal takes an answer over: the answer's heads become heads of the goal, and the answer fits its question.
use Rattle.std.proofs.Common.{ℕ, suc, Bool, List, ◌∷◌, length, Option, sym, ◌∙◌, subst}
use Rattle.std.specs.Option.{IsSomeAnd}
use Rattle.std.proofs.lemmas.List.{length-map}
use Rattle.search_rules.specs.Below.{TakesIn, stack_of, PathKind, Heads, heads_shape, rank_of, NodeId, Answer, OpenGoal}
use Rattle.search_rules.specs.Below.{CacheNode, IsDefinite, verdict_of, AnswersNewest, Verdicts}
use Rattle.search_rules.specs.Words.{OpenRun, NewestAsks, AreJustified, IsFit, MayAnswer, asked_now, frames_of, run_of}
use Rattle.search_rules.specs.Words.{runs_of, heads_of, tally_of, LieBelow}
use Rattle.search_rules.proofs.justified.Finishing.{answer_fits, heads_come}
use Rattle.search_rules.proofs.justified.Justified.{stack_length}
use Rattle.search_rules.proofs.answers.Kept.{taken_run}

module _ {X F I R A T : Type 0} (says : Verdicts R) (nodes : List (CacheNode I R))
    (old new : List (OpenGoal X F I R A T)) (step : PathKind) (required : ℕ) (overflow : Bool) (answer : Heads)
    (a : AnswersNewest step required overflow answer old new) where
  -- the newest goal then
  abbrev pub later_run : OpenRun I R
  later_run = record (run_of (a.entry, a.run)) { tally = tally_of a.state a.run.candidates }

  pub takes_in : LieBelow (suc (length a.below)) answer → AreJustified says nodes (runs_of old)
      → TakesIn (length (stack_of (frames_of says (runs_of a.below)))) (rank_of step) (heads_shape answer)
      (heads_of later_run.tally (asked_now later_run))
  takes_in lower h =
      subst (λ m. TakesIn m (rank_of step) (heads_shape answer) (heads_of later_run.tally (asked_now later_run)))
      (sym (stack_length says (runs_of a.below) ∙ length-map a.below run_of))
      (heads_come says nodes step required overflow answer old new a lower h)

  pub taken_fits : (r : R) (goal : I) (target : Option NodeId) → NewestAsks (runs_of old) step goal → (IsDefinite says r
      → IsSomeAnd target (λ n. MayAnswer says nodes later_run (runs_of a.below) (verdict_of says r) step goal n.0))
      → IsFit says nodes (runs_of new) (Answer r) target
  taken_fits r goal target asks may_answer =
      subst (λ l. IsFit says nodes (runs_of l) (Answer r) target) (sym a.is)
      (subst (λ o. IsFit says nodes (o ∷ runs_of a.below) (Answer r) target)
      (sym (taken_run says nodes old new step required overflow answer a))
      (answer_fits says nodes later_run (runs_of a.below) r step goal target
      (subst (λ l. NewestAsks (runs_of l) step goal) a.was asks) may_answer))
