use Rattle.std.proofs.Common.{rules, Err, Ok, Some, ◌≡◌, true, sym, ap, ap₂, subst, ◌∙◌}
use Rattle.search_ends.specs.Below.{IsEndOfRun, Memory, Overflow, Step, verdict_of, verdicts}
use Rattle.search_ends.specs.Words.{EndedAtLimit, EndedDone, NotRunAgain, PopsOrFails, RanAgain, RunEnds}
use Rattle.lean_runs.proofs.Verdicts.{neither_is}
use Rattle.search_rules.proofs.moves.Moves.{can_leave, ends_newest}
use Rattle.search_rules.proofs.moves.Frames.{popped_frames, sees_same}
use Rattle.search_rules.proofs.moves.Questions.{if_ok_then, same_err}
use Rattle.search_rules.proofs.moves.DoneRuns.{limit_comes, limited_plain, newest_comes, newest_plain}
use Rattle.search_rules.proofs.moves.Reasons.{newest_reason, newest_unranked}
use Rattle.search_rules.proofs.moves.EndOfRunLaws.{limited, newest_limited}
use Rattle.search_context.proofs.Builders.{builder_stays}
use Rattle.search_ends.proofs.run_end.finish_run.Goals as goal

-- ---- its result stands

pub pop_goal-requires-clause-may : goal.pop_goal-requires-clause-may
pop_goal-requires-clause-may g c = record {
  leaves = can_leave g.D.Delegate g.D.Cx.Cx c.args.cache.now.cx c.requires.made.call c.requires.made.ahead
      c.args.outcome c.args.evaluation.now.goals _ _ c.requires.made.asked;
  ends = λ definite. ends_newest g.D.Delegate g.D.Cx.Cx c.args.cache.now.cx c.requires.made.call c.requires.made.ahead
      c.args.outcome c.args.evaluation.now.goals _ _ c.requires.made.asked;
  comes =
      newest_comes g.D.Delegate g.D.Cx.Cx c.args.cache.now.cx c.requires.made.call c.requires.made.ahead c.args.outcome
      _ _ (g.D.Delegate.fixpoint_overflow c.args.cache.now.cx) c.args.evaluation.now.goals c.requires.made.asked;
  plain = newest_plain g.D.Delegate g.D.Cx.Cx c.args.cache.now.cx c.requires.made.call c.requires.made.ahead
      c.args.outcome _ _ c.args.evaluation.now.goals c.requires.made.asked;
  is_reason = newest_reason (verdicts g.D.Cx.Cx) g.D.Cx.Result.PartialEq.eq g.met.D.Cx.Cx.same_result
      g.D.Delegate.initial_kind g.met.D.Delegate.recognised_sort g.D.Delegate.ambiguity g.D.Delegate.FIXPOINT_STEP_LIMIT
      c.last_run.result.now.finished_runs c.args.evaluation.now.goals c.last_entry.result.now c.args.outcome
      c.end_of_run.result c.in-Ok.reason c.last_entry.ensures c.end_of_run.ensures.is_end c.in-Ok.is;
  unranked = newest_unranked g.D.Delegate g.D.Cx.Cx c.args.cache.now.cx c.requires.made.call c.requires.made.ahead
      c.args.outcome _ _ c.args.evaluation.now.goals c.requires.made.asked;
  right = c.requires.made.right;
}

pub pop_goal-requires-clause-expected : goal.pop_goal-requires-clause-expected
pop_goal-requires-clause-expected g c = c.requires.expected

pub pop_goal-requires-clause-held : goal.pop_goal-requires-clause-held
pop_goal-requires-clause-held g c = c.requires.held

pub returns-in-Ok-clause-ended : goal.returns-in-Ok-clause-ended
returns-in-Ok-clause-ended g c =
    let ends = subst (λ end. IsEndOfRun g.D.Cx.Result.PartialEq.eq g.D.Delegate.initial_kind g.D.Delegate.ambiguity
    g.D.Delegate.FIXPOINT_STEP_LIMIT c.last_entry.result.now.state.provisional_result
    c.last_entry.result.now.state.usages c.last_run.result.now.finished_runs c.args.outcome end)
    c.in-Ok.is c.end_of_run.ensures.is_end in
    EndedDone c.last_entry.result.now c.last_run.result.now c.in-Ok.reason c.pop_goal.result
    c.pop_goal.new.cache c.pop_goal.new.evaluation
    (record { is_entry = c.last_entry.ensures; is_run = c.last_run.ensures; ends = ends })
    (record {
      popped = c.pop_goal.ensures.popped;
      fails = c.pop_goal.ensures.fails;
      whose = c.pop_goal.ensures.whose;
      plain = c.pop_goal.ensures.plain;
      stored = c.pop_goal.ensures.stored;
      cache = c.pop_goal.ensures.cache;
      noted = c.pop_goal.ensures.noted;
      rest = c.pop_goal.ensures.rest;
    })

-- ---- the goal had its most runs

pub pop_goal-requires-in-Err-AtLimit-clause-may : goal.pop_goal-requires-in-Err-AtLimit-clause-may
pop_goal-requires-in-Err-AtLimit-clause-may g c = record {
  leaves = can_leave g.D.Delegate g.D.Cx.Cx c.args.cache.now.cx c.requires.made.call c.requires.made.ahead
      c.args.outcome c.args.evaluation.now.goals _ _ c.requires.made.asked;
  ends = λ definite.
      absurd (definite (ap (verdict_of (verdicts g.D.Cx.Cx)) c.fixpoint_overflow_result-overflow.ensures
      ∙ neither_is (verdicts g.D.Cx.Cx) (g.D.Delegate.fixpoint_overflow c.cx.result c.input-input.result)
      (g.met.D.Delegate.fixpoint_overflow_is_neither c.cx.result c.input-input.result)));
  comes = limit_comes (g.D.Delegate.script c.args.cache.now.cx) (g.D.Delegate.fixpoint_overflow c.args.cache.now.cx)
      c.args.evaluation.now.goals c.last_entry-in-Err-AtLimit.result.now c.fixpoint_overflow_result-overflow.result
      c.last_entry-in-Err-AtLimit.ensures (c.fixpoint_overflow_result-overflow.ensures
      ∙ ap₂ g.D.Delegate.fixpoint_overflow c.cx.ensures c.input-input.ensures);
  plain = limited_plain g.D.Delegate g.D.Cx.Cx c.args.cache.now.cx c.requires.made.call c.requires.made.ahead
      c.args.outcome _ _ c.args.evaluation.now.goals c.fixpoint_overflow_result-overflow.result (λ s below is.
      ((newest_limited c.args.evaluation.now.goals c.last_entry.result.now c.last_run.result.now c.last_entry.ensures
      c.last_run.ensures g.D.Delegate.FIXPOINT_STEP_LIMIT (limited g.D.Cx.Result.PartialEq.eq g.D.Delegate.initial_kind
      g.D.Delegate.ambiguity g.D.Delegate.FIXPOINT_STEP_LIMIT c.last_entry.result.now.state.provisional_result
      c.last_entry.result.now.state.usages c.last_run.result.now.finished_runs c.args.outcome c.end_of_run.result
      c.end_of_run.ensures.is_end (c.in-Err-AtLimit.is ∙ ap Err c.in-Err-AtLimit.field-0-is))) s below is).0)
      c.requires.made.asked;
  is_reason = search rules;
  unranked = newest_unranked g.D.Delegate g.D.Cx.Cx c.args.cache.now.cx c.requires.made.call c.requires.made.ahead
      c.args.outcome _ _ c.args.evaluation.now.goals c.requires.made.asked;
  right = record {
    justified = c.requires.made.right.justified;
    free = c.requires.made.right.free;
    ready = c.requires.made.right.ready;
  };
}

pub pop_goal-requires-in-Err-AtLimit-clause-expected : goal.pop_goal-requires-in-Err-AtLimit-clause-expected
pop_goal-requires-in-Err-AtLimit-clause-expected g c = c.requires.expected

pub pop_goal-requires-in-Err-AtLimit-clause-held : goal.pop_goal-requires-in-Err-AtLimit-clause-held
pop_goal-requires-in-Err-AtLimit-clause-held g c = c.requires.held

pub returns-in-Err-AtLimit-clause-ended : goal.returns-in-Err-AtLimit-clause-ended
returns-in-Err-AtLimit-clause-ended g c =
    let ends = subst (λ end. IsEndOfRun g.D.Cx.Result.PartialEq.eq g.D.Delegate.initial_kind g.D.Delegate.ambiguity
    g.D.Delegate.FIXPOINT_STEP_LIMIT c.last_entry.result.now.state.provisional_result
    c.last_entry.result.now.state.usages c.last_run.result.now.finished_runs c.args.outcome end)
    (c.in-Err-AtLimit.is ∙ ap Err c.in-Err-AtLimit.field-0-is) c.end_of_run.ensures.is_end in
    let both : Some c.last_entry-in-Err-AtLimit.result.now ≡ Some c.last_entry.result.now =
    sym c.last_entry-in-Err-AtLimit.ensures ∙ c.last_entry.ensures in
    let one : c.last_entry-in-Err-AtLimit.result.now ≡ c.last_entry.result.now = cc in
    let overflow : c.fixpoint_overflow_result-overflow.result
    ≡ g.D.Delegate.fixpoint_overflow c.args.cache.now.cx c.last_entry.result.now.input =
    c.fixpoint_overflow_result-overflow.ensures
    ∙ ap₂ g.D.Delegate.fixpoint_overflow c.cx.ensures (c.input-input.ensures ∙ ap (λ e. e.input) one) in
    EndedAtLimit c.last_entry.result.now c.last_run.result.now c.pop_goal-in-Err-AtLimit.result
    c.pop_goal-in-Err-AtLimit.new.cache c.pop_goal-in-Err-AtLimit.new.evaluation
    (record { is_entry = c.last_entry.ensures; is_run = c.last_run.ensures; ends = ends })
    (subst (λ r. PopsOrFails g.D.Delegate g.D.Cx.Cx g.D.Cx.Input.PartialEq.eq r (Some Overflow) c.args.cache.now
    (record c.args.evaluation.now { limits_met = true }) c.pop_goal-in-Err-AtLimit.result
    c.pop_goal-in-Err-AtLimit.new.cache c.pop_goal-in-Err-AtLimit.new.evaluation) overflow
    (record {
      popped = c.pop_goal-in-Err-AtLimit.ensures.popped;
      fails = c.pop_goal-in-Err-AtLimit.ensures.fails;
      whose = c.pop_goal-in-Err-AtLimit.ensures.whose;
      plain = c.pop_goal-in-Err-AtLimit.ensures.plain;
      stored = c.pop_goal-in-Err-AtLimit.ensures.stored;
      cache = c.pop_goal-in-Err-AtLimit.ensures.cache;
      noted = c.pop_goal-in-Err-AtLimit.ensures.noted;
      rest = c.pop_goal-in-Err-AtLimit.ensures.rest;
    }))

-- ---- it is run again

pub returns-in_err-run_again-in-Err-Again-clause-ended : goal.returns-in_err-run_again-in-Err-Again-clause-ended
returns-in_err-run_again-in-Err-Again-clause-ended g c =
    let ends = subst (λ end. IsEndOfRun g.D.Cx.Result.PartialEq.eq g.D.Delegate.initial_kind g.D.Delegate.ambiguity
    g.D.Delegate.FIXPOINT_STEP_LIMIT c.last_entry.result.now.state.provisional_result
    c.last_entry.result.now.state.usages c.last_run.result.now.finished_runs c.args.outcome end)
    (c.in-Err-Again.is ∙ ap Err c.in-Err-Again.field-0-is) c.end_of_run.ensures.is_end in
    subst (λ r. RunEnds g.D.Delegate g.D.Cx.Cx g.D.Cx.Input.PartialEq.eq g.D.Cx.Result.PartialEq.eq c.args.outcome
    c.args.cache.now c.args.evaluation.now (g.D.Delegate.starts c.args.inspect.now) r c.run_again.new.cache
    c.run_again.new.evaluation (g.D.Delegate.starts c.run_again.new.inspect))
    (same_err c.from_residual.result Memory c.from_residual.ensures.1)
    (NotRunAgain c.last_entry.result.now c.last_run.result.now c.run_again.new.cache c.run_again.new.evaluation
    (g.D.Delegate.starts c.run_again.new.inspect)
    (record { is_entry = c.last_entry.ensures; is_run = c.last_run.ensures; ends = ends })
    (record {
      cache = c.run_again.ensures.cache;
      kept = c.run_again.ensures.kept;
      earlier = c.run_again.ensures.earlier;
      rest = c.run_again.ensures.rest;
      at_least = c.run_again.ensures.starts.builder.at_least;
      at_most = c.run_again.ensures.starts.at_most;
    }))

pub returns-in_ok-run_again-in-Err-Again-clause-ended : goal.returns-in_ok-run_again-in-Err-Again-clause-ended
returns-in_ok-run_again-in-Err-Again-clause-ended g c =
    let ends = subst (λ end. IsEndOfRun g.D.Cx.Result.PartialEq.eq g.D.Delegate.initial_kind g.D.Delegate.ambiguity
    g.D.Delegate.FIXPOINT_STEP_LIMIT c.last_entry.result.now.state.provisional_result
    c.last_entry.result.now.state.usages c.last_run.result.now.finished_runs c.args.outcome end)
    (c.in-Err-Again.is ∙ ap Err c.in-Err-Again.field-0-is) c.end_of_run.ensures.is_end in
    subst (λ given. RunEnds g.D.Delegate g.D.Cx.Cx g.D.Cx.Input.PartialEq.eq g.D.Cx.Result.PartialEq.eq c.args.outcome
    c.args.cache.now c.args.evaluation.now (g.D.Delegate.starts c.args.inspect.now) (Ok (Step given))
    c.run_again.new.cache c.run_again.new.evaluation (g.D.Delegate.starts c.run_again.new.inspect))
    (sym c.without_node.ensures)
    (RanAgain c.last_entry.result.now c.last_run.result.now c.run_again.new.cache c.run_again.new.evaluation
    (g.D.Delegate.starts c.run_again.new.inspect)
    (record { is_entry = c.last_entry.ensures; is_run = c.last_run.ensures; ends = ends })
    (record {
      cache = c.run_again.ensures.cache;
      kept = c.run_again.ensures.kept;
      earlier = c.run_again.ensures.earlier;
      rest = c.run_again.ensures.rest;
      at_least = c.run_again.ensures.starts.builder.at_least;
      at_most = c.run_again.ensures.starts.at_most;
    })
    c.in_ok-run_again-in-Err-Again.ensures.reran c.in_ok-run_again-in-Err-Again.ensures.starts.counted)

-- ---- the builder

pub returns-in-Ok-clause-builder : goal.returns-in-Ok-clause-builder
returns-in-Ok-clause-builder g c = builder_stays g.D.Delegate.starts g.D.Delegate.noop c.args.inspect.now

pub returns-in-Err-AtLimit-clause-builder : goal.returns-in-Err-AtLimit-clause-builder
returns-in-Err-AtLimit-clause-builder g c = builder_stays g.D.Delegate.starts g.D.Delegate.noop c.args.inspect.now

-- ---- what it saw

pub returns-in-Ok-clause-seen : goal.returns-in-Ok-clause-seen
returns-in-Ok-clause-seen g c =
    if_ok_then c.pop_goal.result _ _ c.pop_goal.ensures.popped
    (λ next pops. sees_same g.D.Delegate.sees c.args.inspect.now _ _
    (popped_frames c.args.outcome c.args.evaluation.now.goals next c.pop_goal.new.evaluation.goals pops.left))

pub returns-in-Err-AtLimit-clause-seen : goal.returns-in-Err-AtLimit-clause-seen
returns-in-Err-AtLimit-clause-seen g c =
    if_ok_then c.pop_goal-in-Err-AtLimit.result _ _ c.pop_goal-in-Err-AtLimit.ensures.popped
    (λ next pops. sees_same g.D.Delegate.sees c.args.inspect.now _ _
    (popped_frames _ c.args.evaluation.now.goals next c.pop_goal-in-Err-AtLimit.new.evaluation.goals pops.left))
