use Rattle.std.proofs.Common.{ap, arith, Err, None, Ok, refl, Some, sym, subst}
use Rattle.goal_changes.specs.Frames.{frames_of}
use Rattle.between_moves.proofs.Scopes.{holds_own}
use Rattle.search_context.proofs.Builders.{builder_goes_on}
use Rattle.search_graph.specs.Below.{Begin, Finished, Memory, Step}
use Rattle.search_graph.specs.Ran.{Began, ended, NotBegun, Ran, Then, Turned}
use Rattle.search_graph.proofs.ran.Calls.{ran_drafts, ran_expected, ran_falls, ran_reply, ran_scopes}
use Rattle.search_graph.proofs.ran.Ended.{none_turned}
use Rattle.search_graph.proofs.ran.Turns.{turned_scopes}
use Rattle.search_rules.proofs.moves.Questions.{same_err}
use Rattle.path_kinds.specs.declared.path.PathKind.TheVariants.{Inductive}
use Rattle.search_graph.proofs.graph.evaluate.work_out.Goals as goal

-- ---- it is pushed

pub returns-in_err-hold-clause-ran : goal.returns-in_err-hold-clause-ran
returns-in_err-hold-clause-ran g c =
    subst (λ r. Ran g.D.Delegate g.D.Cx.Cx g.D.Cx.Input.PartialEq.eq g.D.Cx.Result.PartialEq.eq
    (g.D.Delegate.noop c.args.inspect.now) Inductive c.args.input c.args.fate c.args.cache.now c.args.evaluation.now
    (g.D.Delegate.starts c.args.inspect.now) (ended r) c.args.cache.now
    (record c.args.evaluation.now { scopes = c.hold.new.self }) (g.D.Delegate.starts c.args.inspect.now))
    (same_err c.from_residual.result Memory c.from_residual.ensures.1)
    (NotBegun c.args.evaluation.now.goals c.hold.new.self
    (g.D.Delegate.starts c.args.inspect.now) (omega arith) (omega arith))

pub returns-in_err-push_goal-clause-ran : goal.returns-in_err-push_goal-clause-ran
returns-in_err-push_goal-clause-ran g c =
    subst (λ r. Ran g.D.Delegate g.D.Cx.Cx g.D.Cx.Input.PartialEq.eq g.D.Cx.Result.PartialEq.eq
    (g.D.Delegate.noop c.args.inspect.now) Inductive c.args.input c.args.fate c.args.cache.now c.args.evaluation.now
    (g.D.Delegate.starts c.args.inspect.now) (ended r) c.push_goal.new.cache c.push_goal.new.evaluation
    (g.D.Delegate.starts c.push_goal.new.inspect))
    (same_err c.from_residual-in_err-push_goal.result Memory c.from_residual-in_err-push_goal.ensures.1)
    (subst (λ cache. Ran g.D.Delegate g.D.Cx.Cx g.D.Cx.Input.PartialEq.eq g.D.Cx.Result.PartialEq.eq
    (g.D.Delegate.noop c.args.inspect.now) Inductive c.args.input c.args.fate c.args.cache.now c.args.evaluation.now
    (g.D.Delegate.starts c.args.inspect.now) (Err Memory) cache c.push_goal.new.evaluation
    (g.D.Delegate.starts c.push_goal.new.inspect)) (sym c.in_err-push_goal.ensures.refused)
    (subst (λ e. Ran g.D.Delegate g.D.Cx.Cx g.D.Cx.Input.PartialEq.eq g.D.Cx.Result.PartialEq.eq
    (g.D.Delegate.noop c.args.inspect.now) Inductive c.args.input c.args.fate c.args.cache.now c.args.evaluation.now
    (g.D.Delegate.starts c.args.inspect.now) (Err Memory) c.args.cache.now e
    (g.D.Delegate.starts c.push_goal.new.inspect)) (sym c.push_goal.ensures.rest)
    (NotBegun c.push_goal.new.evaluation.goals c.hold.new.self (g.D.Delegate.starts c.push_goal.new.inspect)
    c.push_goal.ensures.starts.builder.at_least c.push_goal.ensures.starts.at_most)))

pub loop-next-init : goal.loop-next-init
loop-next-init g c = record {
  ran =
      subst (λ given. Ran g.D.Delegate g.D.Cx.Cx g.D.Cx.Input.PartialEq.eq g.D.Cx.Result.PartialEq.eq
      (g.D.Delegate.noop c.args.inspect.now) Inductive c.args.input c.args.fate c.args.cache.now c.args.evaluation.now
      (g.D.Delegate.starts c.args.inspect.now) (Ok (Step given)) c.push_goal.new.cache c.push_goal.new.evaluation
      (g.D.Delegate.starts c.push_goal.new.inspect)) (sym c.without_node-received.ensures)
      (subst (λ cache. Ran g.D.Delegate g.D.Cx.Cx g.D.Cx.Input.PartialEq.eq g.D.Cx.Result.PartialEq.eq
      (g.D.Delegate.noop c.args.inspect.now) Inductive c.args.input c.args.fate c.args.cache.now c.args.evaluation.now
      (g.D.Delegate.starts c.args.inspect.now) (Ok (Step (record { reply = Begin; node = None }))) cache
      c.push_goal.new.evaluation (g.D.Delegate.starts c.push_goal.new.inspect)) (sym c.push_goal.ensures.cache)
      (subst (λ e. Ran g.D.Delegate g.D.Cx.Cx g.D.Cx.Input.PartialEq.eq g.D.Cx.Result.PartialEq.eq
      (g.D.Delegate.noop c.args.inspect.now) Inductive c.args.input c.args.fate c.args.cache.now c.args.evaluation.now
      (g.D.Delegate.starts c.args.inspect.now) (Ok (Step (record { reply = Begin; node = None })))
      (record c.args.cache.now { nodes = c.push_goal.new.cache.nodes }) e (g.D.Delegate.starts c.push_goal.new.inspect))
      (sym c.push_goal.ensures.rest)
      (Began c.push_goal.new.evaluation.goals c.hold.new.self c.push_goal.new.cache.nodes
      (g.D.Delegate.starts c.push_goal.new.inspect) c.in_ok-push_goal.ensures.pushed c.in_ok-push_goal.ensures.fates
      (holds_own c.args.fate c.args.scope c.args.evaluation.now.scopes c.hold.new.self
      c.requires.in_scope c.in_ok-hold.ensures.held)
      c.push_goal.ensures.kept c.push_goal.ensures.starts.at_most c.in_ok-push_goal.ensures.starts.counted)));
  builder = c.push_goal.ensures.starts.builder;
  seen = λ fresh. c.in_ok-push_goal.ensures.seen.at c.args.input None fresh (λ none. refl)
      (sym (ap frames_of c.requires.outset.new.no_goals));
}

-- ---- a turn is taken

pub take_turn-requires-clause-reply : goal.take_turn-requires-clause-reply
take_turn-requires-clause-reply g c = ran_reply c.keeps_laws.ensures c.requires.outset c.is_sound.ensures.runs
    c.is_sound.ensures.results c.loop-next.invariant.ran

pub take_turn-requires-clause-expected : goal.take_turn-requires-clause-expected
take_turn-requires-clause-expected g c = ran_expected c.keeps_laws.ensures c.requires.outset c.is_sound.ensures.runs
    c.is_sound.ensures.results c.loop-next.invariant.ran c.requires.fated

pub take_turn-requires-clause-held : goal.take_turn-requires-clause-held
take_turn-requires-clause-held g c = ran_scopes c.keeps_laws.ensures c.requires.outset c.is_sound.ensures.runs
    c.is_sound.ensures.results c.loop-next.invariant.ran

pub take_turn-requires-clause-drafts : goal.take_turn-requires-clause-drafts
take_turn-requires-clause-drafts g c = ran_drafts c.keeps_laws.ensures c.requires.outset c.is_sound.ensures.runs
    c.is_sound.ensures.results c.loop-next.invariant.ran

pub loop-next-smaller : goal.loop-next-smaller
loop-next-smaller g c =
    ran_falls c.keeps_laws.ensures c.requires.outset c.is_sound.ensures.runs
    c.is_sound.ensures.results c.loop-next.invariant.ran
    (subst (λ b. Turned g.D.Delegate g.D.Cx.Cx g.D.Cx.Input.PartialEq.eq g.D.Cx.Result.PartialEq.eq b
    c.loop-next.received c.loop-next.cache c.loop-next.evaluation (g.D.Delegate.starts c.loop-next.inspect)
    (Ok (Step c.in-Step.next)) c.take_turn.new.cache c.take_turn.new.evaluation
    (g.D.Delegate.starts c.take_turn.new.inspect))
    c.loop-next.invariant.builder.same_noop (rw c.in-Step.is at c.in_ok-next.ensures.turned))

pub loop-next-preserved : goal.loop-next-preserved
loop-next-preserved g c = record {
  ran = Then c.loop-next.received c.loop-next.cache c.loop-next.evaluation (g.D.Delegate.starts c.loop-next.inspect)
      (Ok (Step c.in-Step.next)) c.take_turn.new.cache c.take_turn.new.evaluation
      (g.D.Delegate.starts c.take_turn.new.inspect) c.loop-next.invariant.ran
      (subst (λ b. Turned g.D.Delegate g.D.Cx.Cx g.D.Cx.Input.PartialEq.eq g.D.Cx.Result.PartialEq.eq b
      c.loop-next.received c.loop-next.cache c.loop-next.evaluation (g.D.Delegate.starts c.loop-next.inspect)
      (Ok (Step c.in-Step.next)) c.take_turn.new.cache c.take_turn.new.evaluation
      (g.D.Delegate.starts c.take_turn.new.inspect))
      c.loop-next.invariant.builder.same_noop (rw c.in-Step.is at c.in_ok-next.ensures.turned));
  builder = builder_goes_on g.D.Delegate.starts g.D.Delegate.noop c.args.inspect.now c.loop-next.inspect
      c.take_turn.new.inspect c.loop-next.invariant.builder c.take_turn.ensures.builder;
  seen = λ fresh. c.in_ok-next.ensures.seen.at c.args.input (c.loop-next.invariant.seen fresh);
}

-- ---- the call ends

pub returns-in_err-next-clause-ran : goal.returns-in_err-next-clause-ran
returns-in_err-next-clause-ran g c =
    subst (λ r. Ran g.D.Delegate g.D.Cx.Cx g.D.Cx.Input.PartialEq.eq g.D.Cx.Result.PartialEq.eq
    (g.D.Delegate.noop c.args.inspect.now) Inductive c.args.input c.args.fate c.args.cache.now c.args.evaluation.now
    (g.D.Delegate.starts c.args.inspect.now) (ended r) c.take_turn.new.cache c.take_turn.new.evaluation
    (g.D.Delegate.starts c.take_turn.new.inspect))
    (same_err c.from_residual-in_err-next.result c.in_err-next.field-0.0 c.from_residual-in_err-next.ensures.1)
    (Then c.loop-next.received c.loop-next.cache c.loop-next.evaluation (g.D.Delegate.starts c.loop-next.inspect)
    (Err c.in_err-next.field-0.0) c.take_turn.new.cache c.take_turn.new.evaluation
    (g.D.Delegate.starts c.take_turn.new.inspect) c.loop-next.invariant.ran
    (subst (λ b. Turned g.D.Delegate g.D.Cx.Cx g.D.Cx.Input.PartialEq.eq g.D.Cx.Result.PartialEq.eq b
    c.loop-next.received c.loop-next.cache c.loop-next.evaluation (g.D.Delegate.starts c.loop-next.inspect)
    (Err c.in_err-next.field-0.0) c.take_turn.new.cache c.take_turn.new.evaluation
    (g.D.Delegate.starts c.take_turn.new.inspect))
    c.loop-next.invariant.builder.same_noop c.in_err-next.ensures.turned))

pub returns-in-Finished-clause-ran : goal.returns-in-Finished-clause-ran
returns-in-Finished-clause-ran g c =
    Then c.loop-next.received c.loop-next.cache c.loop-next.evaluation (g.D.Delegate.starts c.loop-next.inspect)
    (Ok (Finished c.in-Finished.answer)) c.take_turn.new.cache c.take_turn.new.evaluation
    (g.D.Delegate.starts c.take_turn.new.inspect) c.loop-next.invariant.ran
    (subst (λ b. Turned g.D.Delegate g.D.Cx.Cx g.D.Cx.Input.PartialEq.eq g.D.Cx.Result.PartialEq.eq b
    c.loop-next.received c.loop-next.cache c.loop-next.evaluation (g.D.Delegate.starts c.loop-next.inspect)
    (Ok (Finished c.in-Finished.answer)) c.take_turn.new.cache c.take_turn.new.evaluation
    (g.D.Delegate.starts c.take_turn.new.inspect))
    c.loop-next.invariant.builder.same_noop (rw c.in-Finished.is at c.in_ok-next.ensures.turned))

pub returns-in-Finished-clause-released : goal.returns-in-Finished-clause-released
returns-in-Finished-clause-released g c =
    turned_scopes (ran_scopes c.keeps_laws.ensures c.requires.outset c.is_sound.ensures.runs c.is_sound.ensures.results
    c.loop-next.invariant.ran) (rw c.in-Finished.is at c.in_ok-next.ensures.turned)

pub returns-in_err-next-clause-builder : goal.returns-in_err-next-clause-builder
returns-in_err-next-clause-builder g c = builder_goes_on g.D.Delegate.starts g.D.Delegate.noop c.args.inspect.now
    c.loop-next.inspect c.take_turn.new.inspect c.loop-next.invariant.builder c.take_turn.ensures.builder

pub returns-in-Finished-clause-builder : goal.returns-in-Finished-clause-builder
returns-in-Finished-clause-builder g c = builder_goes_on g.D.Delegate.starts g.D.Delegate.noop c.args.inspect.now
    c.loop-next.inspect c.take_turn.new.inspect c.loop-next.invariant.builder c.take_turn.ensures.builder

pub returns-in-Finished-clause-seen : goal.returns-in-Finished-clause-seen
returns-in-Finished-clause-seen g c fresh =
    subst (λ goals. g.D.Delegate.sees c.take_turn.new.inspect c.args.input (Some (frames_of goals)))
    (none_turned (rw c.in-Finished.is at c.in_ok-next.ensures.turned))
    (c.in_ok-next.ensures.seen.at c.args.input (c.loop-next.invariant.seen fresh))
