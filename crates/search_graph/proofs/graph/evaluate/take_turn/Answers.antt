use Rattle.std.proofs.Common.{Err, ap, sym, subst}
use Rattle.goal_changes.specs.Frames.{frames_of}
use Rattle.search_graph.specs.Below.{Memory}
use Rattle.search_graph.specs.Ran.{Answered, Failed, FailedForGood, GoesOn, NotAnswered, Turned}
use Rattle.search_graph.proofs.ran.Turns.{advanced_before, noted_after}
use Rattle.search_rules.proofs.moves.Frames.{sees_as}
use Rattle.search_rules.proofs.moves.Questions.{same_err}
use Rattle.search_graph.proofs.graph.evaluate.take_turn.Goals as goal

pub advance-requires-clause-reply : goal.advance-requires-clause-reply
advance-requires-clause-reply g c = c.requires.reply

pub advance-requires-clause-expected : goal.advance-requires-clause-expected
advance-requires-clause-expected g c = c.requires.expected

pub advance-requires-clause-held : goal.advance-requires-clause-held
advance-requires-clause-held g c = c.requires.held

-- ---- nodes are let go before the next turn

pub collect_drafts-requires-clause-before : goal.collect_drafts-requires-clause-before
collect_drafts-requires-clause-before g c = advanced_before c.requires.drafts c.advance.ensures.advanced

pub collect_drafts-requires-clause-noted : goal.collect_drafts-requires-clause-noted
collect_drafts-requires-clause-noted g c = noted_after c.requires.drafts c.advance.ensures.advanced

pub returns-in-Ok-Step-clause-turned : goal.returns-in-Ok-Step-clause-turned
returns-in-Ok-Step-clause-turned g c =
    GoesOn c.in-Ok-Step.given c.advance.new.cache c.collect_drafts.new.cache c.advance.new.evaluation
    c.collect_drafts.new.evaluation (g.D.Delegate.starts c.advance.new.inspect)
    (rw (c.in-Ok-Step.is, c.in-Ok-Step.field-0-is) at c.advance.ensures.advanced)
    c.collect_drafts.ensures.lets_go c.collect_drafts.ensures.rest
    c.collect_drafts.ensures.first c.collect_drafts.ensures.stored

-- ---- and once the call has its answer

pub collect_at_end-requires-clause-before : goal.collect_at_end-requires-clause-before
collect_at_end-requires-clause-before g c = advanced_before c.requires.drafts c.advance.ensures.advanced

pub collect_at_end-requires-clause-noted : goal.collect_at_end-requires-clause-noted
collect_at_end-requires-clause-noted g c = noted_after c.requires.drafts c.advance.ensures.advanced

pub returns-in_ok-collect_at_end-in-Ok-Finished-clause-turned :
    goal.returns-in_ok-collect_at_end-in-Ok-Finished-clause-turned
returns-in_ok-collect_at_end-in-Ok-Finished-clause-turned g c =
    Answered c.in-Ok-Finished.answer c.advance.new.cache c.collect_at_end.new.cache c.advance.new.evaluation
    (g.D.Delegate.starts c.advance.new.inspect)
    (rw (c.in-Ok-Finished.is, c.in-Ok-Finished.field-0-is) at c.advance.ensures.advanced)
    c.in_ok-collect_at_end-in-Ok-Finished.ensures.settles

-- where there was no memory for that
pub returns-in_err-collect_at_end-in-Ok-Finished-clause-turned :
    goal.returns-in_err-collect_at_end-in-Ok-Finished-clause-turned
returns-in_err-collect_at_end-in-Ok-Finished-clause-turned g c =
    subst (λ r. Turned g.D.Delegate g.D.Cx.Cx g.D.Cx.Input.PartialEq.eq g.D.Cx.Result.PartialEq.eq
    (g.D.Delegate.noop c.args.inspect.now) c.args.received c.args.cache.now c.args.evaluation.now
    (g.D.Delegate.starts c.args.inspect.now) r c.collect_at_end.new.cache c.advance.new.evaluation
    (g.D.Delegate.starts c.advance.new.inspect)) (same_err c.from_residual.result Memory c.from_residual.ensures.1)
    (subst (λ cache. Turned g.D.Delegate g.D.Cx.Cx g.D.Cx.Input.PartialEq.eq g.D.Cx.Result.PartialEq.eq
    (g.D.Delegate.noop c.args.inspect.now) c.args.received c.args.cache.now c.args.evaluation.now
    (g.D.Delegate.starts c.args.inspect.now) (Err Memory) cache c.advance.new.evaluation
    (g.D.Delegate.starts c.advance.new.inspect)) (sym c.in_err-collect_at_end-in-Ok-Finished.ensures.refused)
    (NotAnswered c.in-Ok-Finished.answer c.advance.new.cache c.advance.new.evaluation
    (g.D.Delegate.starts c.advance.new.inspect)
    (rw (c.in-Ok-Finished.is, c.in-Ok-Finished.field-0-is) at c.advance.ensures.advanced)))

-- ---- and after a fault

pub give_up-requires-clause-before : goal.give_up-requires-clause-before
give_up-requires-clause-before g c = advanced_before c.requires.drafts c.advance.ensures.advanced

pub give_up-requires-clause-noted : goal.give_up-requires-clause-noted
give_up-requires-clause-noted g c = noted_after c.requires.drafts c.advance.ensures.advanced

pub returns-in_ok-give_up-in-Err-clause-turned : goal.returns-in_ok-give_up-in-Err-clause-turned
returns-in_ok-give_up-in-Err-clause-turned g c =
    Failed c.in-Err.fault c.advance.new.cache c.give_up.new.cache c.advance.new.evaluation c.give_up.new.evaluation
    (g.D.Delegate.starts c.advance.new.inspect) (rw c.in-Err.is at c.advance.ensures.advanced)
    c.in_ok-give_up-in-Err.ensures.settles c.give_up.ensures.rest

-- where there was no memory for that
pub returns-in_err-give_up-in-Err-clause-turned : goal.returns-in_err-give_up-in-Err-clause-turned
returns-in_err-give_up-in-Err-clause-turned g c =
    subst (λ r. Turned g.D.Delegate g.D.Cx.Cx g.D.Cx.Input.PartialEq.eq g.D.Cx.Result.PartialEq.eq
    (g.D.Delegate.noop c.args.inspect.now) c.args.received c.args.cache.now c.args.evaluation.now
    (g.D.Delegate.starts c.args.inspect.now) r c.give_up.new.cache c.give_up.new.evaluation
    (g.D.Delegate.starts c.advance.new.inspect))
    (same_err c.from_residual-in_err-give_up-in-Err.result Memory c.from_residual-in_err-give_up-in-Err.ensures.1)
    (subst (λ cache. Turned g.D.Delegate g.D.Cx.Cx g.D.Cx.Input.PartialEq.eq g.D.Cx.Result.PartialEq.eq
    (g.D.Delegate.noop c.args.inspect.now) c.args.received c.args.cache.now c.args.evaluation.now
    (g.D.Delegate.starts c.args.inspect.now) (Err Memory) cache c.give_up.new.evaluation
    (g.D.Delegate.starts c.advance.new.inspect)) (sym c.in_err-give_up-in-Err.ensures.refused)
    (FailedForGood c.in-Err.fault c.advance.new.cache c.advance.new.evaluation c.give_up.new.evaluation
    (g.D.Delegate.starts c.advance.new.inspect) (rw c.in-Err.is at c.advance.ensures.advanced) c.give_up.ensures.rest))

-- ---- what the builder saw

pub returns-in-Ok-Step-clause-seen : goal.returns-in-Ok-Step-clause-seen
returns-in-Ok-Step-clause-seen g c =
    sees_as g.D.Delegate.sees c.args.inspect.now c.advance.new.inspect _ _ _
    (rw c.in-Ok-Step.is at c.advance.ensures.seen) (ap (λ e. frames_of e.goals) c.collect_drafts.ensures.rest)

pub returns-in_ok-collect_at_end-in-Ok-Finished-clause-seen :
    goal.returns-in_ok-collect_at_end-in-Ok-Finished-clause-seen
returns-in_ok-collect_at_end-in-Ok-Finished-clause-seen g c = rw c.in-Ok-Finished.is at c.advance.ensures.seen
