use Rattle.std.proofs.Common.{◌≡◌, ◌||◌, None, true, refl, sym, ap, ◌∙◌, subst}
use Rattle.std.specs.Option.{is_none}
use Rattle.search_questions.specs.Below.{Answer, verdicts}
use Rattle.search_questions.specs.Words.{AskingFails, AskingLeadsTo, NotAnsweredAt, NotRefused, Refused}
use Rattle.search_questions.proofs.moves.Limits.{met_or, met_so}
use Rattle.between_moves.proofs.Keeping.{appending_keeps, cache_stays}
use Rattle.search_rules.proofs.moves.Frames.{refused_frames, sees_same}
use Rattle.search_rules.proofs.moves.Questions.{asked_depth_fits, if_err, if_ok_then, none_of}
use Rattle.search_rules.proofs.entries.Ready.{are_on_stack}
use Rattle.search_questions.proofs.question.ask.Goals as goal

-- the question is refused
pub returns-in_default-clause-fails : goal.returns-in_default-clause-fails
returns-in_default-clause-fails g c = if_err c.refuse.result (NotRefused c.refuse.new.goals
    (none_of (λ d. d.0) c.allowed_depth.result c.in_default.not-Some ∙ c.allowed_depth.ensures))

pub returns-in_default-clause-asked : goal.returns-in_default-clause-asked
returns-in_default-clause-asked g c =
    if_ok_then c.refuse.result _ _ c.refuse.ensures.refuses
    (λ received refused.
    subst (λ given. AskingLeadsTo g.D.Delegate g.D.Cx.Cx g.D.Cx.Input.PartialEq.eq c.args.cache.now.cx c.args.kind
    c.args.input (g.D.Delegate.noop c.args.inspect.now) c.args.cache.now c.args.evaluation.now
    (g.D.Delegate.starts c.args.inspect.now) given c.args.cache.now
    (record c.args.evaluation.now { goals = c.refuse.new.goals; limits_met = true })
    (g.D.Delegate.starts c.args.inspect.now))
    (sym (refused.is
    ∙ ap (λ x. record { reply = Answer (g.D.Delegate.stack_overflow x c.args.input); node = None }) c.cx.ensures))
    (Refused c.refuse.new.goals
    (none_of (λ d. d.0) c.allowed_depth.result c.in_default.not-Some ∙ c.allowed_depth.ensures) refused.noted))

-- it gets a depth
pub ask_at-requires-clause-fits : goal.ask_at-requires-clause-fits
ask_at-requires-clause-fits g c =
    asked_depth_fits g.D.Delegate g.D.Cx.Cx c.args.cache.now.cx c.requires.made.call c.requires.made.ahead c.args.kind
    c.args.input _ c.args.evaluation.now.limits_met g.met.D.Delegate.divides c.in-Some.depth c.args.evaluation.now.goals
    c.in-Some.ensures c.requires.made.asked

pub ask_at-requires-clause-on_stack : goal.ask_at-requires-clause-on_stack
ask_at-requires-clause-on_stack g c =
    are_on_stack (verdicts g.D.Cx.Cx) g.D.Cx.Input.PartialEq.eq (g.D.Delegate.script c.args.cache.now.cx)
    c.args.cache.now.nodes c.args.evaluation.now.provisional c.args.evaluation.now.goals
    c.requires.made.right.justified.tallies c.requires.made.right.ready

pub returns-clause-fails : goal.returns-clause-fails
returns-clause-fails g c =
    if_err c.ask_at.result
    (subst (λ cache. AskingFails g.D.Delegate c.args.cache.now c.args.evaluation.now
    (g.D.Delegate.starts c.args.inspect.now) cache c.ask_at.new.evaluation (g.D.Delegate.starts c.ask_at.new.inspect))
    (sym c.ask_at.ensures.cache)
    (subst (λ after. AskingFails g.D.Delegate c.args.cache.now c.args.evaluation.now
    (g.D.Delegate.starts c.args.inspect.now) (record c.args.cache.now { nodes = c.ask_at.new.cache.nodes }) after
    (g.D.Delegate.starts c.ask_at.new.inspect)) (sym c.ask_at.ensures.rest)
    (NotAnsweredAt c.in-Some.depth c.ask_at.new.evaluation.goals c.ask_at.new.evaluation.scopes c.ask_at.new.cache.nodes
    (g.D.Delegate.starts c.ask_at.new.inspect) c.in-Some.ensures
    c.ask_at.ensures.builder.at_least c.ask_at.ensures.at_most)))

pub returns-in_default-clause-asks : goal.returns-in_default-clause-asks
returns-in_default-clause-asks g c = record {
  cache = cache_stays g.D.Cx.Input.PartialEq.eq c.args.evaluation.now.goals c.args.cache.now;
  same_results = refl;
  same_drafts = refl;
  meets =
      subst (λ depth. true ≡ (c.args.evaluation.now.limits_met || is_none depth))
      (none_of (λ d. d.0) c.allowed_depth.result c.in_default.not-Some ∙ c.allowed_depth.ensures)
      (sym (met_so c.args.evaluation.now.limits_met));
}

pub returns-clause-asks : goal.returns-clause-asks
returns-clause-asks g c = record {
  cache = appending_keeps g.D.Cx.Input.PartialEq.eq c.args.evaluation.now.goals c.args.cache.now c.ask_at.new.cache
      c.ask_at.ensures.cache c.ask_at.ensures.kept;
  same_results = ap (λ cache. cache.results) c.ask_at.ensures.cache;
  same_drafts = ap (λ evaluation. evaluation.drafts) c.ask_at.ensures.rest;
  meets =
      subst (λ depth. c.ask_at.new.evaluation.limits_met ≡ (c.args.evaluation.now.limits_met || is_none depth))
      c.in-Some.ensures
      (ap (λ evaluation. evaluation.limits_met) c.ask_at.ensures.rest ∙ sym (met_or c.args.evaluation.now.limits_met));
}

pub returns-in_default-clause-seen : goal.returns-in_default-clause-seen
returns-in_default-clause-seen g c =
    if_ok_then c.refuse.result _ _ c.refuse.ensures.refuses
    (λ received refused. sees_same g.D.Delegate.sees c.args.inspect.now _ _
    (refused_frames c.args.evaluation.now.goals c.refuse.new.goals _ refused.noted))
