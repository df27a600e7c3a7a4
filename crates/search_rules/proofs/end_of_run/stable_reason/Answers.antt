use Rattle.std.proofs.Common.{sym, ◌∙◌}
use Rattle.search_rules.specs.Words.{WithoutUsages, Ambiguous}
use Rattle.search_rules.proofs.moves.EndOfRunLaws.{fixpoint_reason, used_somehow}
use Rattle.run_records.proofs.Verdicts.{fails_at}
use Rattle.search_rules.proofs.end_of_run.stable_reason.Goals as goal

pub returns-then-reached_fixpoint-clause-reason : goal.returns-then-reached_fixpoint-clause-reason
returns-then-reached_fixpoint-clause-reason g c =
    fixpoint_reason g.D.Cx.Result.PartialEq.eq g.D.Delegate.initial_kind g.D.Delegate.ambiguity
    c.args.provisional_result c.args.usages c.args.outcome c.initial_kind-kind.result c.initial_kind-kind.ensures.first
    c.initial_kind-kind.ensures.later (c.reached_fixpoint.ensures.0 c.if-reached_fixpoint.true)

pub returns-then-is_empty-clause-reason : goal.returns-then-is_empty-clause-reason
returns-then-is_empty-clause-reason g c =
    WithoutUsages (λ reached. fails_at c.if-reached_fixpoint.false (c.reached_fixpoint.ensures.1 reached))
    (c.is_empty.ensures.0 c.if-is_empty.true)

pub returns-in-Some-clause-reason : goal.returns-in-Some-clause-reason
returns-in-Some-clause-reason g c =
    Ambiguous c.in-Some.info (λ reached. fails_at c.if-reached_fixpoint.false (c.reached_fixpoint.ensures.1 reached))
    (used_somehow c.args.usages (λ none. fails_at c.if-is_empty.false (c.is_empty.ensures.1 none)))
    (sym c.is_ambiguous_result.ensures ∙ c.in-Some.is)
