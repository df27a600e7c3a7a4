use Rattle.std.proofs.Common.{ap, ◌∙◌}
use Rattle.services.proofs.Counts.{count_within}
use Rattle.services.proofs.delegate.RunsOfQuestionLists.count.Goals as goal

pub returns-clause-within : goal.returns-clause-within
returns-clause-within g c =
    let same = c.as_slice.ensures.value ∙ ap (λ services. services.items) c.lent.ensures in
    count_within _ _ c.args.number _ same c.needs_at.ensures
