use Rattle.cycle_heads.proofs.Counts.{none_by_test}
use Rattle.cycle_heads.proofs.usages.HeadUsages.is_empty.Goals as goal

pub returns : goal.returns
returns c =
    let zero = c.default.ensures in
    none_by_test _ _ _ zero.0 zero.1.0 zero.1.1.0 zero.1.1.1 c.eq.ensures
