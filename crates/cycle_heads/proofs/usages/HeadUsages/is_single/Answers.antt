use Rattle.cycle_heads.proofs.Counts.{none_of_others}
use Rattle.cycle_heads.proofs.usages.HeadUsages.is_single.Goals as goal

pub returns : goal.returns
returns c =
    let others = none_of_others c.args.self c.args.kind in
    let e = c.other_usages.ensures in
    let t = rw e at c.is_empty.ensures in
    (λ h. others.0 (t.0 h), λ h. t.1 (others.1 h))
