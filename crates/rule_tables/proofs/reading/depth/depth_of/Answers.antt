use Rattle.std.proofs.Common.{rules, refl}
use Rattle.rule_tables.proofs.Digits.{read_more}
use Rattle.rule_tables.proofs.reading.depth.depth_of.Goals as goal

pub loop-digit-preserved : goal.loop-digit-preserved
loop-digit-preserved c =
    read_more _ _ _ c.from.result _ c.loop-digit.invariant c.loop-digit-test.true (search rules) c.from.ensures refl
