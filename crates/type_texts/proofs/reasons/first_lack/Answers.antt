use Rattle.std.proofs.Common.{sym, ◌∙◌, ap}
use Rattle.std.specs.Option.{is_some}
use Rattle.type_texts.proofs.Ruled.{lacks_here}
use Rattle.type_texts.proofs.reasons.first_lack.Goals as goal

pub returns-then-is_none-clause-some : goal.returns-then-is_none-clause-some
returns-then-is_none-clause-some c =
    lacks_here c.args.fields.now c.args.others.now c.loop-other.other-index _ c.loop-other-test.true
    (ap is_some (sym c.part_of.ensures) ∙ c.if-is_none.ensures)
