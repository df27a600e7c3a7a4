use Rattle.type_texts.proofs.Adding.{numbers_more}
use Rattle.type_texts.proofs.table.TypeTable.numbers_of.Goals as goal

pub loop-name-preserved : goal.loop-name-preserved
loop-name-preserved c = numbers_more _ _ _ _ (λ name. name.now) _ _ _ c.loop-name-test.true c.loop-name.invariant
    c.in_ok-number_of.ensures.number c.in_ok-push.ensures.items
