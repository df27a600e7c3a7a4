use Rattle.std.proofs.Common.{◌∙◌, arith}
use Rattle.type_order.specs.Subtypes.{forms_of}
use Rattle.type_texts.proofs.Unions.{rows_more}
use Rattle.type_texts.proofs.guard.union_graph.Goals as goal

pub loop-number-preserved : goal.loop-number-preserved
loop-number-preserved c =
    let is = c.in_ok-from_slice.ensures.items ∙ c.alternatives.ensures in
    rows_more (forms_of c.args.types.now) c.loop-number.number c.loop-number.graph.items c.push.new.self.items
    c.in_ok-from_slice.field-0 c.loop-number.invariant
    (omega (arith, c.loop-number-test.true, c.requires)) is c.in_ok-push.ensures.items
