use Rattle.std.proofs.Common.{◌≡◌, sym, subst}
use Rattle.std.specs.Prelude.{Some, slice_get}
use Rattle.type_order.specs.Subtypes.{forms_of}
use Rattle.type_texts.proofs.Ruled.{to_alternative_else, to_field}
use Rattle.type_texts.proofs.reasons.step_at.Goals as goal

pub returns-in-BetweenRecords : goal.returns-in-BetweenRecords
returns-in-BetweenRecords c = λ part all asked.
    to_field (forms_of c.args.types.now) c.args.pair c.args.place part asked
    c.name_at.result (sym c.in-BetweenRecords.ensures)
    (λ field at. c.name_at.ensures field
    (subst (λ fields. slice_get fields c.args.place ≡ Some field) (sym c.fields.ensures) at))

pub returns-in_default : goal.returns-in_default
returns-in_default c = λ part all asked.
    to_alternative_else (forms_of c.args.types.now) c.args.pair c.args.place part
    asked c.case.result (sym c.case.ensures)
    c.in_default.not-BetweenFunctions c.in_default.not-BetweenRecords all
