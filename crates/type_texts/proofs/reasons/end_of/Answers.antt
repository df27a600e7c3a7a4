use Rattle.std.proofs.Common.{◌≡◌, sym, subst}
use Rattle.type_order.specs.Subtypes.{forms_of}
use Rattle.type_texts.specs.Reasons.{Fails}
use Rattle.type_texts.specs.declared.reasons.End.TheVariants.{NoAlternative}
use Rattle.type_texts.proofs.Ruled.{fits_none}
use Rattle.type_texts.proofs.reasons.end_of.Goals as goal

pub returns-in-SplitsRight-clause-some : goal.returns-in-SplitsRight-clause-some
returns-in-SplitsRight-clause-some c = λ end e never.
    let same : NoAlternative ≡ end = cc in
    subst (λ x. Fails (forms_of c.args.types.now) x c.args.pair) same
    (fits_none (forms_of c.args.types.now) c.args.pair (sym c.in-SplitsRight.ensures) never)
