use Rattle.std.proofs.Common.{sym, subst}
use Rattle.trait_goals.specs.Below.{IsShaped}
use Rattle.trait_goals.proofs.Matching.{new_applied, new_constructor}
use Rattle.trait_goals.proofs.instance.number_of.Goals as goal

pub returns-in_ok-number-in-Constructor-clause-told :
    goal.returns-in_ok-number-in-Constructor-clause-told
returns-in_ok-number-in-Constructor-clause-told c = λ types term all shaped noted.
    new_constructor _ types c.in-Constructor.constructor _ term c.in_ok-number-in-Constructor.ensures.number
    (subst (λ s. IsShaped types s term) c.in-Constructor.is shaped)

pub returns-in_ok-number-in-Applied-clause-told : goal.returns-in_ok-number-in-Applied-clause-told
returns-in_ok-number-in-Applied-clause-told c =
    new_applied c.args.terms.now c.applied.new.self c.args.all.now c.in-Applied.first c.in-Applied.second
    c.in-Some-Some.applied
    c.in-Some-Some.argument c.args.shape c.args.noted c.in_ok-number-in-Applied.number c.in-Applied.is
    (sym c.in-Some-Some.ensures) (sym c.in-Some-Some.ensures') c.applied.ensures.keeps
    c.in_ok-number-in-Applied.ensures.number
