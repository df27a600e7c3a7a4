use Rattle.std.proofs.Common.{◌≡◌, Some, subst, sym}
use Rattle.std.specs.Prelude.{slice_get}
use Rattle.line_texts.proofs.NameLemmas.{none_is_longer}
use Rattle.line_texts.proofs.names.Names.number.Goals as goal

pub returns-then-name-gt-MOST : goal.returns-then-name-gt-MOST
returns-then-name-gt-MOST c = λ n. (
  λ some. absurd cc,
  λ at. absurd (none_is_longer c.self.inside.names.items c.args.name.now n c.if-name-gt-MOST.true
      (subst (λ names. slice_get names n ≡ Some c.args.name.now) (sym c.self.view_is) at)),
)
