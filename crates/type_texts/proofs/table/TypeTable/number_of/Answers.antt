use Rattle.std.proofs.Common.{arith, refl}
use Rattle.type_texts.proofs.table.TypeTable.number_of.Goals as goal

pub returns-in-None-clause-undeclared : goal.returns-in-None-clause-undeclared
returns-in-None-clause-undeclared c = record {
  name = c.args.name.now;
  is_used = (0, omega arith, refl);
  is_undeclared = λ n at. let found = (c.in-None.ensures n).1 at in absurd cc;
}
