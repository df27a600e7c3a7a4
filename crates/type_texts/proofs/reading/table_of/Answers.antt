use Rattle.std.proofs.Common.{refl, ◌∙◌}
use Rattle.type_texts.specs.Words.{statement_of}
use Rattle.type_texts.proofs.Lists.{map_take_more}
use Rattle.type_texts.proofs.Short.{short_at}
use Rattle.type_texts.proofs.Texts.{statement_at}
use Rattle.type_texts.proofs.reading.table_of.Goals as goal

pub returns-in-Err-Undeclared-clause-fault : goal.returns-in-Err-Undeclared-clause-fault
returns-in-Err-Undeclared-clause-fault c = record {
  before = c.loop-before.before;
  count = refl;
  statement = statement_of c.index-lines-before.result;
  is_at = statement_at c.args.lines.now c.loop-before.before c.index-lines-before.result
      c.loop-before-test.true c.index-lines-before.is;
  undeclared = rw (← c.loop-before.invariant.names) (c.in-Err-Undeclared.ensures.undeclared cc);
}

pub loop-before-preserved : goal.loop-before-preserved
loop-before-preserved c = record {
  names = c.in-Ok.ensures.added.names ∙ c.loop-before.invariant.names;
  table = c.in-Ok.ensures.added.more _ c.loop-before.invariant.table _ (map_take_more statement_of c.args.lines.now
      c.loop-before.before c.index-lines-before.result c.loop-before-test.true c.index-lines-before.is);
}

pub enter-requires : goal.enter-requires
enter-requires c = short_at c.args.lines.now c.loop-before.before c.index-lines-before.result c.requires
    c.loop-before-test.true c.index-lines-before.is
