use Rattle.std.proofs.Common.{◌≡◌, take, map}
use Rattle.type_texts.specs.Words.{IsTableOf, names_of, statement_of}
use Rattle.type_texts.proofs.reading.table_of.Given as goal

-- the first lines are entered
abbrev pub invariant-loop-before : goal.invariant-loop-before
invariant-loop-before l = record {
  names : names_of l.table ≡ l.fn.names;
  table : IsTableOf (map statement_of (take l.before l.lines)) l.table;
}
