use Rattle.std.proofs.Common.{◌≡◌, Ok, ap, map, subst, sym, ◌∙◌}
use Rattle.type_texts.specs.Words.{AreDistinct, DeclaresType, statement_of}
use Rattle.type_texts.proofs.Short.{all_short}
use Rattle.type_texts.proofs.Texts.{all_declared, as_many_forms, unguarded_is_declared}
use Rattle.type_texts.proofs.table.TypeTable.read.Goals as goal

pub unguarded_union-requires-clause-declared : goal.unguarded_union-requires-clause-declared
unguarded_union-requires-clause-declared c =
    all_declared (map statement_of c.in_ok-lines.lines.items) c.in_ok-table.table
    (rw c.as_slice-2.ensures.value at c.in_ok-table.ensures.table)
    (c.in_ok-table.ensures.names ∙ (rw c.as_slice.ensures.value at c.in_ok-names.ensures.names))

pub unguarded_union-requires-clause-all : goal.unguarded_union-requires-clause-all
unguarded_union-requires-clause-all c =
    c.count.ensures ∙ as_many_forms (map statement_of c.in_ok-lines.lines.items) c.in_ok-table.table
    (rw c.as_slice-2.ensures.value at c.in_ok-table.ensures.table)
    (c.in_ok-table.ensures.names ∙ (rw c.as_slice.ensures.value at c.in_ok-names.ensures.names))

-- what is a union of itself is declared
pub line_declaring-requires : goal.line_declaring-requires
line_declaring-requires c =
    let is_union = c.in_ok-number.ensures.some c.in-Some.number (ap Ok c.in-Some.is) in
    rw c.as_slice-in-Some.ensures.value
    (unguarded_is_declared (map statement_of c.in_ok-lines.lines.items) c.in_ok-table.table c.in-Some.number
    (rw c.as_slice-2.ensures.value at c.in_ok-table.ensures.table) is_union)

pub returns-in-Some-clause-unguarded : goal.returns-in-Some-clause-unguarded
returns-in-Some-clause-unguarded c = λ n e.
    let same : c.line_declaring.result ≡ n = cc in record {
      statements = map statement_of c.in_ok-lines.lines.items;
      lines = c.in_ok-lines.ensures.lines;
      table = c.in_ok-table.table;
      is_table = rw c.as_slice-2.ensures.value at c.in_ok-table.ensures.table;
      type = c.in-Some.number;
      is_declared = subst (DeclaresType (map statement_of c.in_ok-lines.lines.items) c.in-Some.number) same
          (rw c.as_slice-in-Some.ensures.value at c.line_declaring.ensures);
      is_union = c.in_ok-number.ensures.some c.in-Some.number (ap Ok c.in-Some.is);
    }

pub returns-clause-read : goal.returns-clause-read
returns-clause-read c =
    let is_table = rw c.as_slice-2.ensures.value at c.in_ok-table.ensures.table in
    let names = c.in_ok-table.ensures.names ∙ (rw c.as_slice.ensures.value at c.in_ok-names.ensures.names) in
    record {
      statements = map statement_of c.in_ok-lines.lines.items;
      lines = c.in_ok-lines.ensures.lines;
      names = names;
      distinct = subst AreDistinct (sym c.in_ok-table.ensures.names) c.in_ok-names.ensures.distinct;
      is_table = is_table;
      declared = all_declared (map statement_of c.in_ok-lines.lines.items) c.in_ok-table.table is_table names;
      contractive = c.in_ok-number.ensures.none (ap Ok c.in-None.is);
    }

pub names_in-requires : goal.names_in-requires
names_in-requires c =
    rw c.as_slice.ensures.value (all_short _ (map statement_of c.in_ok-lines.lines.items) c.in_ok-lines.ensures.lines)

pub table_of-requires : goal.table_of-requires
table_of-requires c =
    rw c.as_slice-2.ensures.value (all_short _ (map statement_of c.in_ok-lines.lines.items) c.in_ok-lines.ensures.lines)
