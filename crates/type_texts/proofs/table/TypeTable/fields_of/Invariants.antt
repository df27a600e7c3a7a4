use Rattle.std.proofs.Common.{map, take}
use Rattle.std.specs.List.{AllZip}
use Rattle.type_texts.specs.Words.{GrowsLabels, IsSameField, labels_of, named, names_of}
use Rattle.type_texts.proofs.table.TypeTable.fields_of.Given as goal

abbrev pub invariant-loop-field : goal.invariant-loop-field
invariant-loop-field l = record {
  fields : AllZip (IsSameField (names_of l.self) (labels_of l.self)) l.fields.items
      (map named (take l.field-index l.written));
  grows : GrowsLabels l.fn.self l.self;
}
