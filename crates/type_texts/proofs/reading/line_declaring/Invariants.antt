use Rattle.std.proofs.Common.{◌≡◌, ◌≤◌, length, map, take}
use Rattle.type_texts.specs.Words.{declared_by, statement_of}
use Rattle.type_texts.proofs.reading.line_declaring.Given as goal

-- the first lines declare so many types, and not the one that is sought
abbrev pub invariant-loop-before : goal.invariant-loop-before
invariant-loop-before l = record {
  counted : l.declared ≡ length (declared_by (map statement_of (take l.before l.lines)));
  before_it : l.declared ≤ l.number;
}
