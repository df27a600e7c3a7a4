use Rattle.std.proofs.Common.{map, take}
use Rattle.std.specs.List.{AllZip}
use Rattle.type_texts.specs.Words.{IsNumberOf, names_of}
use Rattle.type_texts.proofs.table.TypeTable.numbers_of.Given as goal

abbrev pub invariant-loop-name : goal.invariant-loop-name
invariant-loop-name l =
    AllZip (IsNumberOf (names_of l.self)) l.numbers.items (map (λ name. name.now) (take l.name-index l.names))
