-- Why words are not read.
use Rattle.std.specs.Prelude.{⊤}
use Rattle.graph_words.specs.declared.fault.WordsFault.{WordsFault}
use Rattle.graph_words.specs.declared.fault.WordsFault.TheVariants.{Memory, NoGraph}

-- Reading stops where memory is out. Else the words are no graph's, and this does not hold of them.
abbrev pub StopsUnless : Type 0 → WordsFault → Type 0
StopsUnless P NoGraph = ¬ P
StopsUnless P Memory = ⊤
