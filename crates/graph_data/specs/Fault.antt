-- Why reading data ends early.
use Rattle.std.specs.Prelude.{⊤}
use Rattle.graph_data.specs.declared.fault.DataFault.{DataFault}
use Rattle.graph_data.specs.declared.fault.DataFault.TheVariants.{BadData, Memory}

abbrev pub IsBadData : DataFault → Type 0
IsBadData (BadData n) = ⊤
IsBadData Memory = ⊥

-- Reading stops where memory is out. Else the data is bad, and this does not hold of it.
abbrev pub StopsUnless : Type 0 → DataFault → Type 0
StopsUnless P (BadData n) = ¬ P
StopsUnless P Memory = ⊤
