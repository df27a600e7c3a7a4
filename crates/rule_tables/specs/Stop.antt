-- What a fault of reading a table stops.
use Rattle.program_ends.specs.declared.stop.Stop.{Stop}
use Rattle.program_ends.specs.declared.stop.Stop.TheVariants.{Memory, Text}
use Rattle.rule_tables.specs.declared.reading.ReadFault.{ReadFault}
use Rattle.rule_tables.specs.declared.reading.ReadFault.TheVariants as read
use Rattle.rule_tables.specs.declared.stop.BadLine.{BadLine}

abbrev pub stop_of : ReadFault → Stop BadLine
stop_of (read.BadLine n) = Text (record { number = n })
stop_of read.Memory = Memory
