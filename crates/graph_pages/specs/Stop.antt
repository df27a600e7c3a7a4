-- Why the program ended early.
use Rattle.std.specs.Prelude.{ℕ, Bool, true, false, Result, Ok, Err}
use Rattle.graph_data.specs.declared.fault.DataFault.{DataFault}
use Rattle.graph_data.specs.declared.fault.DataFault.TheVariants as read_back
use Rattle.line_texts.specs.declared.input.InputFault.{InputFault}
use Rattle.line_texts.specs.declared.input.InputFault.TheVariants as input
use Rattle.rule_tables.specs.declared.reading.ReadFault.{ReadFault}
use Rattle.rule_tables.specs.declared.reading.ReadFault.TheVariants as read
use Rattle.graph_pages.specs.declared.stop.Stop.{Stop}
use Rattle.graph_pages.specs.declared.stop.Stop.TheVariants.{BadData, BadLine, InputOrOutput, Memory}

-- the exit status
abbrev pub status_of : Stop → ℕ
status_of (BadLine n) = 2
status_of (BadData n) = 2
status_of InputOrOutput = 3
status_of Memory = 4

-- 0 where all is fine, and 1 where something is not
abbrev pub status_after : Result Bool Stop → ℕ
status_after (Ok true) = 0
status_after (Ok false) = 1
status_after (Err stop) = status_of stop

-- what a fault of reading the table stops
abbrev pub stop_of : ReadFault → Stop
stop_of (read.BadLine n) = BadLine n
stop_of read.Memory = Memory

-- what a fault of reading the input stops
abbrev pub stopped_input : InputFault → Stop
stopped_input input.Failed = InputOrOutput
stopped_input input.Memory = Memory

-- what a fault of reading data stops
abbrev pub stopped_data : DataFault → Stop
stopped_data (read_back.BadData n) = BadData n
stopped_data read_back.Memory = Memory
