-- Why a program ended early, and its exit status.
use Rattle.std.specs.Prelude.{ℕ, Bool, true, false, Result, Ok, Err}
use Rattle.line_texts.specs.declared.input.InputFault.{InputFault}
use Rattle.line_texts.specs.declared.input.InputFault.TheVariants as input
use Rattle.program_ends.specs.declared.stop.Stop.{Stop}
use Rattle.program_ends.specs.declared.stop.Stop.TheVariants.{InputOrOutput, Memory, Text}

module _ {F : Type 0} where
  -- the exit status
  abbrev pub status_of : Stop F → ℕ
  status_of (Text fault) = 2
  status_of InputOrOutput = 3
  status_of Memory = 4

  -- 0 where all is fine, and 1 where something is not
  abbrev pub status_after : Result Bool (Stop F) → ℕ
  status_after (Ok true) = 0
  status_after (Ok false) = 1
  status_after (Err stop) = status_of stop

  -- what a fault of reading the input stops
  abbrev pub stopped_input : InputFault → Stop F
  stopped_input input.Failed = InputOrOutput
  stopped_input input.Memory = Memory
