-- The blocks of a program.
use Rattle.std.specs.Prelude.{List}
use Rattle.reach.specs.declared.program.Program.{Program}
use Rattle.reach.specs.Paths.{Block}

abbrev pub blocks_of : Program → List Block
blocks_of program = program.blocks.items
