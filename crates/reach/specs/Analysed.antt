-- What an analysis is to those that use it.
use Rattle.std.specs.Prelude.{List}
use Rattle.reach.specs.declared.analysis.Analysis.{Analysis}
use Rattle.reach.specs.declared.program.Program.{Program}
use Rattle.reach.specs.Paths.{Block}
use Rattle.reach.specs.Program.{blocks_of}

-- the blocks of the program that it is about; `program_of` gives the one that a lender lends
abbrev pub analysed : {P : Type 0} → (P → Program) → Analysis P → List Block
analysed program_of analysis = blocks_of (program_of analysis.cache.cx.0.0.lender)
