-- Ways back through the blocks of a program. A block is told by its number.
use Rattle.std.specs.Prelude.{◌≡◌, ℕ, ◌<◌, List, [], ◌∷◌, slice_get, Contains, Some}
pub use Rattle.reach.specs.declared.program.Block.{Block}

-- the second block is one from which the first is entered
pub record IsEnteredFrom (blocks : List Block) (at before : ℕ) : Type 0 where
  pub block : Block
  pub is_block : slice_get blocks at ≡ Some block
  pub has : Contains block.predecessors.items before

-- the block may write the variable
pub record Writes (blocks : List Block) (at variable : ℕ) : Type 0 where
  pub block : Block
  pub is_block : slice_get blocks at ≡ Some block
  pub has : Contains block.writes.items variable

-- the list leads back from a block to another one, each of its blocks entered from the next
abbrev pub LeadsBack : List Block → ℕ → List ℕ → ℕ → Type 0
LeadsBack blocks from [] to = from ≡ to
LeadsBack blocks from (before ∷ rest) to = IsEnteredFrom blocks from before × LeadsBack blocks before rest to

-- a way back, of one step at least, leads from the block to one that may write the variable
pub record IsWrittenBefore (blocks : List Block) (at variable : ℕ) : Type 0 where
  pub first : ℕ
  pub rest : List ℕ
  pub writer : ℕ
  pub leads : LeadsBack blocks at (first ∷ rest) writer
  pub writes : Writes blocks writer variable

-- each block is entered from blocks of smaller numbers alone
abbrev pub GoDown : List Block → Type 0
GoDown blocks = (at before : ℕ) → IsEnteredFrom blocks at before → before < at
