-- How many bytes are told.
use Rattle.std.specs.Prelude.{ℕ, ◌+◌, ◌*◌, ◌-◌, ◌^◌, ◌≤◌, min}
use Rattle.std.specs.Borrow.{RattleType}
use Rattle.std.specs.Mem.{type_size}

-- It tells at least so many bytes, or the greatest number of 64 bits where they are more.
abbrev pub CoversBytes : ℕ → ℕ → Type 0
CoversBytes bytes told = min bytes (2 ^ 64 - 1) ≤ told

-- the bytes of so many entries of a map: their keys, their values, and eight for each in the table
abbrev pub entry_bytes : RattleType → RattleType → ℕ → ℕ
entry_bytes K V count = count * type_size K + count * type_size V + count * 8
