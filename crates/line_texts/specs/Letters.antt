-- A name's bytes as a number, and its hash.
use Rattle.std.specs.Prelude.{ℕ, ◌-◌, ◌*◌, ◌/◌, ◌%◌, ◌^◌, List, ◌++◌, length, replicate}
use Rattle.std.specs.Int.{from_le_bytes, w128}

-- a name's bytes with zeros behind them
abbrev pub padded : List ℕ → List ℕ
padded text = text ++ replicate (16 - length text) 0

-- the same as a number
abbrev pub letters_of : List ℕ → ℕ
letters_of text = from_le_bytes w128 (padded text)

-- where the way to a name with these letters begins, among so many heads
abbrev pub head_of : ℕ → ℕ → ℕ
head_of letters heads =
    (letters * 0x9E3779B97F4A7C15F39CC0605CEDC835) % 2 ^ 128 / 2 ^ 96 * heads % 2 ^ 64 / 2 ^ 32
