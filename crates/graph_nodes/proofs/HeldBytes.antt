-- What is told of bytes.
use Rattle.std.proofs.Common.{ℕ, ◌+◌, ◌*◌, ◌-◌, ◌^◌, ◌≡◌, ◌≤◌, min, arith}
use Rattle.std.proofs.Math.Nat.{mul-le-mul_right}
use Rattle.heap_room.specs.Bytes.{CoversBytes}

-- the bytes of all places cover those of some, also with more bytes added
pub covers_part : (part whole size told more all : ℕ) → part ≤ whole → CoversBytes (whole * size) told
    → all ≡ min (told + more) (2 ^ 64 - 1) → CoversBytes (part * size) all
covers_part part whole size told more all fits covers sum =
    let products : part * size ≤ whole * size = mul-le-mul_right size fits in
    omega arith

-- a sum covers what its first part does
pub covers_first : (bytes told more all : ℕ) → CoversBytes bytes told → all ≡ min (told + more) (2 ^ 64 - 1)
    → CoversBytes bytes all
covers_first bytes told more all covers sum = omega arith

-- what covers a sum covers its last part
pub covers_last : (first second last told : ℕ) → CoversBytes (first + second + last) told → CoversBytes last told
covers_last first second last told covers = omega arith
