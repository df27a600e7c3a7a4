-- How what a call came to leaves by a buffer of the caller.
use Rattle.std.specs.Prelude.{◌≡◌, ℕ, ◌<◌, ◌≤◌, List, ◌++◌, drop, length}

-- A call came to a status with these elements, as `Came` says. They stand at the front of the buffer, and what it had
-- behind them stays; or there are more than it has room for, the status is that of no room, and nothing was written.
pub record IsHandedOut {A : Type 0} (Came : ℕ → List A → Type 0) (old new : List A) (used status : ℕ) : Type 0 where
  pub own_status : ℕ
  pub all : List A
  pub came : Came own_status all
  pub count : used ≡ length all
  pub fits : length all ≤ length old → (status ≡ own_status) × (new ≡ all ++ drop (length all) old)
  pub no_room : length old < length all → (status ≡ 5) × (new ≡ old)

-- this status, and these elements
abbrev pub IsThis : {A : Type 0} → ℕ → List A → ℕ → List A → Type 0
IsThis status all own_status its = (own_status ≡ status) × (its ≡ all)

-- A program ended with this status and these lines. They are told; where it ended early, a reason is, and the status is
-- that of a bad text, or of no memory.
pub record IsToldAs (status : ℕ) (lines : List ℕ) (own_status : ℕ) (its : List ℕ) : Type 0 where
  pub told : status ≤ 1 → (own_status ≡ status) × (its ≡ lines)
  pub bad : status ≡ 2 → own_status ≡ 2
  pub broken_off : 2 < status → own_status ≡ 4
