-- A provisional entry whose highest head is popped takes over the heads of that goal.
use Rattle.std.specs.Prelude.{◌≡◌, ℕ, max, List, length}
use Rattle.open_graphs.specs.Stack.{Entry, path_kind}
use Rattle.open_graphs.specs.Use.{Heads, Recorded}

-- the cycle over this path to the popped entry's head has the same kind with the way over the provisional entry in it
abbrev pub KeepsCycleKind : List Entry → Entry → ℕ → (depth top_path own_path : ℕ) → Type 0
KeepsCycleKind below top path depth top_path own_path =
    let from_head = path_kind below top.step depth in
    max from_head top_path ≡ max (max (max from_head path) own_path) top_path

-- each cycle through the popped entry has the same kind with the way over the provisional entry in it
abbrev pub KeepsCycleKinds : List Entry → Entry → ℕ → Heads → Heads → Type 0
KeepsCycleKinds below top path heads top_heads =
    (depth top_path top_cycle own_path own_cycle : ℕ)
    → Recorded top_heads depth top_path top_cycle → Recorded heads (length below) own_path own_cycle
    → KeepsCycleKind below top path depth top_path own_path

-- the heads of the popped entry are taken over, with the way to the popped entry in front of their paths
abbrev pub TakesOver : ℕ → Heads → Heads → Heads → Type 0
TakesOver popped heads top_heads rebased =
    (depth top_path top_cycle own_path own_cycle : ℕ)
    → Recorded top_heads depth top_path top_cycle → Recorded heads popped own_path own_cycle
    → Recorded rebased depth (max own_path top_path) top_cycle
