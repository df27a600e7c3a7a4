-- Provisional entries that are older than a goal under evaluation. They rest on goals below it alone, so they stay what
-- they are as long as it is under evaluation.
use Rattle.std.specs.Prelude.{◌≡◌, ◌<◌, ◌≤◌, ℕ, Bool, Contains, IsSome, length, List, [], ◌∷◌, Some}
use Rattle.two_runs.specs.Below.{at_depth, entries_at, Lists, ProvisionalCacheEntry, StackDepth}
use Rattle.search_rules.specs.Justified.{cycles_node, OpenRun}

-- of these first nodes of goals, the newest first, the one at the head's place is before the node
abbrev pub BeganBefore : List ℕ → StackDepth → ℕ → Type 0
BeganBefore [] head node = Unit {0}
BeganBefore (first ∷ below) head node = (head.0 ≡ length below → first < node) × BeganBefore below head node

module _ {X I R A T : Type 0} (same : I → I → Bool) (entries : Lists I (ProvisionalCacheEntry X I R A T)) where
  -- the goal has the entry, which has this node
  pub record HasEntry (goal : I) (entry : ProvisionalCacheEntry X I R A T) (node : ℕ) : Type 0 where
    pub there : Contains (entries_at same entries goal) entry
    pub node_is : entry.node ≡ Some (record { 0 = node })

  -- The node is that of an entry which is older than the goal and rests on heads of it alone. The first node of a goal
  -- under evaluation, to which its cycles lead, tells when it began.
  pub record IsStop (o : OpenRun I R) (node : ℕ) : Type 0 where
    pub goal : I
    pub entry : ProvisionalCacheEntry X I R A T
    pub has : HasEntry goal entry node
    pub older : node < cycles_node o
    pub known : (head : StackDepth) → IsSome (at_depth entry.heads head) → IsSome (at_depth o.tally.heads head)

  -- the other goal has no entry that is older than the goal
  abbrev pub HasNoOlder : OpenRun I R → I → Type 0
  HasNoOlder o other =
      (entry : ProvisionalCacheEntry X I R A T) (node : ℕ) → HasEntry other entry node → cycles_node o ≤ node

  -- each entry rests on goals that began before it was made
  abbrev pub RestOnOlder : List ℕ → Type 0
  RestOnOlder firsts = (goal : I) (entry : ProvisionalCacheEntry X I R A T) (node : ℕ) → HasEntry goal entry node
      → (head : StackDepth) → IsSome (at_depth entry.heads head) → BeganBefore firsts head node
