-- The rule by which the provisional entries are rebased when the newest goal is popped, and that each entry with a
-- verdict that it leaves is one of `AfterPop`. A path of no step is none of the paths here.
use Rattle.std.specs.Prelude.{◌≡◌, ◌≢◌, ℕ, max, ◌≤◌, ◌<◌, List, [], ◌∷◌, ◌++◌, Option, Some, None, length, ◌⊎◌}
use Rattle.std.specs.Prelude.{Bool, IsTrue}
use Rattle.open_graphs.specs.Graph.{Verdict, Yes, No, Neither, Node}
use Rattle.open_graphs.specs.Stack.{Entry, path_kind}
use Rattle.open_graphs.specs.Use.{Head, Heads, Use, ProvisionalUse}
use Rattle.open_graphs.specs.State.{ProvisionalEntry, AfterPop}
use Rattle.open_graphs.specs.TakeOver.{KeepsCycleKind}

-- why the popped goal is done; at a fixpoint of its first run with the kind whose initial result it reached
pub data Reason : Type 0 where
  NoCycleUsages : Reason
  Ambiguity : Reason
  Overflow : Reason
  ReachedFixpoint : Option ℕ → Reason

-- the initial result of a cycle kind
pub data IsInitial : ℕ → Verdict → Type 0 where
  Inductive : IsInitial 0 No
  Unknown : IsInitial 1 Neither
  Coinductive : IsInitial 2 Yes
  ForcedAmbiguity : IsInitial 3 Neither

-- that a reason is true of the popped entry and its result
abbrev pub IsTrueReason : Reason → Verdict → Entry → Type 0
IsTrueReason NoCycleUsages verdict top = Unit {0}
IsTrueReason Ambiguity verdict top = Unit {0}
IsTrueReason Overflow verdict top = Unit {0}
IsTrueReason (ReachedFixpoint None) verdict top = top.provisional ≡ Some verdict
IsTrueReason (ReachedFixpoint (Some kind)) verdict top = (top.provisional ≡ None) × IsInitial kind verdict

-- Heads are a map: only the depths in it have paths and usages, but a depth in it may have none.
pub record AreDepths (depths : ℕ → Bool) (heads : Heads) : Type 0 where
  pub paths : (depth path : ℕ) → IsTrue ((heads depth).paths path) → IsTrue (depths depth)
  pub usages : (depth cycle : ℕ) → (heads depth).usages cycle ≢ 0 → IsTrue (depths depth)

-- a head after paths and usages were inserted; counts stick and never fall to zero
pub record IsInserted (before : Head) (paths : ℕ → Type 0) (usages : ℕ → ℕ) (after : Head) : Type 0 where
  pub stays : (path : ℕ) → IsTrue (before.paths path) → IsTrue (after.paths path)
  pub added : (path : ℕ) → paths path → IsTrue (after.paths path)
  pub counted : (cycle : ℕ) → (before.usages cycle ≢ 0) ⊎ (usages cycle ≢ 0) → after.usages cycle ≢ 0

-- a path followed by another one
pub record IsJoined (first second : ℕ → Bool) (path : ℕ) : Type 0 where
  pub start : ℕ
  pub rest : ℕ
  pub has_start : IsTrue (first start)
  pub has_rest : IsTrue (second rest)
  pub whole : path ≡ max start rest

-- each head of the popped entry is inserted with no usage
abbrev pub InsertsEmpty : ℕ → Heads → Heads → Type 0
InsertsEmpty popped heads after =
    (depth : ℕ)
    → depth < popped → IsInserted (heads depth) (λ path. ⊥) (λ cycle. 0) (after depth)

-- each head of the popped entry is inserted with the paths through the popped entry and its usages
abbrev pub InsertsHeads : ℕ → Heads → Heads → Heads → Type 0
InsertsHeads popped heads top_heads after =
    (depth : ℕ)
    → depth < popped
    → IsInserted (heads depth) (IsJoined (heads popped).paths (top_heads depth).paths)
    (top_heads depth).usages (after depth)

-- each cycle through the popped entry has the same kind with the way over the answer in it
abbrev pub PassesPathTest : List Entry → Entry → ℕ → Heads → Heads → Type 0
PassesPathTest below top path heads top_heads =
    (depth top_path own_path : ℕ)
    → IsTrue ((top_heads depth).paths top_path) → IsTrue ((heads (length below)).paths own_path)
    → KeepsCycleKind below top path depth top_path own_path

-- the head was not used
abbrev pub IsZero : Head → Type 0
IsZero head = (cycle : ℕ) → head.usages cycle ≡ 0

-- the head was used by cycles of this kind alone
abbrev pub IsSingle : ℕ → Head → Type 0
IsSingle kind head = (other : ℕ) → other ≢ kind → head.usages other ≡ 0

-- the result of an answer that used the popped entry as a head, before and after; without cycle usages none is left
abbrev pub HasResult : Reason → Head → Verdict → Verdict → Type 0
HasResult NoCycleUsages head before after = ⊥
HasResult Ambiguity head before after = after ≡ Neither
HasResult Overflow head before after = after ≡ Neither
HasResult (ReachedFixpoint None) head before after = after ≡ before
HasResult (ReachedFixpoint (Some kind)) head before after = IsSingle kind head × (after ≡ before)

-- the depths that are left as heads: those of the answer and of the popped entry, without the popped depth
abbrev pub IsLeftHead : ℕ → (ℕ → Bool) → (ℕ → Bool) → ℕ → Type 0
IsLeftHead popped own others depth = (depth ≢ popped) × (IsTrue (own depth) ⊎ IsTrue (others depth))

-- an answer without the popped head, with a new highest head and the path kind from there
pub record IsTakenOut (below : List Entry) (top : Entry) (own others : ℕ → Bool)
    (k after : ProvisionalEntry) : Type 0 where
  pub was : k.highest ≡ length below
  pub same_node : after.node ≡ k.node
  pub path : after.path ≡ max k.path (path_kind below top.step after.highest)
  pub is_head : IsLeftHead (length below) own others after.highest
  pub highest : (depth : ℕ) → IsLeftHead (length below) own others depth → depth ≤ after.highest
  pub only : (depth cycle : ℕ) → (after.heads depth).usages cycle ≢ 0 → IsLeftHead (length below) own others depth

-- What a provisional entry is after the pop. One that isn't left stands in no relation: without heads, after a failed
-- path test, or with a result that isn't left.
pub data RebasedBy (reason : Reason) (below : List Entry) (top : Entry) (own others : ℕ → Bool) (top_heads : Heads) :
    ProvisionalEntry → ProvisionalEntry → Type 0 where
  Stays : {k : ProvisionalEntry} → k.highest ≢ length below → RebasedBy reason below top own others top_heads k k
  NotNeeded :
      {k after : ProvisionalEntry} → IsTakenOut below top own others k after → IsZero (k.heads (length below))
      → InsertsEmpty (length below) k.heads after.heads → after.verdict ≡ k.verdict
      → RebasedBy reason below top own others top_heads k after
  Needed :
      {k after : ProvisionalEntry} → IsTakenOut below top own others k after → ¬ IsZero (k.heads (length below))
      → PassesPathTest below top k.path k.heads top_heads
      → InsertsHeads (length below) k.heads top_heads after.heads
      → HasResult reason (k.heads (length below)) k.verdict after.verdict
      → RebasedBy reason below top own others top_heads k after

-- what holds at the pop, where `own` are the depths in the answer's map and `others` those in the popped
-- entry's: the reason is true, the popped entry's heads lie below it, and the answer's highest head is the
-- greatest in its map and on the stack
pub record IsRebasable (reason : Reason) (below : List Entry) (top : Entry) (own others : ℕ → Bool) (verdict : Verdict)
    (top_heads : Heads) (k : ProvisionalEntry) : Type 0 where
  pub is_true : IsTrueReason reason verdict top
  pub own_within : (depth : ℕ) → IsTrue (own depth) → depth ≤ k.highest
  pub top_depths : AreDepths others top_heads
  pub top_within : (depth : ℕ) → IsTrue (others depth) → depth < length below
  pub on_stack : k.highest ≤ length below

-- What the rule leaves with a verdict is a provisional entry after the pop.
abbrev pub RebasedIsAfterPop : Type 0
RebasedIsAfterPop =
    (reason : Reason) (below : List Entry) (top : Entry) (own others : ℕ → Bool) (verdict : Verdict)
    (top_heads : Heads) (k after : ProvisionalEntry)
    → IsRebasable reason below top own others verdict top_heads k → after.verdict ≢ Neither
    → RebasedBy reason below top own others top_heads k after
    → AfterPop below top verdict top_heads k after

-- Each entry with a verdict that the rule leaves may be used over the goals below the popped one.
abbrev pub RebasedKeepsStored : Type 0
RebasedKeepsStored =
    (nodes : List Node) (reason : Reason) (below : List Entry) (top : Entry) (own others : ℕ → Bool)
    (verdict : Verdict) (top_heads : Heads) (k after : ProvisionalEntry)
    → (verdict ≢ Neither → Use nodes verdict below (path_kind below top.step) 0 top.node top_heads)
    → IsRebasable reason below top own others verdict top_heads k → after.verdict ≢ Neither
    → RebasedBy reason below top own others top_heads k after
    → ProvisionalUse nodes k.verdict (below ++ top ∷ []) k.highest k.path k.node k.heads
    → ProvisionalUse nodes after.verdict below after.highest after.path after.node after.heads
