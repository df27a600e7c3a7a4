-- The whole state of an evaluation, and what holds of it between two moves.
use Rattle.std.specs.Prelude.{◌≡◌, ◌≢◌, ℕ, ◌<◌, max, List, [], ◌∷◌, ◌++◌, Some, None, false, slice_get, length, ◌⊎◌}
use Rattle.open_graphs.specs.Graph.{Verdict, Neither, cycle_kind, Edge, Node}
use Rattle.open_graphs.specs.Stack.{Entry, path_kind}
use Rattle.open_graphs.specs.Use.{Heads, Recorded, Use, HeadsWithin, ProvisionalUse, IncludesBelow, UsesNo}
use Rattle.open_graphs.specs.TakeOver.{KeepsCycleKinds, TakesOver}
use Rattle.open_graphs.specs.Run.{Running, IsStack}

-- an entry with its run: the run's own node, its answered questions by verdict, the heads that the entry had as the run
-- began, and those that it has now
pub record RunningGoal : Type 0 where
  pub entry : Entry
  pub own : ℕ
  pub edges : Verdict → List Edge
  pub heads_before : Heads
  pub heads : Heads

-- a provisional entry: its highest head and the path kind from there, its node, and its heads
pub record ProvisionalEntry : Type 0 where
  pub verdict : Verdict
  pub highest : ℕ
  pub path : ℕ
  pub node : ℕ
  pub heads : Heads

-- a final answer
pub record Final : Type 0 where
  pub verdict : Verdict
  pub node : ℕ

-- the frame of a first run: its node is the run's own
abbrev pub in_first_run : ℕ → ℕ → Heads → RunningGoal
in_first_run step n heads = record {
  entry = record { step = step; provisional = None; node = n };
  own = n;
  edges = λ verdict. [];
  heads_before = heads;
  heads = heads;
}

-- the frame of a run under a result, with the node to which its cycles lead and the run's own
abbrev pub in_next_run : RunningGoal → Verdict → ℕ → ℕ → RunningGoal
in_next_run f verdict a own = record {
  entry = record { step = f.entry.step; provisional = Some verdict; node = a };
  own = own;
  edges = λ v. [];
  heads_before = f.heads;
  heads = f.heads;
}

-- the frame with other answers, and the heads with theirs
abbrev pub answering : RunningGoal → (Verdict → List Edge) → Heads → RunningGoal
answering f edges heads =
    record { entry = f.entry; own = f.own; edges = edges; heads_before = f.heads_before; heads = heads }

-- the entries of frames, of which the newest stands first
abbrev pub stack_of : List RunningGoal → List Entry
stack_of [] = []
stack_of (f ∷ fs) = stack_of fs ++ f.entry ∷ []

-- the heads of a final answer
abbrev pub no_heads : Heads
no_heads depth = record { paths = λ path. false; usages = λ cycle. 0 }

-- each frame runs above those below it
abbrev pub AllRunning : List Node → List RunningGoal → Type 0
AllRunning nodes [] = Unit {0}
AllRunning nodes (f ∷ fs) =
    Running nodes (stack_of fs) f.entry f.own f.edges f.heads_before f.heads × AllRunning nodes fs

-- the node is not the own one of any of these runs
abbrev pub OwnsOther : ℕ → List RunningGoal → Type 0
OwnsOther own [] = Unit {0}
OwnsOther own (f ∷ fs) = (own ≢ f.own) × OwnsOther own fs

-- no two runs have the same own node
abbrev pub AllApart : List RunningGoal → Type 0
AllApart [] = Unit {0}
AllApart (f ∷ fs) = OwnsOther f.own fs × AllApart fs

-- each provisional entry may be used over the stack
abbrev pub AllProvisional : List Node → List Entry → List ProvisionalEntry → Type 0
AllProvisional nodes stack provisional_entries =
    (i : ℕ) (k : ProvisionalEntry)
    → slice_get provisional_entries i ≡ Some k → ProvisionalUse nodes k.verdict stack k.highest k.path k.node k.heads

-- each final answer may be used without heads
abbrev pub AllFinal : List Node → List Entry → List Final → Type 0
AllFinal nodes stack finals =
    (i : ℕ) (f : Final)
    → slice_get finals i ≡ Some f → Use nodes f.verdict stack (λ depth. 0) 0 f.node no_heads

-- The state of an evaluation: the list, the frames with the newest first, the provisional entries with a verdict,
-- and the final answers.
pub record IsSoundState (nodes : List Node) (frames : List RunningGoal)
    (provisional : List ProvisionalEntry) (final : List Final) : Type 0 where
  pub is_stack : IsStack nodes (stack_of frames)
  pub running : AllRunning nodes frames
  pub apart : AllApart frames
  pub stored : AllProvisional nodes (stack_of frames) provisional
  pub closed : AllFinal nodes (stack_of frames) final

-- a provisional entry with new heads, and the path kind from the new highest one
pub record IsMoved (below : List Entry) (top : Entry) (k after : ProvisionalEntry) : Type 0 where
  pub was : k.highest ≡ length below
  pub same_verdict : after.verdict ≡ k.verdict
  pub same_node : after.node ≡ k.node
  pub path : after.path ≡ max k.path (path_kind below top.step after.highest)
  pub heads : IncludesBelow (length below) k.heads after.heads
  pub within : HeadsWithin after.heads after.highest
  pub on_stack : after.highest < length below

-- the popped entry's cycles were answered with its verdict, as far as the heads record them
abbrev pub IsFixpoint : Verdict → Entry → ℕ → Heads → Type 0
IsFixpoint verdict top depth heads =
    (top.provisional ≡ Some verdict)
    ⊎ ((top.provisional ≡ None) × ((path cycle : ℕ) → Recorded heads depth path cycle → cycle ≡ cycle_kind verdict))

-- none of them was answered with the verdict: the provisional result has another one, or there is none and no usage is
-- recorded of the kind that gives the verdict
pub record IsOther (verdict : Verdict) (top : Entry) (depth : ℕ) (heads : Heads) : Type 0 where
  pub result : top.provisional ≢ Some verdict
  pub kinds : top.provisional ≡ None → (path : ℕ) → Recorded heads depth path (cycle_kind verdict) → ⊥

-- What a provisional entry is after the newest goal was popped: unchanged where its highest head lies lower; with other
-- heads where it used the popped entry not at all, or only by cycles that were answered with another verdict than its
-- own; and where the popped entry reached its fixpoint with a verdict, each cycle through it keeps its kind, and its
-- heads are taken over.
pub data AfterPop (below : List Entry) (top : Entry) (verdict : Verdict) (top_heads : Heads) : ProvisionalEntry
    → ProvisionalEntry → Type 0 where
  Lower : {k : ProvisionalEntry} → k.highest < length below → AfterPop below top verdict top_heads k k
  Unused :
      {k after : ProvisionalEntry} → IsMoved below top k after → UsesNo k.heads (length below)
      → AfterPop below top verdict top_heads k after
  Fixpoint :
      {k after : ProvisionalEntry} → IsMoved below top k after → verdict ≢ Neither → k.verdict ≢ Neither
      → IsFixpoint verdict top (length below) k.heads → KeepsCycleKinds below top k.path k.heads top_heads
      → TakesOver (length below) k.heads top_heads after.heads → AfterPop below top verdict top_heads k after
  Other :
      {k after : ProvisionalEntry} → IsMoved below top k after → IsOther k.verdict top (length below) k.heads
      → AfterPop below top verdict top_heads k after
