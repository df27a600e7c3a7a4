-- The theorems on whole states: each move of an evaluation keeps a sound state sound.
use Rattle.std.specs.Prelude.{◌≡◌, ◌≢◌, ℕ, ◌<◌, List, [], ◌∷◌, ◌++◌, Some, slice_get, length}
use Rattle.open_graphs.specs.Graph.{Verdict, Neither, Edge, Node, Unfinished, IsClosedGraph}
use Rattle.open_graphs.specs.Stack.{Entry, path_kind}
use Rattle.open_graphs.specs.Use.{Heads, Use, HeadsWithin, Includes, UsesNo}
use Rattle.open_graphs.specs.Run.{AllAnswered, Answered}
use Rattle.open_graphs.specs.State.{RunningGoal, ProvisionalEntry, Final, in_first_run, in_next_run, answering}
use Rattle.open_graphs.specs.State.{stack_of, IsSoundState, AfterPop}

-- A goal is pushed and begins its first run.
abbrev pub PushKeepsSound : Type 0
PushKeepsSound =
    (nodes : List Node) (frames : List RunningGoal)
    (provisional : List ProvisionalEntry) (final : List Final) (step : ℕ)
    (heads : Heads)
    → IsSoundState nodes frames provisional final
    → IsSoundState (nodes ++ Unfinished ∷ []) (in_first_run step (length nodes) heads ∷ frames) provisional final

-- The newest run gets other answers, each of which may be used and whose heads are among the run's.
abbrev pub AnswersKeepSound : Type 0
AnswersKeepSound =
    (nodes : List Node) (f : RunningGoal) (frames : List RunningGoal)
    (provisional : List ProvisionalEntry) (final : List Final)
    (edges : Verdict → List Edge) (heads : Heads)
    → Includes f.heads_before heads
    → ((verdict : Verdict) → AllAnswered nodes verdict (stack_of frames) f.entry (edges verdict) heads)
    → IsSoundState nodes (f ∷ frames) provisional final
    → IsSoundState nodes (answering f edges heads ∷ frames) provisional final

-- The provisional entries after a goal is done: those that `AfterPop` leaves, and perhaps the goal's own answer.
pub data IsLeft (below : List Entry) (top : Entry) (verdict : Verdict) (a : ℕ) (heads : Heads)
    (provisional : List ProvisionalEntry) :
    ProvisionalEntry → Type 0 where
  Survives :
      {old k : ProvisionalEntry} (i : ℕ) → slice_get provisional i ≡ Some old → AfterPop below top verdict heads old k
      → IsLeft below top verdict a heads provisional k
  Added :
      (highest : ℕ)
      → verdict ≢ Neither → highest < length below → HeadsWithin heads highest
      → IsLeft below top verdict a heads provisional (record {
        verdict = verdict;
        highest = highest;
        path = path_kind below top.step highest;
        node = a;
        heads = heads;
      })

-- The final answers are those from before, and the answer itself if it has no heads.
pub data IsFinalAfter (verdict : Verdict) (a : ℕ) (heads : Heads) (final : List Final) : Final → Type 0 where
  Before : {f : Final} (i : ℕ) → slice_get final i ≡ Some f → IsFinalAfter verdict a heads final f
  Now :
      verdict ≢ Neither → ((depth : ℕ) → UsesNo heads depth)
      → IsFinalAfter verdict a heads final (record { verdict = verdict; node = a })

-- The newest goal is done: the state stays sound, and a definite answer may be used below.
abbrev pub PopKeepsSound : Type 0
PopKeepsSound =
    (nodes : List Node) (f : RunningGoal) (frames : List RunningGoal)
    (provisional left : List ProvisionalEntry) (final done : List Final)
    (verdict : Verdict) (later : List Node) (a : ℕ)
    → Answered nodes f.entry f.own f.edges verdict later a
    → ((i : ℕ) (k : ProvisionalEntry) → slice_get left i ≡ Some k
    → IsLeft (stack_of frames) f.entry verdict a f.heads provisional k)
    → ((i : ℕ) (x : Final) → slice_get done i ≡ Some x → IsFinalAfter verdict a f.heads final x)
    → IsSoundState nodes (f ∷ frames) provisional final
    → IsSoundState later frames left done
    × (verdict ≢ Neither → Use later verdict (stack_of frames) (path_kind (stack_of frames) f.entry.step) 0 a f.heads)

-- The provisional entries after a goal is run again: those that record no usage of it.
abbrev pub LeftByRerun : List Entry → List ProvisionalEntry → List ProvisionalEntry → Type 0
LeftByRerun below before after =
    (i : ℕ) (k : ProvisionalEntry)
    → slice_get after i ≡ Some k → (j : ℕ) × (slice_get before j ≡ Some k) × UsesNo k.heads (length below)

-- The newest goal is run again: the state stays sound.
abbrev pub RerunKeepsSound : Type 0
RerunKeepsSound =
    (nodes : List Node) (f : RunningGoal) (frames : List RunningGoal)
    (provisional left : List ProvisionalEntry) (final : List Final)
    (verdict : Verdict) (later : List Node) (a : ℕ)
    → Answered nodes f.entry f.own f.edges verdict later a → LeftByRerun (stack_of frames) provisional left
    → IsSoundState nodes (f ∷ frames) provisional final
    → IsSoundState (later ++ Unfinished ∷ []) (in_next_run f verdict a (length later) ∷ frames) left final

-- An evaluation begins with an empty stack and final answers that have their graphs.
abbrev pub StartIsSound : Type 0
StartIsSound =
    (nodes : List Node) (final : List Final)
    → ((i : ℕ) (x : Final) → slice_get final i ≡ Some x → IsClosedGraph nodes x.verdict x.node)
    → IsSoundState nodes [] [] final

-- At each moment, also after a fault, the final answers have their graphs.
abbrev pub FinalIsGraph : Type 0
FinalIsGraph =
    (nodes : List Node) (frames : List RunningGoal) (provisional : List ProvisionalEntry)
    (final : List Final) (i : ℕ) (x : Final)
    → IsSoundState nodes frames provisional final
    → slice_get final i ≡ Some x → IsClosedGraph nodes x.verdict x.node
