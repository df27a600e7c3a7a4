-- The list once nodes were let go to which nothing leads any more.
use Rattle.std.specs.Prelude.{◌≡◌, ℕ, Bool, IsTrue, List, [], ◌∷◌, Some, slice_get}
use Rattle.open_graphs.specs.Graph.{Edge, Finished, HasShapeEdge, Node, Verdict}
use Rattle.open_graphs.specs.State.{Final, IsSoundState, ProvisionalEntry, RunningGoal}

-- Live nodes are as they were, and lead to live ones alone. No other node is finished.
pub record Collected (live : ℕ → Bool) (before after : List Node) : Type 0 where
  pub same : (a : ℕ) → IsTrue (live a) → slice_get after a ≡ slice_get before a
  pub left : (a : ℕ) (verdict : Verdict) (edges : List Edge)
      → slice_get after a ≡ Some (Finished verdict edges) → IsTrue (live a)
  pub closed : (verdict : Verdict) (a k c : ℕ) → IsTrue (live a) → HasShapeEdge before verdict a k c → IsTrue (live c)

module _ (live : ℕ → Bool) where
  -- what a frame leads to is live: its own node, the one to which its cycles lead, and those of its answers
  pub record IsLiveFrame (f : RunningGoal) : Type 0 where
    pub own : IsTrue (live f.own)
    pub cycles : IsTrue (live f.entry.node)
    pub answers : (verdict : Verdict) (i : ℕ) (edge : Edge)
        → slice_get (f.edges verdict) i ≡ Some edge → IsTrue (live edge.target)

  -- the same of each frame
  abbrev pub AreLiveFrames : List RunningGoal → Type 0
  AreLiveFrames [] = Unit {0}
  AreLiveFrames (f ∷ fs) = IsLiveFrame f × AreLiveFrames fs

  -- what a state leads to is live
  pub record IsLiveState (frames : List RunningGoal)
      (provisional : List ProvisionalEntry) (final : List Final) : Type 0 where
    pub frames_are : AreLiveFrames frames
    pub provisional_are : (i : ℕ) (k : ProvisionalEntry) → slice_get provisional i ≡ Some k → IsTrue (live k.node)
    pub final_are : (i : ℕ) (f : Final) → slice_get final i ≡ Some f → IsTrue (live f.node)

-- A state stays sound when nodes are let go to which nothing of it leads.
abbrev pub CollectingKeepsSound : Type 0
CollectingKeepsSound =
    (live : ℕ → Bool) (before after : List Node) (frames : List RunningGoal)
    (provisional : List ProvisionalEntry) (final : List Final)
    → Collected live before after → IsLiveState live frames provisional final
    → IsSoundState before frames provisional final → IsSoundState after frames provisional final
