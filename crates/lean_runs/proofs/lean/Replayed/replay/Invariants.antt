use Rattle.lean_runs.specs.Words.{IsGuided, IsReplaying}
use Rattle.lean_runs.proofs.lean.Replayed.replay.Given as goal

-- the replay has come so far, and its guide is one
abbrev pub invariant-loop-frame : goal.invariant-loop-frame
invariant-loop-frame g l = record {
  replaying : IsReplaying g.D.Delegate g.D.Cx.Cx l.fn.self.cache.now.cx l.fn.self.input l.fn.self.cache.now.nodes
      l.fn.self.own_node.0 l.fn.self.told.now l.fn.self.verdict l.frame l.progress l.received;
  guided : IsGuided l.fn.self.own_node.0 l.fn.self.told.now l.fn.self.verdict l.place.guide;
}

abbrev pub decreases-loop-frame : goal.decreases-loop-frame
decreases-loop-frame g l = g.D.Delegate.left l.frame
