use Rattle.strong_components.specs.Words.{successor_lists}
use Rattle.strong_components.proofs.Idle.{IsIdle}
use Rattle.strong_components.proofs.search.Search.explore_all.Given as goal

abbrev pub invariant-loop-place : goal.invariant-loop-place
invariant-loop-place l = IsIdle (successor_lists l.graph) l.self l.place
