use Rattle.strong_components.specs.Words.{successor_lists, IsSearch, StaySeen, work_of}
use Rattle.strong_components.proofs.search.Search.explore.Given as goal

abbrev pub invariant-loop-position : goal.invariant-loop-position
invariant-loop-position l = record {
  ongoing : IsSearch (successor_lists l.graph) l.self;
  seen : StaySeen l.initial.self.states.items l.self.states.items;
}

abbrev pub decreases-loop-position : goal.decreases-loop-position
decreases-loop-position l = work_of l.self
