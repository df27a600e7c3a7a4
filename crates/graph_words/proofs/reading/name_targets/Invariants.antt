use Rattle.std.proofs.Common.{drop, map, take, ◌++◌, ◌≡◌}
use Rattle.graph_words.proofs.reading.name_targets.Given as goal
use Rattle.graph_words.specs.Words.{named_edge}

-- the first edges have their targets' goals
abbrev pub invariant-loop-edge : goal.invariant-loop-edge
invariant-loop-edge l = l.edge-items
    ≡ map (named_edge l.goals) (take l.edge-index l.initial.edge-items) ++ drop l.edge-index l.initial.edge-items
