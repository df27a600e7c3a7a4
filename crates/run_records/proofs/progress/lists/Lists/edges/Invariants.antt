use Rattle.std.proofs.Common.{◌≡◌, map, take}
use Rattle.std.specs.List.{filter}
use Rattle.run_records.specs.Words.{rests_on}
use Rattle.run_records.proofs.progress.lists.Lists.edges.Given as goal

-- the edges of the answers so far
abbrev pub invariant-loop-packed : goal.invariant-loop-packed
invariant-loop-packed g l =
    l.edges.items ≡ map (λ d. d.edge) (filter (rests_on l.self.ignored l.verdict) (take l.packed-index l.self.answers))
