use Rattle.std.proofs.Common.{◌≡◌, ◌≤◌, ◌-◌, drop, length}
use Rattle.candidate_lists.specs.Frame.{marked_from}
use Rattle.candidate_lists.proofs.frame.next_marked.Given as goal

abbrev pub invariant-loop-is_marked : goal.invariant-loop-is_marked
invariant-loop-is_marked g l =
    let cs = g.T.CandidateLists.candidates_of l.lists l.goal in
    (l.from ≤ l.place) × (marked_from l.place (drop l.place cs) l.from ≡ marked_from 0 cs l.from)

abbrev pub decreases-loop-is_marked : goal.decreases-loop-is_marked
decreases-loop-is_marked g l = length (g.T.CandidateLists.candidates_of l.lists l.goal) - l.place
