use Rattle.graph_check.proofs.CountedQuestions.{IsLeft}
use Rattle.graph_check.proofs.replay.run_record.has_edges.Given as goal

abbrev pub invariant-loop-asked : goal.invariant-loop-asked
invariant-loop-asked g l = IsLeft l.run l.edges l.left l.asked-index
