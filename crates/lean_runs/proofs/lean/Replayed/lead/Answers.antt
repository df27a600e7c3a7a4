use Rattle.lean_runs.proofs.LeanRuns.{answer_backs, guide_backs}
use Rattle.lean_runs.proofs.lean.Replayed.lead.Goals as goal

pub returns-then-self-node-clause-backed : goal.returns-then-self-node-clause-backed
returns-then-self-node-clause-backed g c =
    answer_backs _ _ _ c.args.self.now.told.now c.args.self.now.verdict _ c.requires.answer

pub returns-else-self-node-clause-backed : goal.returns-else-self-node-clause-backed
returns-else-self-node-clause-backed g c =
    answer_backs _ _ _ c.args.self.now.told.now c.args.self.now.verdict _ c.requires.answer

pub returns-in-Some-edge_of-clause-backed : goal.returns-in-Some-edge_of-clause-backed
returns-in-Some-edge_of-clause-backed g c = guide_backs _ _ _ _ _ _ _ _ _
    (c.requires.guided c.in-Some.guide c.in-Some.is) c.requires.kind c.in-Some-edge_of.ensures

pub returns-in-None-clause-backed : goal.returns-in-None-clause-backed
returns-in-None-clause-backed g c =
    answer_backs _ _ _ c.args.self.now.told.now c.args.self.now.verdict _ c.requires.answer
