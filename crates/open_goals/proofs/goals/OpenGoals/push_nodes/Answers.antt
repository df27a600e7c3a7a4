use Rattle.std.proofs.Common.{[], ◌∙◌, ap}
use Rattle.goal_changes.specs.Words.{paired}
use Rattle.open_goals.proofs.Nodes.{goals_on_ok}
use Rattle.run_records.proofs.Nodes.{kept_through}
use Rattle.open_goals.proofs.goals.OpenGoals.push_nodes.Goals as goal

pub returns-clause-kept : goal.returns-clause-kept
returns-clause-kept g c = kept_through c.args.nodes.now.items c.push_cycle_nodes.new.nodes.items
    c.push_run_nodes.new.nodes.items c.push_cycle_nodes.ensures.kept c.push_run_nodes.ensures.kept

pub returns-clause-nodes : goal.returns-clause-nodes
returns-clause-nodes g c =
    goals_on_ok c.self.inside.stack c.as_slice.result.now c.args.self.now
    (ap (paired [] c.self.inside.stack) c.as_slice.ensures.value ∙ c.self.view_is)
    c.push_cycle_nodes.new.nodes.items c.push_run_nodes.new.nodes.items c.push_run_nodes.ensures.kept
    c.in_ok-push_cycle_nodes.ensures.cycles c.push_run_nodes.result c.push_run_nodes.ensures.runs
