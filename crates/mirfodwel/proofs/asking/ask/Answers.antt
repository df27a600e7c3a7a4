use Rattle.std.proofs.Common.{rules}
use Rattle.mirfodwel.specs.Given.{Told}
use Rattle.mirfodwel.proofs.asking.ask.Goals as goal

pub returns-in-Ok : goal.returns-in-Ok
returns-in-Ok c = let its = c.ask.ensures in Told (search rules) record {
  came = c.ask.result;
  promised = (
    record {
      right = its.right;
      graph = its.graph;
      kept = its.kept;
      kept_graphs = its.kept_graphs;
      same_rows = its.same_rules;
      fault = its.fault;
      no_fault = its.no_fault;
    },
    its.asked,
  );
  same_answer = search rules;
  same_status = search rules;
}
