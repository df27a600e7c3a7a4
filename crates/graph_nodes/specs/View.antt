-- The slots of the list as the nodes that contracts see.
use Rattle.std.specs.Prelude.{Some, false}
use Rattle.search_context.specs.declared.context.Node.{Node}
use Rattle.graph_nodes.specs.declared.node_list.Slot.{Slot}
use Rattle.graph_nodes.specs.declared.node_list.Slot.TheVariants.{Open, Finished}
use Rattle.graph_nodes.specs.Nodes.{EndedRun, CacheNode, open_node}

-- the run that a finished node stands for
abbrev pub run_of : {I R : Type 0} → Node I R → EndedRun I R
run_of n = record { replies = n.replies.items; edges = n.edges.items; outcome = n.result }

-- a finished node as contracts see it
abbrev pub ended_node : {I R : Type 0} → Node I R → CacheNode I R
ended_node n = record { goal = n.input; run = Some (run_of n); gone = false }

-- a slot as contracts see it
abbrev pub node_of : {I R : Type 0} → Slot I R → CacheNode I R
node_of (Open goal) = open_node goal
node_of (Finished n) = ended_node n
