use Rattle.graph_nodes.specs.Bytes.{node_bytes}
use Rattle.graph_nodes.proofs.HeldBytes.{covers_first}
use Rattle.sessions.proofs.session.Session.held_bytes.Goals as goal

pub returns-clause-nodes : goal.returns-clause-nodes
unfolding node_bytes
returns-clause-nodes g c = covers_first _ _ _ _ c.held_bytes.ensures.nodes c.saturating_add.ensures
