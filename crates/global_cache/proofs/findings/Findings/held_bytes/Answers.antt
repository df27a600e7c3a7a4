use Rattle.graph_nodes.specs.Bytes.{node_bytes}
use Rattle.std.proofs.Common.{◌≤◌, arith, ap, count_by}
use Rattle.graph_nodes.proofs.HeldBytes.{covers_part}
use Rattle.global_cache.specs.Below.{is_held}
use Rattle.global_cache.proofs.findings.Findings.held_bytes.Goals as goal

pub returns-clause-nodes : goal.returns-clause-nodes
unfolding node_bytes
returns-clause-nodes g c =
    let same = ap (λ found. count_by is_held found.nodes) c.self.view_is in
    let fits : count_by is_held c.args.self.now.nodes ≤ count_by is_held c.self.inside.nodes = omega arith in
    covers_part _ _ _ _ _ _ fits c.held_bytes.ensures c.saturating_add.ensures
