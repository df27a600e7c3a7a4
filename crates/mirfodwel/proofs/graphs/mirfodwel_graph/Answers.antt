use Rattle.std.proofs.Common.{◌∙◌, Some, ap, sym}
use Rattle.mirfodwel.proofs.Opened.{on_open}
use Rattle.mirfodwel.proofs.graphs.mirfodwel_graph.Goals as goal

pub returns-clause-given : goal.returns-clause-given
returns-clause-given c = on_open _ _ c.args.handle.now.address.inside c.deref.result.now
    (c.in-Some.ensures.some ∙ ap (λ inside. Some inside) (sym c.deref.ensures)) c.give_graph-status.ensures
