use Rattle.std.proofs.Common.{◌∙◌, Some, ap, sym}
use Rattle.mirfodwel.proofs.Opened.{on_open}
use Rattle.mirfodwel.proofs.graphs.mirfodwel_check_graph.Goals as goal

pub returns-clause-judged : goal.returns-clause-judged
returns-clause-judged c = on_open _ _ c.args.handle.now.address.inside c.deref.result.now
    (c.in-Some.ensures.some ∙ ap (λ inside. Some inside) (sym c.deref.ensures)) c.judge-status.ensures
