use Rattle.std.proofs.Common.{◌∙◌, Some, ap, sym}
use Rattle.mirfodwel.proofs.Opened.{on_open}
use Rattle.mirfodwel.proofs.causes.mirfodwel_cause.Goals as goal

pub returns-clause-told : goal.returns-clause-told
returns-clause-told c = on_open _ _ c.args.handle.now.address.inside c.deref.result.now
    (c.in-Some.ensures.some ∙ ap (λ inside. Some inside) (sym c.deref.ensures)) c.tell_cause-status.ensures
