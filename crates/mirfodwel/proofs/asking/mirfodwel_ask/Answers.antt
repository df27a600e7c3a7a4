use Rattle.std.proofs.Common.{◌∙◌, Some, ap, sym}
use Rattle.mirfodwel.proofs.Opened.{on_open}
use Rattle.mirfodwel.proofs.asking.mirfodwel_ask.Goals as goal

pub returns : goal.returns
returns c = on_open _ _ c.args.handle.now.address.inside c.deref_mut.result.now
    (c.in-Some.ensures.some ∙ ap (λ inside. Some inside) (sym c.deref_mut.ensures.value))
    (c.ask-status.new.inside, c.of.ensures, c.ask-status.ensures)
