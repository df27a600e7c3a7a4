use Rattle.type_texts.proofs.Failing.{reasons_show}
use Rattle.type_texts.proofs.reasons.reasons_show_it.Goals as goal

pub returns : goal.returns
returns c = reasons_show
