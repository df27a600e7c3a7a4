use Rattle.std.proofs.Common.{refl}
use Rattle.line_texts.proofs.names.links.head_of.Goals as goal

pub returns-clause-value : goal.returns-clause-value
returns-clause-value c = refl
