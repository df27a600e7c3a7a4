use Rattle.search_context.proofs.Ranks.{one_plain_value}
use Rattle.search_context.proofs.law.plain_value_is_one.Goals as goal

pub returns : goal.returns
returns g c = λ cx goal n r other. one_plain_value (g.D.Delegate.script cx) n goal r other
