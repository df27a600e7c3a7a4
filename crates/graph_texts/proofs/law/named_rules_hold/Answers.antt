use Rattle.graph_texts.proofs.Reasons.{rules_hold}
use Rattle.graph_texts.proofs.law.named_rules_hold.Goals as goal

pub returns : goal.returns
returns c = λ rules nodes goal valid place node is_node questions are named holds none.
    rules_hold rules nodes goal place node is_node questions are valid named holds none
