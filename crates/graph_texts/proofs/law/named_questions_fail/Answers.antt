use Rattle.graph_texts.proofs.Reasons.{questions_fail}
use Rattle.graph_texts.proofs.law.named_questions_fail.Goals as goal

pub returns : goal.returns
returns c = λ rules nodes goal valid place node is_node questions are named all.
    questions_fail rules nodes goal place node is_node questions are valid named all
