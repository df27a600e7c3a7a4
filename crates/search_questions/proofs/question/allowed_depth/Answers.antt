use Rattle.std.proofs.Common.{◌∙◌, ap}
use Rattle.search_questions.specs.Below.{allowed_depth}
use Rattle.open_goals.proofs.OldestFirst.{allowed_by_newest}
use Rattle.search_questions.proofs.question.allowed_depth.Goals as goal

pub returns : goal.returns
returns g c =
    c.allowed_depth_for_nested.ensures
    ∙ ap (allowed_depth g.D.Delegate.DIVIDE_AVAILABLE_DEPTH_ON_OVERFLOW c.args.evaluation.now.root_depth.0)
    c.stack.ensures
    ∙ allowed_by_newest g.D.Delegate.DIVIDE_AVAILABLE_DEPTH_ON_OVERFLOW c.args.evaluation.now.root_depth.0
    c.args.evaluation.now.goals c.requires
