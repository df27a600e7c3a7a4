use Rattle.std.proofs.Common.{rules, is_some, ◌∙◌}
use Rattle.std.proofs.lemmas.Iterator.{YieldsList-from_slice}
use Rattle.std.proofs.lemmas.Iterator.Consumers.{YieldsList-from_rest}
use Rattle.std.proofs.lemmas.Iterator.Search.{any_from_yields_List}
use Rattle.search_rules.specs.Below.{paths_at}
use Rattle.search_stack.specs.Words.{position_of}
use Rattle.search_rules.proofs.moves.LookUps.{any-shared}
use Rattle.search_rules.proofs.look_up.has_goal_of.Goals as goal

-- the goals are walked
pub returns-then-len-most : goal.returns-then-len-most
returns-then-len-most g c =
    let same = g.X.Input.PartialEq.eq in
    any_from_yields_List (λ goal. is_some (position_of same goal.0 c.args.stack.now)) _ _ c.any.result c.any.ensures.ran
    (YieldsList-from_rest c.args.nested_goals.now c.iter.ensures.goals) (λ goal b next called. search rules)
    ∙ any-shared same g.met.X.Input.Eq.laws.symm c.args.stack.now c.args.nested_goals.now

-- the stack is walked
pub returns : goal.returns
returns g c =
    any_from_yields_List (λ e. is_some (paths_at g.X.Input.PartialEq.eq c.args.nested_goals.now e.input)) _
    _ c.any-2.result c.any-2.ensures.ran
    (YieldsList-from_slice c.args.stack.now c.iter-2.ensures) (λ entry b next called. search rules)
