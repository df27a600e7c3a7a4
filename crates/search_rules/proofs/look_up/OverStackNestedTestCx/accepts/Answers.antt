use Rattle.std.proofs.Common.{rules, is_some, not, ap, ◌∙◌}
use Rattle.std.specs.List.{list_any}
use Rattle.std.proofs.lemmas.Iterator.Consumers.{YieldsList-from_rest}
use Rattle.std.proofs.lemmas.Iterator.Search.{all_from_yields_List}
use Rattle.search_rules.specs.Below.{paths_at}
use Rattle.search_rules.specs.Words.{meets_entry}
use Rattle.search_rules.proofs.moves.LookUps.{empty_is_applicable, refused_on_stack, decided_by_entries}
use Rattle.search_rules.proofs.look_up.OverStackNestedTestCx.accepts.Goals as goal

pub returns-then-is_empty : goal.returns-then-is_empty
returns-then-is_empty g c = empty_is_applicable g.D.Cx.Input.PartialEq.eq c.args.self.now c.args.nested_goals.now
    (c.is_empty.ensures.0 c.if-is_empty.true)

pub returns-then-not-has_goal_of : goal.returns-then-not-has_goal_of
returns-then-not-has_goal_of g c =
    decided_by_entries g.D.Cx.Input.PartialEq.eq c.args.self.now c.args.nested_goals.now c.has_goal_of.result
    (c.has_goal_of.ensures
    ∙ ap (λ t. list_any (λ e. is_some (paths_at g.D.Cx.Input.PartialEq.eq c.args.nested_goals.now e.input)) t.stack)
    c.self.view_is)
    c.if-not-has_goal_of.true c.all.result
    (all_from_yields_List (λ goal. not (meets_entry g.D.Cx.Input.PartialEq.eq c.args.self.now goal.0 goal.1)) _ _
    c.all.result c.all.ensures.ran
    (YieldsList-from_rest c.args.nested_goals.now c.iter.ensures.goals) (λ goal b next called. search rules))

pub returns-else-not-has_goal_of : goal.returns-else-not-has_goal_of
returns-else-not-has_goal_of g c =
    refused_on_stack g.D.Cx.Input.PartialEq.eq c.args.self.now c.args.nested_goals.now c.has_goal_of.result
    (c.has_goal_of.ensures
    ∙ ap (λ t. list_any (λ e. is_some (paths_at g.D.Cx.Input.PartialEq.eq c.args.nested_goals.now e.input)) t.stack)
    c.self.view_is) c.if-not-has_goal_of.false
