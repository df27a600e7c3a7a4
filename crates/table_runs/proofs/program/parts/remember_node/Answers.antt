use Rattle.std.proofs.Common.{subst}
use Rattle.rule_tables.specs.contracts.rules.GoalPartialEq.TheImpl.{eq-value}
use Rattle.table_runs.proofs.Remembered.{all_with}
use Rattle.table_runs.specs.Right.{SomeGraphShows}
use Rattle.table_runs.proofs.program.parts.remember_node.Goals as goal

pub returns : goal.returns
returns g c = λ cx here shown.
    let node = c.args.node.now in
    all_with (λ key. SomeGraphShows g.X.Cx cx key.0 key.1.0) (eq-value.it node.input) c.args.shown.now.entries
    c.insert.new.self.entries node.input (node.result, c.args.id) c.in_ok-insert.field-0 c.in_ok-insert.ensures.entries
    here (λ other same. subst (λ goal. SomeGraphShows g.X.Cx cx goal node.result)
    (g.met.X.Cx.same_input node.input other same) here) shown
