use Rattle.std.proofs.Common.{subst}
use Rattle.rule_tables.specs.contracts.rules.GoalPartialEq.TheImpl.{eq-value}
use Rattle.table_runs.proofs.Remembered.{goal_laws, remembered_stay}
use Rattle.table_runs.specs.Below.{is_among}
use Rattle.table_runs.specs.Shown.{ForgetsGone}
use Rattle.table_runs.proofs.program.shown.ShownNodes.forget.Goals as goal

pub returns : goal.returns
returns g c =
    let is_gone = is_among eq-value.it c.args.gone.now.keys in
    let left = subst (λ old. ForgetsGone eq-value.it is_gone old c.forget_goals.new.shown.entries) c.self.view_is
    c.forget_goals.ensures in
    record {
      left = left;
      stay = λ before after proves refutes shown.
          remembered_stay goal_laws g.X.Cx before after is_gone
          (c.graphs_stay.ensures.proof is_gone before after proves)
          (c.graphs_stay.ensures.refutation is_gone before after refutes) c.args.self.now
          c.forget_goals.new.shown.entries left shown;
    }
