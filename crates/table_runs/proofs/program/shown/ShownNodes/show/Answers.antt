use Rattle.std.proofs.Common.{subst, sym}
use Rattle.std.proofs.lemmas.List.Elements.{All-contains}
use Rattle.std.proofs.lemmas.Map.Views.{Contains-from_lookup}
use Rattle.rule_tables.specs.contracts.rules.GoalPartialEq.TheImpl.{eq-value}
use Rattle.table_runs.proofs.Remembered.{all_with}
use Rattle.table_runs.specs.Right.{AreShown, SomeGraphShows}
use Rattle.table_runs.proofs.program.shown.ShownNodes.show.Goals as goal

pub returns-then-is_remembered-clause-shown : goal.returns-then-is_remembered-clause-shown
returns-then-is_remembered-clause-shown g c = λ known is.
    let cx = c.args.cache.now.cx in
    All-contains (λ key. SomeGraphShows g.X.Cx cx key.0 key.1.0) c.self.inside.shown.entries
    (c.args.goal, (c.args.outcome, c.args.node)) (subst (AreShown g.X.Cx cx) (sym c.self.view_is) known)
    (Contains-from_lookup g.met.X.Cx.same_input c.args.goal (c.args.outcome, c.args.node) c.self.inside.shown.entries
    (c.is_remembered.ensures c.if-is_remembered.true))

pub returns-clause-remembered : goal.returns-clause-remembered
returns-clause-remembered g c = λ known.
    let cx = c.args.cache.now.cx in
    let here = c.in_ok-is_shown.ensures.shown c.if-not-branch.false in
    all_with (λ key. SomeGraphShows g.X.Cx cx key.0 key.1.0) (eq-value.it c.args.goal) c.self-2.inside.shown.entries
    c.insert.new.self.entries c.args.goal (c.args.outcome, c.args.node) c.in_ok-insert.field-0
    c.in_ok-insert.ensures.entries here
    (λ other same. subst (λ goal. SomeGraphShows g.X.Cx cx goal c.args.outcome)
    (g.met.X.Cx.same_input c.args.goal other same) here)
    (subst (AreShown g.X.Cx cx) (sym c.self-2.view_is) (c.shows_part.ensures.remembered known))
