use Rattle.std.proofs.Common.{◌≡◌, map, rules, subst, sym, ◌∷◌, []}
use Rattle.std.specs.Map.Iter.{deref}
use Rattle.std.proofs.lemmas.List.{map-append}
use Rattle.std.proofs.lemmas.Map.Iter.{iter_end}
use Rattle.rule_tables.specs.contracts.rules.GoalPartialEq.TheImpl.{eq-value}
use Rattle.table_runs.specs.Below.{is_among}
use Rattle.table_runs.specs.Shown.{ForgetsGone}
use Rattle.table_runs.proofs.Remembered.{goal_laws, none_forgotten, one_forgotten}
use Rattle.table_runs.proofs.program.shown.forget_goals.Goals as goal

pub loop-goal-init : goal.loop-goal-init
loop-goal-init c = none_forgotten goal_laws c.args.shown.now.entries

pub loop-goal-preserved : goal.loop-goal-preserved
loop-goal-preserved c =
    subst (λ l. ForgetsGone eq-value.it (is_among eq-value.it l) c.args.shown.now.entries
    c.forget_goal.new.shown.entries) (sym (map-append deref c.loop-goal.yielded (c.in-Some.goal ∷ [])))
    (one_forgotten goal_laws (map deref c.loop-goal.yielded) c.in-Some.goal.now c.args.shown.now.entries
    c.loop-goal.shown.entries c.forget_goal.new.shown.entries c.loop-goal.invariant c.forget_goal.ensures.updates.0
    c.forget_goal.ensures.entries)

pub returns : goal.returns
returns c =
    let all : map deref c.loop-goal.yielded ≡ c.args.gone.now.keys = search (rules, iter_end) in
    subst (λ l. ForgetsGone eq-value.it (is_among eq-value.it l) c.args.shown.now.entries c.loop-goal.shown.entries) all
    c.loop-goal.invariant
