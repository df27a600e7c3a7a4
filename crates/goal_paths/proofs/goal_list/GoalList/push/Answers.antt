use Rattle.std.proofs.Common.{◌≡◌, None, ap, subst, ◌∙◌}
use Rattle.goal_paths.specs.Words.{JoinsPaths, paths_at}
use Rattle.goal_paths.proofs.ListedGoals.{distinct-end, joins_at-end}
use Rattle.goal_paths.proofs.goal_list.GoalList.push.Goals as goal

pub invariant_of-self-2 : goal.invariant_of-self-2
invariant_of-self-2 g c =
    let same = g.I.PartialEq.eq in
    let items = c.self.inside.goals.items in
    let absent : paths_at same items c.args.input ≡ None =
    ap (λ goals. paths_at same goals c.args.input) c.self.view_is ∙ c.requires in
    rw c.in_ok-push.ensures.items
    (distinct-end same g.met.I.Eq.laws items c.args.input c.args.paths absent c.self.invariant)

pub returns-clause-ok : goal.returns-clause-ok
returns-clause-ok g c =
    let same = g.I.PartialEq.eq in
    let items = c.self.inside.goals.items in
    let absent : paths_at same items c.args.input ≡ None =
    ap (λ goals. paths_at same goals c.args.input) c.self.view_is ∙ c.requires in
    subst (λ old. JoinsPaths same old c.push.new.self.items c.args.input c.args.paths) c.self.view_is
    (rw c.in_ok-push.ensures.items
    (joins_at-end same g.met.I.Eq.laws items c.args.input c.args.paths absent))
