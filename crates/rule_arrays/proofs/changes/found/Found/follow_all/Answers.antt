use Rattle.std.proofs.Common.{◌∙◌, ◌≤◌, arith, length}
use Rattle.rule_arrays.proofs.Finding.{all_goals_followed, goal_followed, no_goal_followed, past_all, place_read}
use Rattle.rule_arrays.proofs.changes.found.Found.follow_all.Goals as goal

pub loop-place-init : goal.loop-place-init
loop-place-init c = no_goal_followed c.args.askers.now c.args.self.now c.requires.listed

pub loop-place-preserved : goal.loop-place-preserved
loop-place-preserved c =
    goal_followed c.args.askers.now c.args.self.now c.loop-place.self c.follow.new.self c.loop-place.place
    c.in-Some.goal c.loop-place.invariant
    (place_read _ _ c.loop-place.place _ _ c.deref.ensures.value c.get.ensures.lookup c.copied.ensures ∙ c.in-Some.is)
    c.in_ok-follow.ensures

pub returns-after-loop-place : goal.returns-after-loop-place
returns-after-loop-place c =
    let goals = c.loop-place.self.goals in
    let past : length goals.items ≤ c.loop-place.place =
    let small = goals.small in let ok = goals.ok in let end = c.loop-place-test.false in omega arith in
    all_goals_followed c.args.askers.now c.args.self.now c.loop-place.self c.loop-place.place past
    c.loop-place.invariant

pub returns-in_default : goal.returns-in_default
returns-in_default c =
    all_goals_followed c.args.askers.now c.args.self.now c.loop-place.self c.loop-place.place
    (past_all c.loop-place.self.goals.items c.loop-place.place
    (place_read _ _ c.loop-place.place _ _ c.deref.ensures.value c.get.ensures.lookup c.copied.ensures
    ∙ c.in_default.is))
    c.loop-place.invariant
