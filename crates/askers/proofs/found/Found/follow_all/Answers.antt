use Rattle.std.proofs.Common.{◌∙◌, ◌≤◌, arith, length}
use Rattle.askers.specs.Told.{told_of}
use Rattle.askers.proofs.Following.{all_goals_followed, goal_followed, no_goal_followed, past_all, place_read}
use Rattle.askers.proofs.found.Found.follow_all.Goals as goal

pub loop-place-init : goal.loop-place-init
loop-place-init g c =
    no_goal_followed g.I.PartialEq.eq (told_of g.I.PartialEq.eq c.args.told.now) c.args.self.now c.requires.listed

pub loop-place-preserved : goal.loop-place-preserved
loop-place-preserved g c =
    goal_followed g.I.PartialEq.eq (told_of g.I.PartialEq.eq c.args.told.now) c.args.self.now c.loop-place.self
    c.follow.new.self c.loop-place.place c.in-Some.goal c.loop-place.invariant
    (place_read _ _ c.loop-place.place _ _ c.deref.ensures.value c.get.ensures.lookup c.copied.ensures ∙ c.in-Some.is)
    c.in_ok-follow.ensures

pub returns-after-loop-place : goal.returns-after-loop-place
returns-after-loop-place g c =
    let goals = c.loop-place.self.goals in
    let past : length goals.items ≤ c.loop-place.place =
    let small = goals.small in let ok = goals.ok in let end = c.loop-place-test.false in omega arith in
    all_goals_followed g.I.PartialEq.eq (told_of g.I.PartialEq.eq c.args.told.now) c.args.self.now c.loop-place.self
    c.loop-place.place past c.loop-place.invariant

pub returns-in_default : goal.returns-in_default
returns-in_default g c =
    all_goals_followed g.I.PartialEq.eq (told_of g.I.PartialEq.eq c.args.told.now) c.args.self.now c.loop-place.self
    c.loop-place.place
    (past_all c.loop-place.self.goals.items c.loop-place.place
    (place_read _ _ c.loop-place.place _ _ c.deref.ensures.value c.get.ensures.lookup c.copied.ensures
    ∙ c.in_default.is))
    c.loop-place.invariant
