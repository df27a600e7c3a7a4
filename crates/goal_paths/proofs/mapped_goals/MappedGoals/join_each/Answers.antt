use Rattle.goal_paths.specs.Words.{after_step, paths_noted}
use Rattle.goal_paths.proofs.OwnGoal.{own-each}
use Rattle.goal_paths.proofs.mapped_goals.MappedGoals.join_each.Goals as goal

-- the own goal keeps the path of no step
pub invariant_of-self-2 : goal.invariant_of-self-2
invariant_of-self-2 g c =
    let same = g.I.PartialEq.eq in
    let raises = c.self.inside.raises in (
      c.join_all.ensures.noted,
      own-each same g.met.I.Eq.laws (after_step c.args.step) (paths_noted raises c.self.inside.noted.entries)
          c.args.more.now (paths_noted raises c.join_all.new.goals.entries) c.self.inside.own
          c.in_ok-join_all.ensures.ok c.self.invariant.1,
    )
