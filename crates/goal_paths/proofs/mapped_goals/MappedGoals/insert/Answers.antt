use Rattle.std.proofs.Common.{Some, refl, sym, subst, ◌∙◌}
use Rattle.goal_paths.specs.Words.{HasOwn, paths_noted}
use Rattle.goal_paths.proofs.OwnGoal.{is_no_step, joins-own, own-joined, own-new}
use Rattle.goal_paths.proofs.mapped_goals.MappedGoals.insert.Goals as goal

-- the path of no step is there already
pub returns-then-eq-2-clause-ok : goal.returns-then-eq-2-clause-ok
returns-then-eq-2-clause-ok g c =
    let same = g.I.PartialEq.eq in
    let own = c.self.inside.own in
    joins-own same g.met.I.Eq.laws c.args.self.now c.args.input c.args.paths own
    (is_no_step c.args.paths (sym c.eq.ensures ∙ c.if-eq.true))
    (sym c.eq-then-eq.ensures ∙ c.if-eq-2.true)
    (subst (λ goals. HasOwn same goals own) c.self.view_is c.self.invariant.1)

-- it was joined now
pub invariant_of-self-then-eq-3 : goal.invariant_of-self-then-eq-3
invariant_of-self-then-eq-3 g c =
    let same = g.I.PartialEq.eq in
    let raises = c.self.inside.raises in (
      c.join_paths.ensures.noted,
      own-new same g.met.I.Eq.laws (paths_noted raises c.self.inside.noted.entries)
          (paths_noted raises c.join_paths.new.goals.entries) c.args.input c.args.paths (Some c.args.input)
          (is_no_step c.args.paths (sym c.eq-2.ensures ∙ c.if-eq-3.true)) refl c.in_ok-join_paths.ensures.ok,
    )

-- other paths were joined
pub invariant_of-self-else-eq-3 : goal.invariant_of-self-else-eq-3
invariant_of-self-else-eq-3 g c =
    let same = g.I.PartialEq.eq in
    let raises = c.self.inside.raises in (
      c.join_paths.ensures.noted,
      own-joined same g.met.I.Eq.laws (paths_noted raises c.self.inside.noted.entries)
          (paths_noted raises c.join_paths.new.goals.entries) c.args.input c.args.paths c.self.inside.own
          c.in_ok-join_paths.ensures.ok c.self.invariant.1,
    )
