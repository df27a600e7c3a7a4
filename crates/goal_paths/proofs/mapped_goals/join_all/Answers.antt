use Rattle.std.proofs.Common.{◌≡◌, [], ◌∷◌, length, sym, ap, subst, ◌∙◌, arith}
use Rattle.std.specs.HashMap.{spare}
use Rattle.std.specs.List.{IsDistinct}
use Rattle.std.specs.Map.{keys_of, lookup}
use Rattle.goal_paths.specs.Words.{after_step, paths_at, paths_noted}
use Rattle.goal_paths.proofs.NestedLists.{IsJoining-start, IsJoining-more, IsJoining-end}
use Rattle.goal_paths.proofs.RaisedPaths.{AreNoted-same, same_noted}
use Rattle.goal_paths.proofs.mapped_goals.join_all.Goals as goal

-- room was made, and nothing has been joined
pub loop-input-init : goal.loop-input-init
loop-input-init g c =
    let same = g.I.PartialEq.eq in
    let raises = c.args.raises.now in
    let made = c.reserve.new.self.entries in
    let kept : (input : g.row.I.Denot) → lookup (same input) made ≡ lookup (same input) c.args.goals.now.entries =
    c.in_ok-reserve.ensures.entries.2 in
    let child : c.into_iter-input-iterator.result ≡ c.args.more.now =
    c.into_iter-input-iterator.ensures.into_iter_gives ∙ c.iter-input-items.ensures.goals in (
      IsJoining-start (after_step c.args.step) (paths_noted raises made)
          c.into_iter-input-iterator.result (spare c.reserve.new.self)
          (omega (arith, ap length child, c.len.ensures, c.in_ok-reserve.ensures.ok))
          (subst (λ goals. IsDistinct same (keys_of goals)) (sym child) c.iter-input-items.ensures.distinct),
      AreNoted-same same raises made c.args.goals.now.entries kept c.requires,
    )

pub loop-input-preserved : goal.loop-input-preserved
loop-input-preserved g c =
    let raises = c.args.raises.now in
    let first : c.loop-input.input-iterator ≡ (c.in-Some.input, c.in-Some.paths) ∷ c.next.new.self =
    c.in-Some.ensures.steps in (
      IsJoining-more g.met.I.Eq.laws (after_step c.args.step) (paths_noted raises c.reserve.new.self.entries)
          (paths_noted raises c.loop-input.goals.entries) (paths_noted raises c.join_paths.new.goals.entries)
          c.into_iter-input-iterator.result c.loop-input.input-iterator c.next.new.self c.in-Some.input c.in-Some.paths
          c.after_step.result (spare c.loop-input.goals) (spare c.join_paths.new.goals) first c.after_step.ensures
          c.in_ok-join_paths.ensures.ok c.join_paths.ensures.left
          c.loop-input.invariant.0,
      c.join_paths.ensures.noted,
    )

pub returns-clause-ok : goal.returns-clause-ok
returns-clause-ok g c = λ input.
    let same = g.I.PartialEq.eq in
    let raises = c.args.raises.now in
    let none : c.loop-input.input-iterator ≡ [] = c.in-None.ensures.steps.0 in
    let child : c.into_iter-input-iterator.result ≡ c.args.more.now =
    c.into_iter-input-iterator.ensures.into_iter_gives ∙ c.iter-input-items.ensures.goals in
    let own : paths_at same (paths_noted raises c.reserve.new.self.entries) input
    ≡ paths_at same (paths_noted raises c.args.goals.now.entries) input =
    same_noted same raises c.reserve.new.self.entries c.args.goals.now.entries
    c.in_ok-reserve.ensures.entries.2 input in
    IsJoining-end (after_step c.args.step) (paths_noted raises c.args.goals.now.entries)
    (paths_noted raises c.reserve.new.self.entries) (paths_noted raises c.loop-input.goals.entries) c.args.more.now
    c.into_iter-input-iterator.result c.loop-input.input-iterator
    (spare c.loop-input.goals) none c.loop-input.invariant.0
    input own child
