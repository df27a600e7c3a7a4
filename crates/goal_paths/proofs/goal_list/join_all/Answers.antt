use Rattle.std.proofs.Common.{◌≡◌, ◌-◌, [], ◌∷◌, length, sym, ap, subst, ◌∙◌, arith, vec_len, vec_capacity}
use Rattle.std.specs.List.{IsDistinct}
use Rattle.std.specs.Map.{keys_of}
use Rattle.goal_paths.specs.Words.{after_step, paths_at}
use Rattle.goal_paths.proofs.NestedLists.{IsJoining-start, IsJoining-more, IsJoining-end}
use Rattle.goal_paths.proofs.goal_list.join_all.Goals as goal

-- room was made, and nothing has been joined
pub loop-input-init : goal.loop-input-init
loop-input-init g c =
    let same = g.I.PartialEq.eq in
    let child : c.into_iter-input-iterator.result ≡ c.args.more.now =
    c.into_iter-input-iterator.ensures.into_iter_gives ∙ c.iter-input-items.ensures.goals in (
      IsJoining-start (after_step c.args.step) c.reserve.new.self.items c.into_iter-input-iterator.result
          (vec_capacity c.reserve.new.self - vec_len c.reserve.new.self)
          (omega (arith, ap length child, c.len.ensures, c.in_ok-reserve.ensures.ok))
          (subst (λ goals. IsDistinct same (keys_of goals)) (sym child) c.iter-input-items.ensures.distinct),
      subst (λ goals. IsDistinct same (keys_of goals)) (sym c.in_ok-reserve.ensures.items) c.requires,
    )

pub loop-input-preserved : goal.loop-input-preserved
loop-input-preserved g c =
    let goals = c.loop-input.goals in
    let first : c.loop-input.input-iterator ≡ (c.in-Some.input, c.in-Some.paths) ∷ c.next.new.self =
    c.in-Some.ensures.steps in (
      IsJoining-more g.met.I.Eq.laws (after_step c.args.step) c.reserve.new.self.items
          goals.items c.join_listed.new.goals.items
          c.into_iter-input-iterator.result c.loop-input.input-iterator c.next.new.self c.in-Some.input c.in-Some.paths
          c.after_step.result (vec_capacity goals - vec_len goals)
          (vec_capacity c.join_listed.new.goals - vec_len c.join_listed.new.goals) first c.after_step.ensures
          c.join_listed.ensures.joins c.join_listed.ensures.left
          c.loop-input.invariant.0,
      c.join_listed.ensures.distinct,
    )

pub returns-clause-ok : goal.returns-clause-ok
returns-clause-ok g c = λ input.
    let same = g.I.PartialEq.eq in
    let goals = c.loop-input.goals in
    let none : c.loop-input.input-iterator ≡ [] = c.in-None.ensures.steps.0 in
    let child : c.into_iter-input-iterator.result ≡ c.args.more.now =
    c.into_iter-input-iterator.ensures.into_iter_gives ∙ c.iter-input-items.ensures.goals in
    let own : paths_at same c.reserve.new.self.items input ≡ paths_at same c.args.goals.now.items input =
    ap (λ goals. paths_at same goals input) c.in_ok-reserve.ensures.items in
    IsJoining-end (after_step c.args.step) c.args.goals.now.items c.reserve.new.self.items goals.items c.args.more.now
    c.into_iter-input-iterator.result c.loop-input.input-iterator
    (vec_capacity goals - vec_len goals) none c.loop-input.invariant.0
    input own child

pub join_listed-requires : goal.join_listed-requires
join_listed-requires g c = record {
  distinct = c.loop-input.invariant.1;
  room = omega (arith, ap length c.in-Some.ensures.steps, c.loop-input.invariant.0.fits);
}
