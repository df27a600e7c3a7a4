use Rattle.std.proofs.Common.{◌+◌, ◌≤◌, ap, sym, subst, ◌∙◌}
use Rattle.type_order.specs.Rule.{pairs_of}
use Rattle.type_texts.specs.Reasons.{IsStep}
use Rattle.structural_types.specs.Asked.{declared_in}
use Rattle.type_runs.specs.Search.{AreCovered, GoesOn, IsSearch, types_in}
use Rattle.type_runs.proofs.Searching.{all_asked, at_still, goes_on_further, IsAmongFirst}
use Rattle.type_runs.proofs.Searching.{no_more_asked, one_more_asked}
use Rattle.type_runs.proofs.program.reason.Search.follow.Goals as goal
use Rattle.type_runs.proofs.program.reason.Search.follow.Goals.{in-Some+in_ok-look_at, in_default}

pub look_at-requires-clause-linked : goal.look_at-requires-clause-linked
look_at-requires-clause-linked g c =
    let on = c.loop-asked.invariant.goes_on in (
      c.args.pair,
      at_still _ _ on c.args.place c.args.pair c.requires.at,
      subst (λ forms. IsStep forms c.step_at.result c.args.pair c.in-Some.part) (sym on.types)
          (c.step_at.ensures c.in-Some.part c.requires.all (sym c.asked.ensures ∙ c.in-Some.is)),
    )

pub loop-asked-preserved : goal.loop-asked-preserved
loop-asked-preserved g c =
    let so_far = c.loop-asked.invariant in
    let all = pairs_of (types_in c.args.self.now) c.args.pair in
    let types_of = g.T.Lends.lent_by in
    elim c.match-asked.branch [
      | in-Some+in_ok-look_at w ↦ record {
        ongoing = subst IsSearch (sym w.self-is) w.in_ok-look_at.ensures.ongoing;
        goes_on = subst (GoesOn c.args.self.now) (sym w.self-is)
            (goes_on_further _ _ _ so_far.goes_on w.in_ok-look_at.ensures.goes_on);
        covered = subst (λ search. AreCovered search (IsAmongFirst all (c.loop-asked.asked + 1))) (sym w.self-is)
            (one_more_asked all c.loop-asked.asked _ _ w.in-Some.part w.in_ok-look_at.ensures.goes_on
            (sym c.asked.ensures ∙ w.in-Some.is)
            so_far.covered w.in_ok-look_at.ensures.covered);
        same_types = ap (declared_in types_of) w.subtyping-is ∙ w.in_ok-look_at.ensures.same_types ∙ so_far.same_types;
      }
      | in_default w ↦ record {
        ongoing = subst IsSearch (sym w.self-is) so_far.ongoing;
        goes_on = subst (GoesOn c.args.self.now) (sym w.self-is) so_far.goes_on;
        covered = subst (λ search. AreCovered search (IsAmongFirst all (c.loop-asked.asked + 1))) (sym w.self-is)
            (no_more_asked all c.loop-asked.asked _ (sym c.asked.ensures ∙ w.in_default.is) so_far.covered);
        same_types = ap (declared_in types_of) w.subtyping-is ∙ so_far.same_types;
      }
    ]

pub returns-clause-covered : goal.returns-clause-covered
returns-clause-covered g c =
    all_asked (pairs_of (types_in c.args.self.now) c.args.pair) c.loop-asked.asked _
    (subst (λ n. n ≤ c.loop-asked.asked) c.asked_count-asked-end.ensures c.loop-asked-test.false)
    c.loop-asked.invariant.covered
