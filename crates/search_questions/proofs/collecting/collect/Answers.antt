use Rattle.std.proofs.Common.{None, refl, subst, sym}
use Rattle.search_questions.proofs.nodes.LettingGo.{goes_either, nothing_goes, rooted_among, with_target}
use Rattle.search_questions.specs.Collecting.{HasRoots}
use Rattle.search_questions.specs.Below.{noted}
use Rattle.search_questions.proofs.collecting.collect.Goals as goal

pub returns-in_err-roots : goal.returns-in_err-roots
returns-in_err-roots g c = record {
  lets_go =
      nothing_goes g.D.Cx.Input.PartialEq.eq c.args.evaluation.now c.args.target c.args.cache.now c.args.cache.now refl;
}

pub collect-requires-clause-rooted : goal.collect-requires-clause-rooted
collect-requires-clause-rooted g c =
    let same = g.D.Cx.Input.PartialEq.eq in
    let has = with_target same c.args.evaluation.now c.args.target c.deref.result.now
    (subst (HasRoots same c.args.evaluation.now None) (sym c.deref.ensures.value) c.in_ok-roots.ensures) in
    rooted_among same c.args.evaluation.now c.args.target c.args.cache.now
    (noted c.args.target c.deref.result.now) c.requires.noted has.noted_are

pub returns : goal.returns
returns g c = record {
  lets_go =
      let same = g.D.Cx.Input.PartialEq.eq in
      goes_either same c.args.evaluation.now c.args.target c.args.cache.now c.collect.new.self
      (noted c.args.target c.deref.result.now) c.requires.noted c.collect.ensures.rest c.collect.ensures.earlier
      c.collect.result c.collect.ensures.collected c.collect.ensures.refused
      (with_target same c.args.evaluation.now c.args.target c.deref.result.now
      (subst (HasRoots same c.args.evaluation.now None) (sym c.deref.ensures.value) c.in_ok-roots.ensures));
}
