use Rattle.std.proofs.Common.{ap, subst, sym}
use Rattle.std.specs.List.{Contains}
use Rattle.search_questions.proofs.nodes.LettingGo.{goes_at_end_if, rooted_among}
use Rattle.search_questions.specs.Below.{noted}
use Rattle.search_questions.proofs.collecting.collect_at_end.Goals as goal

pub collect-requires-clause-rooted : goal.collect-requires-clause-rooted
collect-requires-clause-rooted g c =
    rooted_among g.D.Cx.Input.PartialEq.eq c.args.evaluation.now c.args.target c.args.cache.now
    (noted c.args.target c.as_slice-stored.result.now) c.requires.noted
    (λ n has. subst (λ l. Contains (noted c.args.target l) n) (sym c.as_slice-stored.ensures.value) has)

pub returns : goal.returns
returns g c = record {
  settles =
      goes_at_end_if g.D.Cx.Input.PartialEq.eq c.args.evaluation.now c.args.target c.args.cache.now c.collect.new.self
      (noted c.args.target c.as_slice-stored.result.now) c.requires.noted c.collect.ensures.rest
      c.collect.ensures.earlier c.collect.result c.collect.ensures.collected
      (ap (noted c.args.target) c.as_slice-stored.ensures.value);
  refused = c.collect.ensures.refused;
}
