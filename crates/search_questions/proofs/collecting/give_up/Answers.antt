use Rattle.std.proofs.Common.{None}
use Rattle.search_questions.proofs.nodes.LettingGo.{gives_up}
use Rattle.search_questions.proofs.collecting.give_up.Goals as goal

pub returns-clause-settles : goal.returns-clause-settles
returns-clause-settles g c =
    gives_up g.D.Cx.Input.PartialEq.eq c.args.evaluation.now c.release.new.self None c.args.cache.now
    c.collect_at_end.new.cache c.collect_at_end.result c.release.ensures c.collect_at_end.ensures.settles
