use Rattle.std.proofs.Common.{refl}
use Rattle.search_questions.proofs.nodes.LettingGo.{nothing_goes}
use Rattle.search_questions.proofs.collecting.collect_drafts.Goals as goal

pub returns-else-are_many-clause-lets_go : goal.returns-else-are_many-clause-lets_go
returns-else-are_many-clause-lets_go g c =
    nothing_goes g.D.Cx.Input.PartialEq.eq c.args.evaluation.now c.args.target c.args.cache.now c.args.cache.now refl
