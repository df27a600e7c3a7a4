use Rattle.search_rules.proofs.moves.LookUps.{found_is_usable}
use Rattle.search_rules.proofs.look_up.look_up.Goals as goal

pub returns-clause-usable : goal.returns-clause-usable
returns-clause-usable g c = found_is_usable g.D.Cx.Input.PartialEq.eq (g.D.Delegate.script c.args.cache.now.cx)
    c.args.cache.now.results c.args.input c.args.depth.0 _ c.get.result c.get.ensures.found c.get.ensures.value
    c.get.ensures.overflow c.get.ensures.within
