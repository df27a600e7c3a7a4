use Rattle.std.proofs.Common.{rules}
use Rattle.global_cache.proofs.Sound.{found_is_worth}
use Rattle.std.proofs.lemmas.Option.{IfSome_then}
use Rattle.global_cache.proofs.GlobalCache.get.Goals as goal
use Rattle.global_cache.specs.Below.{verdicts}

pub returns : goal.returns
returns g c =
    let worth = found_is_worth g.D.Cx.Input.PartialEq.eq (verdicts g.D.Cx.Cx) g.D.Delegate.script c.self.inside.cx _
    c.self.inside.results c.args.self.now c.self.view_is c.self.invariant
    (g.T.NestedTest.accepts c.args.test.now) c.args.input c.args.available.0
    c.usable_result.result c.usable_result.ensures in
    record {
      found = search rules;
      graph = IfSome_then c.usable_result.result worth (λ hit w. w.graph);
      value = IfSome_then c.usable_result.result worth (λ hit w. w.value);
      overflow = IfSome_then c.usable_result.result worth (λ hit w. w.overflow);
      within = IfSome_then c.usable_result.result worth (λ hit w. w.within);
    }
