use Rattle.std.proofs.Common.{None, Some, sym, ap, ◌∙◌}
use Rattle.std.specs.Option.{option_copied, option_map}
use Rattle.global_cache.specs.Words.{hit_of}
use Rattle.global_cache.proofs.Hits.{finds_success, looks_up}
use Rattle.global_cache.proofs.get.usable_result.Goals as goal

pub returns-in-Some : goal.returns-in-Some
returns-in-Some g c =
    finds_success (g.T.NestedTest.accepts c.args.test.now) g.X.Input.PartialEq.eq c.args.results.now c.args.input
    c.args.available.0 (option_copied c.at-success.result) (hit_of c.in-Some.hit)
    c.at-success.ensures c.in-Some.ensures

pub returns : goal.returns
returns g c =
    looks_up (g.T.NestedTest.accepts c.args.test.now) g.X.Input.PartialEq.eq c.args.results.now c.args.input
    c.args.available.0 (option_copied c.at-success.result) (Some c.in-Some-overflow_at.overflow.now) None
    (option_map hit_of c.used_at.result)
    c.at-success.ensures c.in-Some-overflow_at.ensures
    (sym (ap (option_map hit_of) c.in_default.is) ∙ c.use_success.ensures) c.used_at.ensures
