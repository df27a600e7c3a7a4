use Rattle.std.proofs.Common.{map}
use Rattle.std.specs.Map.Iter.{deref}
use Rattle.global_cache.specs.Words.{ForgetsSuccesses, is_among}
use Rattle.global_cache.proofs.result_store.forget_successes.Given as goal

abbrev pub invariant-loop-goal : goal.invariant-loop-goal
invariant-loop-goal g l =
    ForgetsSuccesses g.I.PartialEq.eq (is_among g.I.PartialEq.eq (map deref l.yielded)) l.fn.map.entries l.map.entries
