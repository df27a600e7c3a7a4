use Rattle.std.proofs.Common.{◌≡◌, map, rules, subst, sym, ◌∷◌, []}
use Rattle.std.specs.Map.Iter.{deref}
use Rattle.std.proofs.lemmas.List.{map-append}
use Rattle.std.proofs.lemmas.Map.Iter.{iter_end}
use Rattle.global_cache.specs.Words.{ForgetsSuccesses, is_among}
use Rattle.global_cache.proofs.Forgotten.{none_forgotten, one_forgotten}
use Rattle.global_cache.proofs.result_store.forget_successes.Goals as goal

pub loop-goal-init : goal.loop-goal-init
loop-goal-init g c = none_forgotten g.met.I.Eq.laws c.args.map.now.entries

pub loop-goal-preserved : goal.loop-goal-preserved
loop-goal-preserved g c =
    let same = g.I.PartialEq.eq in
    subst (λ l. ForgetsSuccesses same (is_among same l) c.args.map.now.entries c.forget_entry.new.map.entries)
    (sym (map-append deref c.loop-goal.yielded (c.in-Some.goal ∷ [])))
    (one_forgotten g.met.I.Eq.laws (map deref c.loop-goal.yielded) c.in-Some.goal.now c.args.map.now.entries
    c.loop-goal.map.entries c.forget_entry.new.map.entries c.loop-goal.invariant c.forget_entry.ensures.0)

pub returns : goal.returns
returns g c =
    let same = g.I.PartialEq.eq in
    let all : map deref c.loop-goal.yielded ≡ c.args.gone.now.keys = search (rules, iter_end) in
    subst (λ l. ForgetsSuccesses same (is_among same l) c.args.map.now.entries c.loop-goal.map.entries) all
    c.loop-goal.invariant
