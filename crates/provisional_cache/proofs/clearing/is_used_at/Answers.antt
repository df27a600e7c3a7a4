use Rattle.std.proofs.Common.{◌≡◌, nat_eq, true}
use Rattle.cycle_heads.proofs.Counts.{used_by_test}
use Rattle.provisional_cache.proofs.clearing.is_used_at.Goals as goal

pub returns-then-eq : goal.returns-then-eq
returns-then-eq c =
    let used = used_by_test c.highest_cycle_head.result.1.usages c.is_empty-then-eq.result c.is_empty-then-eq.ensures in
    let same : nat_eq c.highest_cycle_head.result.0.0 c.args.depth.0 ≡ true = cc in
    rw (c.highest_cycle_head.ensures.last, same) used
