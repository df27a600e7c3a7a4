use Rattle.std.proofs.Common.{filter, nat_eq, ◌^◌, ◌≡◌, ◌≤◌}
use Rattle.std.specs.List.{range_with_len}
use Rattle.sessions.proofs.session.Session.wanted.Given as goal
use Rattle.sessions.specs.Known.{is_wanted}

-- those of the first goals
abbrev pub invariant-loop-place : goal.invariant-loop-place
invariant-loop-place g l = record {
  found : l.wanted.items ≡ filter
      (is_wanted (g.L.LendsArrays.table_of l.self.cache.cx.0.0.lender) nat_eq l.self.cache.results)
      (range_with_len 0 l.place);
  few : l.place ≤ 2 ^ 32;
}
