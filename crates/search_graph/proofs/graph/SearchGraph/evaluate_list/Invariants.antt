use Rattle.std.proofs.Common.{◌≤◌, ◌+◌, ◌-◌, length, take, vec_len, vec_capacity}
use Rattle.search_graph.specs.Below.{KeepsBuilder}
use Rattle.search_graph.specs.Lists.{HaveRun}
use Rattle.search_graph.proofs.graph.SearchGraph.evaluate_list.Given as goal

-- the first queries' calls were made, and there is room for the others' answers
abbrev pub invariant-loop-query : goal.invariant-loop-query
invariant-loop-query g l = record {
  ran : HaveRun g.D.Delegate g.D.Cx.Cx g.D.Cx.Input.PartialEq.eq g.D.Cx.Result.PartialEq.eq
      (g.D.Delegate.noop l.initial.inspect) (take l.query-index l.queries) l.initial.cache l.cache
      (g.D.Delegate.starts l.initial.inspect) (g.D.Delegate.starts l.inspect) l.initial.answers.items l.answers.items;
  room : vec_len l.answers + (length l.queries - l.query-index) ≤ vec_capacity l.answers;
  builder : KeepsBuilder g.D.Delegate.starts g.D.Delegate.noop l.initial.inspect l.inspect;
}
