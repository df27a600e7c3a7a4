use Rattle.std.proofs.Common.{◌∙◌, map, sym}
use Rattle.graph_data.proofs.Arrays.{array_left, array_more}
use Rattle.graph_data.proofs.Spelling.{All-more, map_push}
use Rattle.graph_data.proofs.Stops.{stops_before}
use Rattle.graph_data.proofs.reading.array.read_array.Goals as goal
use Rattle.graph_data.specs.Below.{names_of}
use Rattle.graph_data.specs.Data.{left_in}

pub loop-preserved : goal.loop-preserved
loop-preserved g c =
    let pushed = map_push g.I.Item.plain c.loop.items.items _ _ c.in_ok-push.ensures.items in record {
      spelled = array_more (g.I.Item.spelled (names_of c.args.rules.now)) c.args.wanted.now _ _ _ _ _ _
          c.loop.invariant.spelled (sym c.if-is_end_of_array.ensures.0 ∙ c.in_ok-read.ensures.spelled) pushed;
      right = All-more (g.I.Item.is_right (names_of c.args.rules.now)) _ _ _ pushed
          c.loop.invariant.right c.in_ok-read.ensures.right;
    }

pub returns-in_err-read-clause-refused : goal.returns-in_err-read-clause-refused
returns-in_err-read-clause-refused g c =
    let names = names_of c.args.rules.now in
    stops_before _ _ (λ all. rw c.if-is_end_of_array.ensures.0 (array_left (g.I.Item.spelled names)
    (g.met.I.Item.parts names) c.args.wanted.now (g.I.Item.is_right names) (map g.I.Item.plain c.loop.items.items)
    (left_in c.args.source.now) _ c.loop.invariant.spelled c.if-is_end_of_array.ensures.1 all))
    c.from_residual-in_err-read.ensures.1 c.in_err-read.ensures.refused
