use Rattle.std.proofs.Common.{◌<◌, reverse}
use Rattle.type_runs.specs.Search.{count_in, IsAt, types_in}
use Rattle.type_order.specs.declared.delegate.Pair.{Pair}
use Rattle.type_texts.specs.Reasons.{Leads}
use Rattle.type_runs.proofs.program.reason.Search.way_to.Given as goal

-- the steps that were taken lead from here to the last pair
abbrev pub invariant-loop-at : goal.invariant-loop-at
invariant-loop-at l = record {
  within : l.at < count_in l.self;
  leads : (last : Pair) → IsAt l.self l.place last
      → (from : Pair) × IsAt l.self l.at from × Leads (types_in l.self) (reverse l.way.items) from last;
}

abbrev pub decreases-loop-at : goal.decreases-loop-at
decreases-loop-at l = l.at
