use Rattle.std.proofs.Common.{◌≡◌}
use Rattle.structural_types.specs.Asked.{declared_in}
use Rattle.type_runs.specs.Search.{AreCovered, GoesOn, IsSearch, types_in}
use Rattle.type_runs.proofs.Searching.{IsAmongFirst}
use Rattle.type_order.specs.Rule.{pairs_of}
use Rattle.type_runs.proofs.program.reason.Search.follow.Given as goal

-- the first that is asked was looked at
abbrev pub invariant-loop-asked : goal.invariant-loop-asked
invariant-loop-asked g l = record {
  ongoing : IsSearch l.self;
  goes_on : GoesOn l.fn.self l.self;
  covered : AreCovered l.self (IsAmongFirst (pairs_of (types_in l.fn.self) l.pair) l.asked);
  same_types : declared_in g.T.Lends.lent_by l.subtyping ≡ declared_in g.T.Lends.lent_by l.fn.subtyping;
}
