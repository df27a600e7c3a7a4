use Rattle.std.proofs.Common.{◌≡◌}
use Rattle.structural_types.specs.Asked.{declared_in}
use Rattle.type_runs.specs.Search.{IsAt, IsSearch, types_in}
use Rattle.type_runs.proofs.Searching.{AreFollowed}
use Rattle.type_texts.specs.Table.{forms_in}
use Rattle.type_runs.proofs.program.reason.reason_of.Given as goal

-- the pairs before this place were followed
abbrev pub invariant-loop-place : goal.invariant-loop-place
invariant-loop-place g l = record {
  ongoing : IsSearch l.search;
  first : IsAt l.search 0 l.fn.pair;
  of_table : types_in l.search ≡ forms_in l.table;
  followed : AreFollowed l.search l.place;
  same_types : declared_in g.T.Lends.lent_by l.subtyping ≡ declared_in g.T.Lends.lent_by l.fn.subtyping;
}
