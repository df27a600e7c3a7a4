use Rattle.path_kinds.proofs.PathLaws.{extended-union, extended-none, extended-kinds, extended-no_empty}
use Rattle.path_kinds.proofs.PathMembers.{extended-has, extended_by_each-kinds}
use Rattle.path_kinds.proofs.path.extend_with_keeps_its_laws.Goals as goal

pub returns : goal.returns
returns c = record {
  union = extended-union;
  empty_set = extended-none;
  members = extended-kinds;
  raised = extended-has;
  each_step = extended_by_each-kinds;
  some_step = extended-no_empty;
}
