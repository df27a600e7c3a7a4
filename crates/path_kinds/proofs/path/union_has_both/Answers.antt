use Rattle.path_kinds.proofs.PathLaws.{has_kind-union}
use Rattle.path_kinds.proofs.path.union_has_both.Goals as goal

pub returns : goal.returns
returns c = has_kind-union
