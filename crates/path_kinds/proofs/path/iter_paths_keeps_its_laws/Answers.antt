use Rattle.path_kinds.proofs.PathMembers.{kinds_in-has}
use Rattle.path_kinds.proofs.path.iter_paths_keeps_its_laws.Goals as goal

pub returns-clause-members : goal.returns-clause-members
returns-clause-members c = kinds_in-has
