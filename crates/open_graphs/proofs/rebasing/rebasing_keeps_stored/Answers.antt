use Rattle.open_graphs.proofs.Rebased.{rebased_is_after_pop, rebased_keeps_stored}
use Rattle.open_graphs.proofs.rebasing.rebasing_keeps_stored.Goals as goal

pub returns : goal.returns
returns c = record { after_pop = rebased_is_after_pop; stored = rebased_keeps_stored }
