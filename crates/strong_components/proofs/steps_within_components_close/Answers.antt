use Rattle.strong_components.proofs.Walks.{steps_within_close}
use Rattle.strong_components.proofs.steps_within_components_close.Goals as goal

pub returns : goal.returns
returns c = steps_within_close
