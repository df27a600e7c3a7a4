use Rattle.open_graphs.proofs.States.{start_is_sound}
use Rattle.open_graphs.proofs.state.start_is_sound.Goals as goal

pub returns : goal.returns
returns c = start_is_sound
