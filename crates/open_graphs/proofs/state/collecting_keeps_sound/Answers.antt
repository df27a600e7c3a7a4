use Rattle.open_graphs.proofs.Collecting as lemmas
use Rattle.open_graphs.proofs.state.collecting_keeps_sound.Goals as goal

pub returns : goal.returns
returns c = lemmas.collecting_keeps_sound
