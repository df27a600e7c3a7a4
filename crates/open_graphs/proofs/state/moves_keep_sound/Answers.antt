use Rattle.open_graphs.proofs.States.{push_keeps_sound, answers_keep_sound, pop_keeps_sound, rerun_keeps_sound}
use Rattle.open_graphs.proofs.state.moves_keep_sound.Goals as goal

pub returns : goal.returns
returns c =
    record { push = push_keeps_sound; answers = answers_keep_sound; pop = pop_keeps_sound; rerun = rerun_keeps_sound }
