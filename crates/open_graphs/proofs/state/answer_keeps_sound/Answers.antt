use Rattle.open_graphs.proofs.Asked.{one_answer_keeps_sound, cycle_is_answered, done_is_answered}
use Rattle.open_graphs.proofs.Asked.{stored_is_answered, final_is_answered}
use Rattle.open_graphs.proofs.state.answer_keeps_sound.Goals as goal

pub returns : goal.returns
returns c = record {
  one_more = one_answer_keeps_sound;
  cycle = cycle_is_answered;
  done = done_is_answered;
  stored = stored_is_answered;
  final_answer = final_is_answered;
}
