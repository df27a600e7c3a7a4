use Rattle.conversations.proofs.Staying.{since_stays}
use Rattle.conversations.proofs.known.Conversation.ask.Goals as goal

pub forget_changed-requires : goal.forget_changed-requires
forget_changed-requires c = record {
  known = since_stays _ _ c.self.inside.changed.items _ c.self.inside.table _ _ _ c.as_slice.ensures.value
      c.in_ok-goal.ensures.candidates c.self.invariant;
}

pub ask_over-found-requires : goal.ask_over-found-requires
ask_over-found-requires c = record {
  known = rw c.replace-found.ensures.value c.in_ok-forget_changed.ensures.known;
}
