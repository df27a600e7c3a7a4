use Rattle.std.proofs.Common.{subst, sym}
use Rattle.std.proofs.lemmas.List.Elements.{All-nil}
use Rattle.table_runs.specs.Right.{SomeGraphShows}
use Rattle.conversations.specs.Below.{AreShown, scripts_of}
use Rattle.conversations.proofs.Staying.{since_now}
use Rattle.conversations.proofs.known.Conversation.new.Goals as goal

pub invariant_of-result : goal.invariant_of-result
invariant_of-result c = since_now _ _ _ _ _ _ (record {
  sound = c.new-2.ensures.sound _ (scripts_of c.new.result);
  are_shown = λ cx is. subst (AreShown _ cx) (sym c.new-3.ensures) (All-nil (λ key. SomeGraphShows _ cx key.0 key.1.0));
})
