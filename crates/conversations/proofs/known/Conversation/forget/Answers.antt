use Rattle.std.proofs.Common.{◌∙◌, subst, sym}
use Rattle.std.proofs.lemmas.List.Elements.{All-nil}
use Rattle.table_runs.specs.Right.{SomeGraphShows}
use Rattle.conversations.specs.Below.{AreShown, scripts_of}
use Rattle.conversations.proofs.Staying.{since_now, since_one, since_stays}
use Rattle.conversations.proofs.known.Conversation.forget.Goals as goal

pub invariant_of-self-then-not-self : goal.invariant_of-self-then-not-self
invariant_of-self-then-not-self c =
    since_now _ _ _ _ _ _ (record {
      sound = c.new.ensures.sound _ (scripts_of c.clear.new.self);
      are_shown = λ cx is. subst (AreShown _ cx) (sym c.new-then-not-self.ensures)
          (All-nil (λ key. SomeGraphShows _ cx key.0 key.1.0));
    })

pub invariant_of-self-in_err-push : goal.invariant_of-self-in_err-push
invariant_of-self-in_err-push c =
    since_stays _ _ c.self.inside.changed.items _ c.self.inside.table _ _ _ c.in_err-push.ensures.items
    c.in_ok-goal.ensures.candidates c.self.invariant

pub invariant_of-self-2 : goal.invariant_of-self-2
invariant_of-self-2 c =
    since_one _ _ c.self.inside.changed.items _ c.in_ok-goal.goal c.self.inside.table _ _ _ c.in_ok-push.ensures.items
    (λ goal other. c.clear-2.ensures.clears.others goal other ∙ c.in_ok-goal.ensures.candidates goal)
    c.self.invariant
