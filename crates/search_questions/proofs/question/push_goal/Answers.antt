use Rattle.std.proofs.Common.{rules, Some, ◌∷◌, ◌∙◌, ap, refl, subst, sym}
use Rattle.goal_changes.specs.Frames.{frames_of}
use Rattle.search_questions.specs.Below.{fates_of}
use Rattle.search_questions.proofs.question.push_goal.Goals as goal

pub returns-clause-pushed : goal.returns-clause-pushed
returns-clause-pushed g c = record {
  frame = c.in_ok-frame.frame;
  own = record { 0 = c.next_node.result };
  becomes = c.args.fate;
  place = c.next_node.ensures;
  opened = ap (λ cache. cache.nodes) c.in_ok-open_node.ensures.opened;
  is = rw (c.new-entry.ensures, c.new.ensures, c.new-2.ensures) at c.in_ok-push.ensures.ok;
  fresh = search rules;
}

pub returns-clause-kept : goal.returns-clause-kept
returns-clause-kept g c = c.open_node.ensures.kept

pub returns-clause-fates : goal.returns-clause-fates
returns-clause-fates g c = ap (λ l. fates_of l) c.in_ok-push.ensures.ok ∙ ap (λ e. record {
  goal = e.input;
  depth = e.available_depth.0;
  fate = c.args.fate;
} ∷ fates_of c.args.evaluation.now.goals) c.new-entry.ensures

pub returns-clause-seen : goal.returns-clause-seen
returns-clause-seen g c = record {
  at = λ root frames seen first below.
      subst (λ l. g.D.Delegate.sees c.start.new.inspect root (Some l))
      (ap (λ l. c.in_ok-frame.frame ∷ l) below ∙ sym (ap frames_of c.in_ok-push.ensures.ok))
      (c.in_ok-frame.ensures.seen c.in_ok-frame.frame refl root frames seen first);
}
