use Rattle.std.proofs.Common.{◌≡◌, ◌≤◌, true, length}
use Rattle.trait_answers.specs.Asking.{known_by}
use Rattle.traits.specs.Right.{AreAnsweredAt, AreRight}
use Rattle.traits.proofs.rounds.ask_all.Given as goal

abbrev pub invariant-loop-goal : goal.invariant-loop-goal
invariant-loop-goal g l = record {
  same : known_by g.L.Lends.lent_by l.answers ≡ g.L.Lends.lent_by l.fn.lender;
  count : length l.came.items ≡ l.goal-index;
  right : AreRight (g.L.Lends.lent_by l.fn.lender) l.asked l.came.items;
  deep : length (g.L.Lends.lent_by l.fn.lender).asked ≤ l.depth → l.answers.had_depth ≡ true;
  told : AreAnsweredAt l.depth (g.L.Lends.lent_by l.fn.lender) l.asked l.came.items;
}
