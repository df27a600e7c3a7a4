use Rattle.std.proofs.Common.{◌≡◌, length}
use Rattle.trait_goals.specs.Trying.{Extends}
use Rattle.traits.specs.Right.{AreAnsweredAt, AreRight}
use Rattle.traits.proofs.rounds.ask_in_rounds.Given as goal

abbrev pub invariant-loop : goal.invariant-loop
invariant-loop l = record {
  kept : Extends l.fn.goals l.goals;
  right : AreRight l.goals l.asked l.round.came.items;
  told : AreAnsweredAt l.depth l.goals l.asked l.round.came.items;
  count : length l.round.came.items ≡ length l.asked;
}
