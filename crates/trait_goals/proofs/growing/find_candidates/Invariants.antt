use Rattle.std.proofs.Common.{◌<◌, ◌+◌, ◌^◌, length}
use Rattle.trait_goals.specs.Trying.{AreInside, AreTried, lists_in}
use Rattle.trait_goals.proofs.growing.find_candidates.Given as goal

abbrev pub invariant-loop-place : goal.invariant-loop-place
invariant-loop-place l = record {
  tried : AreTried l.rules l.initial.terms l.terms l.initial.asked l.asked l.goal l.constructor l.place (lists_in
      l.all.items);
  few : length l.all.items + 1 < 2 ^ 32;
  inside : AreInside l.initial.terms l.initial.asked → AreInside l.terms l.asked;
}
