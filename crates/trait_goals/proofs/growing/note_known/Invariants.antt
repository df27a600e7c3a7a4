use Rattle.std.proofs.Common.{◌≡◌, length}
use Rattle.trait_goals.proofs.Grown.{StaysKnown}
use Rattle.trait_goals.proofs.growing.note_known.Given as goal

abbrev pub invariant-loop : goal.invariant-loop
invariant-loop l = record {
  keeps : StaysKnown l.known.items l.initial.known.items;
  stays : StaysKnown l.initial.known.items l.known.items;
  count : length l.known.items ≡ l.counter;
}
