use Rattle.std.proofs.Common.{◌≡◌, ◌≤◌, length}
use Rattle.strong_components.specs.Words.{ClosesFrom}
use Rattle.strong_components.proofs.search.Search.close_from.Given as goal

abbrev pub invariant-places : goal.invariant-places
invariant-places l = record {
  within : l.position ≤ length l.self.opened.items;
  fewer : length l.self.opened.items ≤ length l.initial.self.opened.items;
  closes : ClosesFrom l.initial.self l.self (length l.self.opened.items);
  same_number : l.self.closed ≡ l.initial.self.closed;
}

abbrev pub decreases-places : goal.decreases-places
decreases-places l = length l.self.opened.items
