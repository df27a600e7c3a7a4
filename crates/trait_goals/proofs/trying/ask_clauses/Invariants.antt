use Rattle.std.proofs.Common.{◌≡◌, List, length}
use Rattle.trait_goals.specs.Below.{Made}
use Rattle.trait_goals.specs.Trying.{AreAsked, AreInside}
use Rattle.trait_goals.proofs.trying.ask_clauses.Given as goal

abbrev pub invariant-loop-place : goal.invariant-loop-place
invariant-loop-place l = record {
  asks : AreAsked l.all l.initial.asked l.asked l.rule l.bound l.place l.questions.items;
  inside : (made : List Made) → l.types ≡ length made → AreInside made l.initial.asked → AreInside made l.asked;
}
