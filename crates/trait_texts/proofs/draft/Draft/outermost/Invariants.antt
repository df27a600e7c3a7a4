use Rattle.std.proofs.Common.{ℕ}
use Rattle.trait_texts.specs.WellFormed.{IsOutermost}
use Rattle.trait_texts.proofs.draft.Draft.outermost.Given as goal

abbrev pub invariant-loop : goal.invariant-loop
invariant-loop l = (c : ℕ) → IsOutermost l.self.shapes l.at c → IsOutermost l.self.shapes l.shape c
