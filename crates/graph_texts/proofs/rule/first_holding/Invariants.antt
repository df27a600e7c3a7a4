use Rattle.std.proofs.Common.{◌≡◌, All, take}
use Rattle.graph_texts.specs.Grounds.{Holds}
use Rattle.graph_texts.proofs.rule.first_holding.Given as goal

-- no rule so far is one that is looked for
abbrev pub invariant-loop-place : goal.invariant-loop-place
invariant-loop-place l =
    All (λ rule. Holds l.grounds rule → rule.is_marked ≡ l.is_marked → ⊥) (take l.place l.candidates)
