-- Walks joined, and what holds along them.
use Rattle.std.proofs.Common.{ℕ, ◌<◌, ◌≤◌, List, [], length, slice_index, slice_index_or, arith, inl, inr, ap, sym}
use Rattle.std.specs.List.{All}
use Rattle.std.proofs.lemmas.Bool.{cases_lt}
use Rattle.std.proofs.lemmas.List.{get_or_past}
use Rattle.std.proofs.lemmas.List.Elements.{All-contains, All-get_or}
use Rattle.strong_components.specs.Words.{HasStep, Reaches, stay, go, StaysInside, StepsWithinClose}

pub reaches-trans : (graph : List (List ℕ)) {a b c : ℕ} → Reaches graph a b → Reaches graph b c → Reaches graph a c
reaches-trans graph stay w = w
reaches-trans graph (go s v) w = go s (reaches-trans graph v w)

pub reaches-step : (graph : List (List ℕ)) {a b : ℕ} → HasStep graph a b → Reaches graph a b
reaches-step graph s = go s stay

-- a step begins at a place of the graph
pub step_from_inside : (graph : List (List ℕ)) (a b : ℕ) → HasStep graph a b → a < length graph
step_from_inside graph a b s =
    elim (cases_lt a (length graph)) [
      | inl lt ↦ lt
      | inr past ↦ let none = ap (length {A = ℕ}) (get_or_past graph a [] past) in absurd (omega arith)
    ]

-- and ends at one
pub step_to_inside : (graph : List (List ℕ)) (a b : ℕ) → StaysInside graph → HasStep graph a b → b < length graph
step_to_inside graph a b inside s =
    All-contains (λ c. c < length graph) (slice_index_or graph a []) b
    (All-get_or (All (λ c. c < length graph)) graph a [] (step_from_inside graph a b s) inside) s

-- numbers that never rise along a step never rise along a walk
pub falls_along : (graph : List (List ℕ)) (numbers : List ℕ)
    → ((a b : ℕ) → HasStep graph a b → slice_index numbers b ≤ slice_index numbers a) → {a b : ℕ} → Reaches graph a b
    → slice_index numbers b ≤ slice_index numbers a
falls_along graph numbers falls stay = omega arith
falls_along graph numbers falls (go {a = a} {b = b} s w) =
    let first = falls a b s in let rest = falls_along graph numbers falls w in omega arith

pub steps_within_close : StepsWithinClose
steps_within_close graph numbers a b inside components s = (
  λ same. components.together b a (step_to_inside graph a b inside s) (step_from_inside graph a b s) (sym same),
  λ back. let up = falls_along graph numbers components.falls back in let down = components.falls a b s in omega arith,
)
