-- The questions of a position are its moves.
use Rattle.std.proofs.Common.{◌≡◌, ℕ, ◌≤◌, List, [], length, slice_get, get_or, Contains, Option, None, Some, refl, sym}
use Rattle.std.proofs.Common.{ap, subst, arith}
use Rattle.std.specs.Option.{option_map_or}
use Rattle.std.proofs.lemmas.List.Sums.{get_or-le-sum_by}
use Rattle.std.proofs.lemmas.Option.{slice_get_within, get_or_from_slice_get}
use Rattle.search_context.proofs.Graphs.{Contains-map}
use Rattle.question_lists.proofs.Ranked.{decisive, scripts}
use Rattle.games.specs.Below.{IsDecidedKind, IsDecisive, Question, outcome_verdicts}
use Rattle.games.specs.Rule.{asks, most_moves, moves_of, needs_of, questions_of}
use Rattle.games.specs.Strategy.{Position}

module _ (positions : List Position) where
  within_in : (at : ℕ) (o : Option Position) → slice_get positions at ≡ o
      → length (option_map_or (λ p. p.moves.items) o []) ≤ most_moves positions
  within_in at None e = omega arith
  within_in at (Some p) e =
      let h = get_or-le-sum_by (λ x. length x.moves.items) positions at p (slice_get_within positions at p e) in
      let n : length (get_or positions at p).moves.items ≡ length p.moves.items =
      ap (λ x. length x.moves.items) (get_or_from_slice_get positions at p p e) in
      omega (arith, h, n)

  -- no position has more moves than all have together
  pub moves_within : (at : ℕ) → length (moves_of positions at) ≤ most_moves positions
  moves_within at = within_in at (slice_get positions at) refl

  -- so a list that has the moves of a position has no more, either
  pub count_within : (others : List Position) (at : ℕ) (moves : List ℕ) → positions ≡ others
      → moves ≡ moves_of positions at → length moves ≤ most_moves others
  count_within others at moves same are = subst (λ ps. length moves ≤ most_moves ps) same
      (subst (λ xs. length xs ≤ most_moves positions) (sym are) (moves_within at))

  decided_at : (at : ℕ) (q : Question ℕ) → Contains (questions_of positions at) q → IsDecidedKind q.kind
  decided_at at q has =
      let m = Contains-map asks (moves_of positions at) q has in subst IsDecidedKind (ap (λ x. x.kind) m.2) tt

  -- positions are decided where no limit is met
  pub are_decisive : IsDecisive outcome_verdicts (scripts (needs_of positions) (questions_of positions))
  are_decisive = decisive (needs_of positions) (questions_of positions) decided_at
