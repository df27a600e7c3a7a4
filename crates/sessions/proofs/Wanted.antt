-- Goals that are looked at in rising order.
use Rattle.std.proofs.Common.{◌≡◌, ◌∙◌, ◌+◌, ◌<◌, ◌++◌, ◌∷◌, [], Bool, List, ap, arith, cond, false, filter, sym, true}
use Rattle.std.proofs.Common.{ℕ}
use Rattle.std.proofs.Common.{◌&&◌, Some, get_or, length}
use Rattle.std.specs.Prelude.{slice_get}
use Rattle.std.specs.List.{range_with_len}
use Rattle.std.specs.Option.{option_map_or}
use Rattle.std.proofs.lemmas.List.{append-nil, map-id}
use Rattle.std.proofs.lemmas.List.Elements.{filter-append}
use Rattle.std.proofs.lemmas.List.FromFn.{map-range_with_len_more}
use Rattle.std.proofs.lemmas.Option.{slice_get-get_or}
use Rattle.rule_arrays.specs.declared.rows.GoalRow.{GoalRow}
use Rattle.sessions.specs.Below.{Store, StoredResult, Table}
use Rattle.sessions.specs.Known.{has_result, is_wanted}
use Rattle.sessions.specs.Rules.{is_row_unknown}

range_more : (n : ℕ) → range_with_len 0 (n + 1) ≡ range_with_len 0 n ++ n ∷ []
range_more n =
    sym (map-id (range_with_len 0 (n + 1))) ∙ map-range_with_len_more (λ k. k) 0 n n (omega arith)
    ∙ ap (λ ks. ks ++ n ∷ []) (map-id (range_with_len 0 n))

module _ (p : ℕ → Bool) (n : ℕ) where
  -- one goal more that passes
  pub passes_more : (found all : List ℕ) → found ≡ filter p (range_with_len 0 n) → p n ≡ true → all ≡ found ++ n ∷ []
      → all ≡ filter p (range_with_len 0 (n + 1))
  passes_more found all so_far is more =
      more ∙ ap (λ ks. ks ++ n ∷ []) so_far
      ∙ sym (ap (filter p) (range_more n) ∙ filter-append p (range_with_len 0 n) (n ∷ [])
      ∙ ap (λ b. filter p (range_with_len 0 n) ++ cond b (n ∷ []) []) is)

  -- or that does not
  pub fails_more : (found : List ℕ) → found ≡ filter p (range_with_len 0 n) → p n ≡ false
      → found ≡ filter p (range_with_len 0 (n + 1))
  fails_more found so_far is =
      so_far
      ∙ sym (ap (filter p) (range_more n) ∙ filter-append p (range_with_len 0 n) (n ∷ [])
      ∙ ap (λ b. filter p (range_with_len 0 n) ++ cond b (n ∷ []) []) is ∙ append-nil (filter p (range_with_len 0 n)))

-- whether a goal is wanted, by its row and what is stored
pub wanted_at : {R T : Type 0} (rules : Table) (rows : List GoalRow) (same : ℕ → ℕ → Bool)
    (results : Store ℕ (StoredResult ℕ R T)) (at : ℕ) (d : GoalRow) (unknown has : Bool)
    → rows ≡ rules.goals → at < length rows → unknown ≡ is_row_unknown (get_or rows at d)
    → has ≡ has_result same results at → is_wanted rules same results at ≡ (unknown && has)
wanted_at rules rows same results at d unknown has are inside is_unknown is_stored =
    let there : slice_get rules.goals at ≡ Some (get_or rows at d) =
    ap (λ rs. slice_get rs at) (sym are) ∙ slice_get-get_or rows at d inside in
    ap (λ row. option_map_or is_row_unknown row false && has_result same results at) there
    ∙ ap (λ b. b && has_result same results at) (sym is_unknown) ∙ ap (λ b. unknown && b) (sym is_stored)
