-- No service needs more than all have needs together.
use Rattle.std.proofs.Common.{◌≡◌, ℕ, ◌≤◌, List, [], length, slice_get, get_or, Option, None, Some, refl, sym, ap}
use Rattle.std.proofs.Common.{subst, arith}
use Rattle.std.specs.Option.{option_map_or}
use Rattle.std.proofs.lemmas.List.Sums.{get_or-le-sum_by}
use Rattle.std.proofs.lemmas.Option.{slice_get_within, get_or_from_slice_get}
use Rattle.services.specs.Rule.{most_needs, needs_at}
use Rattle.services.specs.Running.{Need, Service}

module _ (services : List Service) where
  within_in : (number : ℕ) (o : Option Service) → slice_get services number ≡ o
      → length (option_map_or (λ s. s.needs.items) o []) ≤ most_needs services
  within_in number None e = omega arith
  within_in number (Some s) e =
      let h = get_or-le-sum_by (λ x. length x.needs.items) services number s (slice_get_within services number s e) in
      let n : length (get_or services number s).needs.items ≡ length s.needs.items =
      ap (λ x. length x.needs.items) (get_or_from_slice_get services number s s e) in
      omega (arith, h, n)

  pub count_within : (others : List Service) (number : ℕ) (needs : List Need) → services ≡ others
      → needs ≡ needs_at services number → length needs ≤ most_needs others
  count_within others number needs same are =
      subst (λ xs. length needs ≤ most_needs xs) same
      (subst (λ xs. length xs ≤ most_needs services) (sym are) (within_in number (slice_get services number) refl))
