-- Lists that are compared place by place.
use Rattle.std.proofs.Common.{◌≡◌, ◌∙◌, ◌<◌, ℕ, List, Some, ap, get_or, length, map, slice_get, sym}
use Rattle.std.specs.Option.{option_map}
use Rattle.std.proofs.lemmas.Option.{slice_get-get_or, slice_get-map}

-- where what two maps give is the same, they give the same of what stands at each place
pub same_at : {A B : Type 0} (f g : A → B) (xs ys : List A) (k : ℕ) (d e : A) → map f xs ≡ map g ys → k < length xs
    → k < length ys → f (get_or xs k d) ≡ g (get_or ys k e)
same_at f g xs ys k d e same left right =
    let both : Some (f (get_or xs k d)) ≡ Some (g (get_or ys k e)) =
    sym (slice_get-map f xs k ∙ ap (option_map f) (slice_get-get_or xs k d left))
    ∙ ap (λ l. slice_get l k) same
    ∙ slice_get-map g ys k ∙ ap (option_map g) (slice_get-get_or ys k e right) in cc
