-- The edges of answers that pass a test, one answer after the other.
use Rattle.std.proofs.Common.{◌≡◌, ℕ, ◌+◌, ◌<◌, ◌≤◌, List, [], ◌∷◌, ◌++◌, length, map, take, get_or, Bool, true, false}
use Rattle.std.proofs.Common.{refl, sym, ap, ◌∙◌, subst, append-nil}
use Rattle.std.specs.List.{filter}
use Rattle.std.proofs.lemmas.List.{map-append, take_all}
use Rattle.std.proofs.lemmas.List.Elements.{filter_more}

-- es is read, which are the elements of `all`
module _ {A B : Type 0} (f : A → B) (test : A → Bool) (all es : List A) (same : es ≡ all) (n : ℕ) where
  module _ (x : A) (within : n < length es) (is : x ≡ get_or es n x) (before after : List B)
      (was : before ≡ map f (filter test (take n all))) where
    one_more : map f (filter test (take (n + 1) all)) ≡ before ++ map f (filter test (x ∷ []))
    one_more =
        ap (map f) (filter_more test all n x (subst (λ l. n < length l) same within))
        ∙ map-append f (filter test (take n all)) (filter test (get_or all n x ∷ []))
        ∙ ap (λ y. map f (filter test (take n all)) ++ map f (filter test (y ∷ [])))
        (sym (is ∙ ap (λ l. get_or l n x) same))
        ∙ ap (λ l. l ++ map f (filter test (x ∷ []))) (sym was)

    kept : test x ≡ true → map f (filter test (x ∷ [])) ≡ f x ∷ []
    kept passes = rw passes refl

    dropped : test x ≡ false → map f (filter test (x ∷ [])) ≡ []
    dropped fails = rw fails refl

    module _ (y : A) (y_is : y ≡ x) (told : Bool) (tested : told ≡ test y) where
      tells : told ≡ test x
      tells = tested ∙ ap test y_is

      -- the next one passes
      pub passed : told ≡ true → (between : List B) → after ≡ between → between ≡ before ++ f y ∷ []
          → after ≡ map f (filter test (take (n + 1) all))
      passed passes between after_is more =
          after_is ∙ more ∙ ap (λ z. before ++ f z ∷ []) y_is
          ∙ ap (λ l. before ++ l) (sym (kept (sym tells ∙ passes))) ∙ sym one_more

      -- or it doesn't
      pub failed : told ≡ false → after ≡ before → after ≡ map f (filter test (take (n + 1) all))
      failed fails after_is =
          after_is ∙ sym (append-nil before) ∙ ap (λ l. before ++ l) (sym (dropped (sym tells ∙ fails))) ∙ sym one_more

  -- no more is left
  pub all_tested : (end : List B) → end ≡ map f (filter test (take n all))
      → length es ≤ n → end ≡ map f (filter test all)
  all_tested end end_is past =
      end_is ∙ ap (λ l. map f (filter test l)) (take_all n all (subst (λ l. length l ≤ n) same past))
