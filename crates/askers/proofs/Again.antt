-- What counts is told again, link by link.
use Rattle.std.proofs.Common.{◌≡◌, ◌∙◌, ◌+◌, ◌≤◌, ◌∷◌, ◌++◌, [], ℕ, Bool, true, false, cond, Some, ap}
use Rattle.std.proofs.Common.{Err, Ok, OnOk, Result, arith, length, slice_get, subst, sym, take}
use Rattle.std.proofs.lemmas.List.{append-nil, length-map, length-take-le, map-append, take_all, take_more}
use Rattle.std.proofs.lemmas.Option.{get_or_from_slice_get, slice_get_within}
use Rattle.askers.specs.Told.{AreIndexed, counted, counts, first_of, pair_of, pairs_of, told_by, told_of}
use Rattle.askers.specs.declared.told.Link.{Link}
use Rattle.askers.specs.declared.told.Told.{Told}
use Rattle.askers.proofs.Counting.{counted_more}

pub on_ok : {T E : Type 0} {P Q : Type 0} (result : Result T E) → (P → Q) → OnOk result P → OnOk result Q
on_ok (Ok x) to p = to p
on_ok (Err e) to p = p

module _ {I : Type 0} (same : I → I → Bool) where
  -- what the first so many links tell was told again
  pub record IsToldAgain (told again : Told I) (count : ℕ) : Type 0 where
    pub indexed : AreIndexed same again
    pub same_told : told_of same again ≡ counted (first_of same told) 0 (pairs_of (take count told.links.items))

  pub one_told_again : (told again more : Told I) (count : ℕ) (link : Link I) → IsToldAgain told again count
      → slice_get told.links.items count ≡ Some link → AreIndexed same more
      → told_of same more ≡ told_of same again ++ told_by (first_of same told) count link
      → IsToldAgain told more (count + 1)
  one_told_again told again more count link so_far is indexed tells =
      let links = told.links.items in
      let first = first_of same told in
      let within = slice_get_within links count link is in
      let long : count ≡ 0 + length (pairs_of (take count links)) =
      omega (
        arith,
        within,
        length-map (take count links) pair_of,
        length-take-le count links (omega (arith, within)),
      ) in
      let longer : take (count + 1) links ≡ take count links ++ link ∷ [] =
      take_more links count link within
      ∙ ap (λ l. take count links ++ l ∷ []) (get_or_from_slice_get links count link link is) in
      record {
        indexed = indexed;
        same_told = tells ∙ ap (λ l. l ++ told_by first count link) so_far.same_told
            ∙ sym (counted_more first 0 count (pairs_of (take count links)) (pair_of link) long)
            ∙ ap (counted first 0) (sym (map-append pair_of (take count links) (link ∷ [])))
            ∙ ap (λ l. counted first 0 (pairs_of l)) (sym longer);
      }

  pub all_told_again : (told again : Told I) (count : ℕ) → length told.links.items ≤ count
      → IsToldAgain told again count → told_of same again ≡ told_of same told
  all_told_again told again count past all =
      all.same_told ∙ ap (λ l. counted (first_of same told) 0 (pairs_of l)) (take_all count told.links.items past)

  -- what a link tells that does not count, and that does
  pub tells_nothing : (told other : Told I) (place : ℕ) (link it : Link I)
      → slice_get told.links.items place ≡ Some link
      → slice_get told.links.items place ≡ Some it → counts (first_of same told) place link.asker ≡ false
      → told_of same other ≡ told_of same other ++ told_by (first_of same told) place it
  tells_nothing told other place link it is there none =
      let two : Some link ≡ Some it = sym is ∙ there in
      let one : link ≡ it = cc in
      sym (append-nil (told_of same other)) ∙ ap (λ b. told_of same other ++ cond b (pair_of it ∷ []) [])
      (sym (subst (λ l. counts (first_of same told) place l.asker ≡ false) one none))

  pub tells_one : (told old new : Told I) (place : ℕ) (link it : Link I) → slice_get told.links.items place ≡ Some link
      → slice_get told.links.items place ≡ Some it → counts (first_of same told) place link.asker ≡ true
      → told_of same new ≡ told_of same old ++ pair_of link ∷ []
      → told_of same new ≡ told_of same old ++ told_by (first_of same told) place it
  tells_one told old new place link it is there counted tells =
      let two : Some link ≡ Some it = sym is ∙ there in
      let one : link ≡ it = cc in
      tells ∙ ap (λ l. told_of same old ++ pair_of l ∷ []) one
      ∙ ap (λ b. told_of same old ++ cond b (pair_of it ∷ []) [])
      (sym (subst (λ l. counts (first_of same told) place l.asker ≡ true) one counted))
