-- What is marked is moved to the front in its order.
use Rattle.std.proofs.Common.{◌≡◌, ◌≢◌, ℕ, zero, suc, ◌+◌, ◌-◌, ◌<◌, ◌≤◌, Bool, true, false, List, [], ◌∷◌, ◌++◌, None}
use Rattle.std.proofs.Common.{Some, length, get_or, drop, take, slice_get, slice_set, refl, sym, ◌∙◌, ap, inl, inr}
use Rattle.std.proofs.Common.{arith, add-one, length-append, length-drop}
use Rattle.std.proofs.Math.ListN.{length-set}
use Rattle.std.proofs.lemmas.Bool.{cases_eq, cases_lt}
use Rattle.std.proofs.lemmas.List.{length-take-le}
use Rattle.std.proofs.lemmas.Option.{slice_get-get_or, slice_get_past}
use Rattle.std.specs.List.{SwappedAt}
use Rattle.list_lemmas.proofs.Lists.{get_left, get_end, get_set_other, get_set_same}
use Rattle.graph_nodes.specs.Words.{IsMarked, kept}
use Rattle.graph_nodes.proofs.HeldNodes.{same_by_places}
use Rattle.graph_nodes.proofs.MarkedNodes.{take_all}

module _ {A : Type 0} where
  kept_yes : (marked : List Bool) (xs : List A) (i : ℕ) (x : A) → IsMarked marked i → slice_get xs i ≡ Some x
      → kept (take (suc i) marked) xs ≡ kept (take i marked) xs ++ x ∷ []
  kept_yes [] xs i x m is = absurd cc
  kept_yes (b ∷ marked) [] i x m is = absurd cc
  kept_yes (true ∷ marked) (y ∷ xs) zero x m is = let e : y ≡ x = cc in ap (λ z. z ∷ []) e
  kept_yes (false ∷ marked) (y ∷ xs) zero x m is = absurd cc
  kept_yes (true ∷ marked) (y ∷ xs) (suc i) x m is = ap (λ l. y ∷ l) (kept_yes marked xs i x m is)
  kept_yes (false ∷ marked) (y ∷ xs) (suc i) x m is = kept_yes marked xs i x m is

  kept_no : (marked : List Bool) (xs : List A) (i : ℕ) → slice_get marked i ≡ Some false
      → kept (take (suc i) marked) xs ≡ kept (take i marked) xs
  kept_no [] xs i m = absurd cc
  kept_no (true ∷ marked) [] zero m = refl
  kept_no (true ∷ marked) (y ∷ xs) zero m = absurd cc
  kept_no (false ∷ marked) [] zero m = refl
  kept_no (false ∷ marked) (y ∷ xs) zero m = refl
  kept_no (b ∷ marked) [] (suc i) m = refl
  kept_no (true ∷ marked) (y ∷ xs) (suc i) m = ap (λ l. y ∷ l) (kept_no marked xs i m)
  kept_no (false ∷ marked) (y ∷ xs) (suc i) m = kept_no marked xs i m

  -- so many have been moved to the front, and from this place on nothing has changed
  pub record IsMoved (was is : List A) (marked : List Bool) (count place : ℕ) : Type 0 where
    pub each : length is ≡ length was
    pub moved : count ≡ length (kept (take place marked) was)
    pub front : (i : ℕ) → i < count → slice_get is i ≡ slice_get (kept (take place marked) was) i
    pub rest : (i : ℕ) → place ≤ i → slice_get is i ≡ slice_get was i
    pub behind : count ≤ place

  pub none_moved : (was : List A) (marked : List Bool) → IsMoved was was marked zero zero
  none_moved was marked = record {
    each = refl;
    moved = refl;
    front = λ i lt. absurd (omega arith);
    rest = λ i le. refl;
    behind = omega arith;
  }

  module _ (was is : List A) (marked : List Bool) (count place : ℕ) (m : IsMoved was is marked count place) where
    pub not_moved : slice_get marked place ≡ Some false → IsMoved was is marked count (place + 1)
    not_moved unmarked = let same = kept_no marked was place unmarked in record {
      each = m.each;
      moved = rw (add-one, same) m.moved;
      front = λ i lt. rw (add-one, same) (m.front i lt);
      rest = λ i le. m.rest i (omega arith);
      behind = omega (arith, m.behind);
    }

    module _ (yes : IsMarked marked place) (lt : place < length is) (swapped : List A)
        (swap : SwappedAt is swapped count place) where
      one_more : (x : A) → slice_get was place ≡ Some x
          → kept (take (place + 1) marked) was ≡ kept (take place marked) was ++ x ∷ []
      one_more x at = rw add-one (kept_yes marked was place x yes at)

      module _ (x : A) (at : slice_get is place ≡ Some x) where
        there : slice_get was place ≡ Some x
        there = sym (m.rest place (omega arith)) ∙ at

        written : swapped ≡ slice_set (slice_set is count (get_or is place x)) place (get_or is count x)
        written = swap.3 x

        others : (i : ℕ) → i ≢ count → i ≢ place → slice_get swapped i ≡ slice_get is i
        others i a b =
            ap (λ l. slice_get l i) written
            ∙ (get_set_other (slice_set is count (get_or is place x)) place (get_or is count x) i b
            ∙ get_set_other is count (get_or is place x) i a)

        moved_here : slice_get swapped count ≡ Some x
        moved_here = elim (cases_eq count place) [
          | inl e ↦
              ap (slice_get swapped) e
              ∙ (ap (λ l. slice_get l place) written
              ∙ (get_set_same (slice_set is count (get_or is place x)) place _ (get_or is count x)
              (slice_get-get_or (slice_set is count (get_or is place x)) place x
              (omega (arith, lt, length-set is count (get_or is place x))))
              ∙ (ap (λ n. Some (get_or is n x)) e ∙ (sym (slice_get-get_or is place x lt) ∙ at))))
          | inr ne ↦
              ap (λ l. slice_get l count) written
              ∙ (get_set_other (slice_set is count (get_or is place x)) place (get_or is count x) count ne
              ∙ (get_set_same is count _ (get_or is place x) (slice_get-get_or is count x (omega (arith, lt, m.behind)))
              ∙ (sym (slice_get-get_or is place x lt) ∙ at)))
        ]

        pub one_moved : IsMoved was swapped marked (count + 1) (place + 1)
        one_moved =
            let kept_before = kept (take place marked) was in
            record {
              each = ap length written ∙ (length-set (slice_set is count (get_or is place x)) place (get_or is count x)
                  ∙ (length-set is count (get_or is place x) ∙ m.each));
              moved = rw (one_more x there) (omega (arith, m.moved, length-append kept_before (x ∷ [])));
              front = λ i less. elim (cases_lt i count) [
                | inl before ↦
                    let some = slice_get-get_or kept_before i x (omega (arith, m.moved)) in
                    others i (λ e. absurd (omega (arith, e))) (λ e. absurd (omega (arith, e, m.behind)))
                    ∙ (m.front i before ∙ (some
                    ∙ sym (ap (λ l. slice_get l i) (one_more x there) ∙ get_left kept_before (x ∷ []) i _ some)))
                | inr ge ↦
                    let e : i ≡ count = omega arith in
                    ap (slice_get swapped) e
                    ∙ (moved_here ∙ sym (ap (λ l. slice_get l i) (one_more x there)
                    ∙ (ap (slice_get (kept_before ++ x ∷ [])) (e ∙ m.moved) ∙ get_end kept_before x)))
              ];
              rest = λ i le. others i (λ e. absurd (omega (arith, e, m.behind))) (λ e. absurd (omega (arith, e)))
                  ∙ m.rest i (omega arith);
              behind = omega (arith, m.behind);
            }

    pub all_moved : length marked ≤ place
        → (count ≡ length (kept marked was)) × ((i : ℕ) → i < count → slice_get is i ≡ slice_get (kept marked was) i)
    all_moved le =
        let all = take_all marked place le in
        (m.moved ∙ ap (λ l. length (kept l was)) all, λ i lt. m.front i lt ∙ ap (λ l. slice_get (kept l was) i) all)

    pub next_moved : length was ≡ length marked → place < length marked → (swapped : List A)
        → SwappedAt is swapped count place → get_or marked place false ≡ true
        → IsMoved was swapped marked (count + 1) (place + 1)
    next_moved long lt swapped swap is_true =
        let within : place < length is = omega (arith, m.each) in
        let x = some_there is place within in
        one_moved (slice_get-get_or marked place false lt ∙ ap Some is_true) within swapped swap x.0 x.1
      where
        some_there : (xs : List A) (i : ℕ) → i < length xs → (x : A) × (slice_get xs i ≡ Some x)
        some_there [] i less = absurd (omega arith)
        some_there (y ∷ xs) zero less = (y, refl)
        some_there (y ∷ xs) (suc i) less = some_there xs i (omega arith)

-- ---- the same of a part of a list that is written through

module _ {A : Type 0} where
  get_take : (n : ℕ) (xs : List A) (i : ℕ) → i < n → slice_get (take n xs) i ≡ slice_get xs i
  get_take zero xs i lt = absurd (omega arith)
  get_take (suc n) [] i lt = refl
  get_take (suc n) (x ∷ xs) zero lt = refl
  get_take (suc n) (x ∷ xs) (suc i) lt = get_take n xs i (omega arith)

  none_taken : (n : ℕ) (xs : List A) (i : ℕ) → n ≤ i → slice_get (take n xs) i ≡ None
  none_taken zero xs i le = refl
  none_taken (suc n) [] i le = refl
  none_taken (suc n) (x ∷ xs) zero le = absurd (omega arith)
  none_taken (suc n) (x ∷ xs) (suc i) le = none_taken n xs i (omega arith)

  in_first : (xs ys : List A) (i : ℕ) → i < length xs → slice_get (xs ++ ys) i ≡ slice_get xs i
  in_first [] ys i lt = absurd (omega arith)
  in_first (x ∷ xs) ys zero lt = refl
  in_first (x ∷ xs) ys (suc i) lt = in_first xs ys i (omega arith)

  in_second : (xs ys : List A) (n i : ℕ) → n ≡ length xs → slice_get (xs ++ ys) (n + i) ≡ slice_get ys i
  in_second [] ys n i is = ap (slice_get ys) (omega arith)
  in_second (x ∷ xs) ys n i is =
      ap (slice_get (x ∷ xs ++ ys)) {y = suc (length xs + i)} (omega arith) ∙ in_second xs ys (length xs) i refl

  -- the end of a list, as a range of it
  pub whole_end : (xs : List A) (place : ℕ) → take (length xs - place) (drop place xs) ≡ drop place xs
  whole_end xs place = take_all (drop place xs) (length xs - place) (omega (arith, length-drop place xs))

  -- what is left when the range from a place on was drawn, and then the list was cut
  pub cut_is : (old now : List A) (place count len : ℕ) (drawn past behind left : List A)
      → now ≡ old → place ≤ length old → len ≡ length old → count ≡ length left
      → count ≤ length drawn → place + count ≤ length old
      → ((i : ℕ) → i < count → slice_get drawn i ≡ slice_get left i)
      → take (place + count) (take len ((take place now ++ (drawn ++ past)) ++ behind)) ≡ take place old ++ left
  cut_is old now place count len drawn past behind left same within len_is count_is enough fits each =
      same_by_places _ _ at
    where
      long : place ≡ length (take place now)
      long = sym (length-take-le place now (omega (arith, ap length same)))

      whole : List A
      whole = take place now ++ (drawn ++ past)

      at : (i : ℕ) → slice_get (take (place + count) (take len ((take place now ++ (drawn ++ past)) ++ behind))) i
          ≡ slice_get (take place old ++ left) i
      at i = elim (cases_lt i place) [
        | inl lt ↦
            get_take (place + count) (take len ((take place now ++ (drawn ++ past)) ++ behind)) i (omega arith)
            ∙ (get_take len ((take place now ++ (drawn ++ past)) ++ behind) i (omega arith)
            ∙ (in_first (take place now ++ (drawn ++ past)) behind i
            (omega (arith, long, length-append (take place now) (drawn ++ past)))
            ∙ (in_first (take place now) (drawn ++ past) i (omega (arith, long))
            ∙ (ap (λ l. slice_get (take place l) i) same
            ∙ sym (in_first (take place old) left i (omega (arith, long, ap (λ l. length (take place l)) same)))))))
        | inr ge ↦ elim (cases_lt i (place + count)) [
          | inl less ↦
              let j : i ≡ place + (i - place) = omega arith in
              get_take (place + count) (take len ((take place now ++ (drawn ++ past)) ++ behind)) i less
              ∙ (get_take len ((take place now ++ (drawn ++ past)) ++ behind) i (omega arith)
              ∙ (in_first (take place now ++ (drawn ++ past)) behind i
              (omega (arith, long, length-append (take place now) (drawn ++ past), length-append drawn past))
              ∙ (ap (slice_get (take place now ++ (drawn ++ past))) j
              ∙ (in_second (take place now) (drawn ++ past) place (i - place) long
              ∙ (in_first drawn past (i - place) (omega arith)
              ∙ (each (i - place) (omega arith)
              ∙ (sym (in_second (take place old) left place (i - place) (long ∙ ap (λ l. length (take place l)) same))
              ∙ ap (slice_get (take place old ++ left)) (sym j))))))))
          | inr more ↦
              none_taken (place + count) (take len ((take place now ++ (drawn ++ past)) ++ behind)) i more
              ∙ sym (slice_get_past (take place old ++ left) i
              (omega (arith, long, ap (λ l. length (take place l)) same, length-append (take place old) left)))
        ]
      ]
