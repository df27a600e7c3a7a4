-- What a search by number finds among the nodes that are held.
use Rattle.std.proofs.Common.{◌≡◌, ℕ, zero, suc, ◌<◌, ◌≤◌, List, [], ◌∷◌, Some, None, option_map, Ok, Err, length}
use Rattle.std.proofs.Common.{get_or, refl, sym, ap, subst, ◌∙◌, inl, inr, arith}
use Rattle.std.proofs.lemmas.Bool.{cases_eq, cases_lt}
use Rattle.std.proofs.lemmas.Bool.Decides.{nat_tests}
use Rattle.std.proofs.lemmas.Cmp.{ranked}
use Rattle.std.proofs.lemmas.Option.{get_or_from_slice_get, slice_get-get_or, slice_get_read, slice_get_within}
use Rattle.std.specs.List.{slice_get}
use Rattle.std.specs.List.Sorted.{IsSearchInRange, IsBinarySearchResult, IsNonDecreasingBy}
use Rattle.std.specs.Ordering.{nat_cmp, ordering_index}
use Rattle.std.specs.declared.cmp.Ordering.TheVariants.{Less, Equal, Greater}
use Rattle.graph_nodes.specs.Words.{Held, HasNumber, IsRising, IsSplit, slot_at}
use Rattle.graph_nodes.proofs.HeldNodes.{not_held}

-- what is read at a place stands there
pub there : {A : Type 0} (xs : List A) (i : ℕ) (x : A)
    → (i < length xs) × ((d : A) → x ≡ get_or xs i d) → slice_get xs i ≡ Some x
there xs i x read = slice_get_read xs (length xs) i x refl read.0 (read.1 x)

module _ {I R : Type 0} (held : List (Held I R)) (rising : IsRising held) (number : ℕ) where
  pub has_number : (i : ℕ) (h : Held I R) → slice_get held i ≡ Some h → h.number ≡ number → HasNumber held i number
  has_number i h is e = ap (option_map (λ x. x.number)) is ∙ ap Some e

  rising_at : (i j : ℕ) (e : Held I R) → i < j → j < length held → (get_or held i e).number < (get_or held j e).number
  rising_at i j e lt within = rising.rises i j (get_or held i e) (get_or held j e) lt
      (slice_get-get_or held i e (omega arith)) (slice_get-get_or held j e within)

  comparisons_rise : IsNonDecreasingBy (λ h. ordering_index (nat_cmp h.number number)) held
  comparisons_rise i j e le lt = elim (cases_eq i j) [
    | inl eq ↦ rw eq (omega arith)
    | inr ne ↦ grind (arith, nat_tests, rising_at i j e (omega arith) lt)
  ]

  module _ (i : ℕ) where
    pub found_there : IsSearchInRange (Ok i) (length held)
        → IsBinarySearchResult (λ h. nat_cmp h.number number) held (Ok i)
        → (h : Held I R) × (slice_get held i ≡ Some h) × (h.number ≡ number)
    found_there within equal = some_there held i within equal
      where
        some_there : (list : List (Held I R)) (k : ℕ) → k < length list
            → ((e : Held I R) → nat_cmp (get_or list k e).number number ≡ Equal)
            → (h : Held I R) × (slice_get list k ≡ Some h) × (h.number ≡ number)
        some_there [] k lt same = absurd (omega arith)
        some_there (x ∷ list) zero lt same = (x, refl, ranked _ _ Equal (sym (same x)))
        some_there (x ∷ list) (suc k) lt same = some_there list k (omega arith) same

    pub found_number : IsSearchInRange (Ok i) (length held)
        → IsBinarySearchResult (λ h. nat_cmp h.number number) held (Ok i) → HasNumber held i number
    found_number within equal = let w = found_there within equal in has_number i w.0 w.1 w.2

    pub found_split : IsSearchInRange (Ok i) (length held)
        → IsBinarySearchResult (λ h. nat_cmp h.number number) held (Ok i) → IsSplit held number i
    found_split within equal =
        let w = found_there within equal in
        record {
          within = omega (arith, slice_get_within held i w.0 w.1);
          before =
              λ j h is lt. let less : h.number < w.0.number = rising.rises j i h w.0 lt is w.1 in omega (arith, w.2);
          behind = λ j h is le. elim (cases_eq i j) [
            | inl same ↦
                let both : Some w.0 ≡ Some h = sym w.1 ∙ (ap (slice_get held) same ∙ is) in
                let one : w.0 ≡ h = cc in
                omega (arith, ap (λ x. x.number) one, w.2)
            | inr other ↦
                let less : w.0.number < h.number = rising.rises i j w.0 h (omega arith) w.1 is in omega (arith, w.2)
          ];
        }

    gap_behind : IsSearchInRange (Err i) (length held)
        → IsBinarySearchResult (λ h. nat_cmp h.number number) held (Err i) → (j : ℕ) (h : Held I R)
        → slice_get held j ≡ Some h → i ≤ j → number < h.number
    gap_behind within parted j h is le =
        subst (λ x. number < x.number) (get_or_from_slice_get held j h h is)
        (ranked _ _ Greater (sym ((parted comparisons_rise).1 j h le (slice_get_within held j h is))))

    pub gap_split : IsSearchInRange (Err i) (length held)
        → IsBinarySearchResult (λ h. nat_cmp h.number number) held (Err i) → IsSplit held number i
    gap_split within parted = record {
      within = within;
      before = λ j h is lt.
          subst (λ x. x.number < number) (get_or_from_slice_get held j h h is)
          (ranked _ _ Less (sym ((parted comparisons_rise).0 j h (omega arith) lt)));
      behind = λ j h is le. let less : number < h.number = gap_behind within parted j h is le in omega arith;
    }

    pub gap_none : IsSearchInRange (Err i) (length held)
        → IsBinarySearchResult (λ h. nat_cmp h.number number) held (Err i) → slot_at held number ≡ None
    gap_none within parted = not_held held number (λ j h is e. elim (cases_lt j i) [
      | inl lt ↦ let less : h.number < number = (gap_split within parted).before j h is lt in absurd (omega arith)
      | inr ge ↦ let less : number < h.number = gap_behind within parted j h is ge in absurd (omega arith)
    ])
