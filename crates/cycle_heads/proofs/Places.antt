-- What a search by depth finds, and what an edit at that place does.
use Rattle.std.proofs.Common.{◌≡◌, ℕ, zero, suc, ◌-◌, ◌<◌, ◌≤◌, List, [], ◌∷◌, ◌++◌, length, get_or, set, true, Option}
use Rattle.std.proofs.Common.{Some, None, IsSome, Result, Ok, Err, IsOk, refl, sym, ap, subst, ◌∙◌, inl, inr, arith}
use Rattle.std.proofs.Common.{lt-ltb, le-ltb, eq-eqb, ne_eqb}
use Rattle.std.proofs.lemmas.Bool.{cases_lt, cases_eq, false≢true}
use Rattle.std.proofs.lemmas.Bool.Decides.{nat_tests}
use Rattle.std.proofs.lemmas.Cmp.{ranked}
use Rattle.std.proofs.lemmas.List.{get_or-map, length-map}
use Rattle.std.proofs.lemmas.List.Edits.{insert_end}
use Rattle.std.proofs.lemmas.List.Elements.{All-from_recursion, recursion_from_All}
use Rattle.std.proofs.lemmas.Map.Keys.{Less-from_sorted, sorted_head}
use Rattle.std.proofs.lemmas.Map.Views.{All-keys-insert_entry}
use Rattle.std.proofs.lemmas.Option.{get_or_from_slice_get, slice_get-get_or, slice_get_read, slice_get_within}
use Rattle.std.specs.BTreeMap.{insert_entry, is_at}
use Rattle.std.specs.List.{AllByRecursion, insert, slice_get}
use Rattle.std.specs.List.Sorted.{IsSearchInRange, IsBinarySearchResult, IsNonDecreasingBy, IsStrictlySortedBy}
use Rattle.std.specs.Map.{keys_of, set_value}
use Rattle.std.specs.Option.{option_map}
use Rattle.std.specs.Ordering.{is_eq, match_ordering, ordering_index}
use Rattle.std.specs.declared.cmp.Ordering.{Ordering}
use Rattle.std.specs.declared.cmp.Ordering.TheVariants.{Less, Equal, Greater}
use Rattle.cycle_heads.specs.Words.{AreBelow, StackDepth, at_depth, depth_cmp, IsRising, place_of}
use Rattle.cycle_heads.specs.Places.{one_later}
use Rattle.cycle_heads.proofs.HeadLists.{at_depth-rest, placed_first, placed_here, placed_later}
use Rattle.cycle_heads.proofs.HeadLists.{absent_below, rising_later}

pub rising_at : {A : Type 0} (entries : List (StackDepth × A)) → IsRising entries → (i j : ℕ) (e : StackDepth × A)
    → i < j → j < length entries → (get_or entries i e).0.0 < (get_or entries j e).0.0
rising_at entries rising i j e lt within =
    let here =
    Less-from_sorted depth_cmp (keys_of entries) i j e.0 rising lt (rw (length-map entries (λ e. e.0)) within) in
    ranked _ _ Less (sym
    (rw (get_or-map (λ e. e.0) entries i e e.0 (omega arith), get_or-map (λ e. e.0) entries j e e.0 within) at here))

-- what is read at a place stands there
pub there : {A : Type 0} (xs : List A) (i : ℕ) (x : A)
    → (i < length xs) × ((d : A) → x ≡ get_or xs i d) → slice_get xs i ≡ Some x
there xs i x read = slice_get_read xs (length xs) i x refl read.0 (read.1 x)

-- ---- the place of a depth, one entry at a time

-- one more depth before greater ones
one_more : (first : StackDepth) (depths : List StackDepth)
    → AllByRecursion (λ other. depth_cmp first other ≡ Less) depths → IsStrictlySortedBy depth_cmp depths
    → IsStrictlySortedBy depth_cmp (first ∷ depths)
unfolding IsStrictlySortedBy
one_more first depths below sorted = (below, sorted)

module _ (depth : StackDepth) where
  less : (other : StackDepth) → depth.0 < other.0 → depth_cmp depth other ≡ Less
  less other lt = rw (lt-ltb depth.0 other.0 lt) refl

  same : (other : StackDepth) → depth.0 ≡ other.0 → depth_cmp depth other ≡ Equal
  same other eq = rw (le-ltb depth.0 other.0 (omega arith), eq-eqb depth.0 other.0 eq) refl

  greater : (other : StackDepth) → other.0 < depth.0 → depth_cmp depth other ≡ Greater
  greater other gt = rw (le-ltb depth.0 other.0 (omega arith), ne_eqb depth.0 other.0 (omega arith)) refl

  equal_is : (other : StackDepth) → depth.0 ≡ other.0 → is_eq (depth_cmp depth other) ≡ true
  equal_is other eq = ap is_eq (same other eq)

module _ {A : Type 0} (depth : StackDepth) where
  placed : (e : StackDepth × A) (es : List (StackDepth × A)) (o : Ordering) → depth_cmp depth e.0 ≡ o
      → place_of (e ∷ es) depth ≡ match_ordering o (Err 0) (Ok 0) (one_later (place_of es depth))
  placed e es o = ap (λ o. match_ordering o (Err 0) (Ok 0) (one_later (place_of es depth)))

  module _ (P : Result ℕ ℕ → List (StackDepth × A) → Type 0) (none : P (Err 0) [])
      (before : (e : StackDepth × A) (es : List (StackDepth × A)) → depth.0 < e.0.0 → P (Err 0) (e ∷ es))
      (here : (e : StackDepth × A) (es : List (StackDepth × A)) → depth.0 ≡ e.0.0 → P (Ok 0) (e ∷ es))
      (later : (e : StackDepth × A) (es : List (StackDepth × A)) (place : Result ℕ ℕ) → e.0.0 < depth.0 → P place es
      → P (one_later place) (e ∷ es)) where
    -- what holds of a place in each of the four cases holds of the place of a depth
    pub by_place : (entries : List (StackDepth × A)) → P (place_of entries depth) entries
    by_place [] = none
    by_place (e ∷ es) = elim (cases_lt depth.0 e.0.0) [
      | inl lt ↦ subst (λ place. P place (e ∷ es)) (sym (placed e es Less (less depth e.0 lt))) (before e es lt)
      | inr ge ↦ elim (cases_eq depth.0 e.0.0) [
        | inl eq ↦ subst (λ place. P place (e ∷ es)) (sym (placed e es Equal (same depth e.0 eq))) (here e es eq)
        | inr ne ↦ let gt : e.0.0 < depth.0 = omega arith in
            subst (λ place. P place (e ∷ es)) (sym (placed e es Greater (greater depth e.0 gt)))
            (later e es (place_of es depth) gt (by_place es))
      ]
    ]

  -- above a depth that is greater, each is
  all_greater : (e : StackDepth × A) (es : List (StackDepth × A)) → depth.0 < e.0.0 → IsRising (e ∷ es)
      → AllByRecursion (λ other. depth_cmp depth other ≡ Less) (keys_of es)
  all_greater e es lt rising = recursion_from_All (λ other. depth_cmp depth other ≡ Less) (keys_of es) (λ i d within.
      less depth (get_or (keys_of es) i d) (omega (
        arith,
        ranked e.0.0 (get_or (keys_of es) i d).0 Less (sym (All-from_recursion (λ other. depth_cmp e.0 other ≡ Less)
            (keys_of es) (sorted_head depth_cmp e.0 (keys_of es) rising) i d within)),
      )))

  -- ---- what stands there

  abbrev pub value_at : Result ℕ ℕ → List (StackDepth × A) → Option A
  value_at (Ok i) entries = option_map (λ e. e.1) (slice_get entries i)
  value_at (Err i) entries = None

  value_later : (e : StackDepth × A) (es : List (StackDepth × A)) (place : Result ℕ ℕ)
      → value_at (one_later place) (e ∷ es) ≡ value_at place es
  value_later e es (Ok i) = refl
  value_later e es (Err i) = refl

  pub place_is_read : (entries : List (StackDepth × A)) → IsRising entries
      → at_depth entries depth ≡ value_at (place_of entries depth) entries
  place_is_read = by_place (λ place entries. IsRising entries → at_depth entries depth ≡ value_at place entries)
      (λ rising. refl)
      (λ e es lt rising.
      at_depth-rest e.0 depth e.1 es (λ eq. omega arith) ∙ absent_below es depth (all_greater e es lt rising))
      (λ e es eq rising. rw (equal_is depth e.0 eq) refl)
      (λ e es place gt read rising. at_depth-rest e.0 depth e.1 es (λ eq. omega arith)
      ∙ read (rising_later e.0 e.1 es rising) ∙ sym (value_later e es place))

  pub place_is_within : (entries : List (StackDepth × A)) → IsSearchInRange (place_of entries depth) (length entries)
  place_is_within = by_place (λ place entries. IsSearchInRange place (length entries)) (omega arith)
      (λ e es lt. omega arith) (λ e es eq. omega arith) within_later
    where
      within_later : (e : StackDepth × A) (es : List (StackDepth × A)) (place : Result ℕ ℕ) → e.0.0 < depth.0
          → IsSearchInRange place (length es) → IsSearchInRange (one_later place) (length (e ∷ es))
      within_later e es (Ok i) gt within = omega (arith, within)
      within_later e es (Err i) gt within = omega (arith, within)

  -- ---- whose place it is

  abbrev HasDepth : Result ℕ ℕ → List (StackDepth × A) → Type 0
  HasDepth (Ok i) entries = (e : StackDepth × A) → (get_or entries i e).0 ≡ depth
  HasDepth (Err i) entries = Unit {0}

  place_has_depth : (entries : List (StackDepth × A)) → HasDepth (place_of entries depth) entries
  place_has_depth = by_place HasDepth tt (λ e es lt. tt) (λ e es eq other. λ i. record { 0 = sym eq i }) has_later
    where
      has_later : (e : StackDepth × A) (es : List (StackDepth × A)) (place : Result ℕ ℕ) → e.0.0 < depth.0
          → HasDepth place es → HasDepth (one_later place) (e ∷ es)
      has_later e es (Ok i) gt has = has
      has_later e es (Err i) gt has = tt

  module _ (entries : List (StackDepth × A)) (i : ℕ) where
    pub found_within : place_of entries depth ≡ Ok i → i < length entries
    found_within found = subst (λ place. IsSearchInRange place (length entries)) found (place_is_within entries)

    pub found_value : (e : StackDepth × A) → IsRising entries → place_of entries depth ≡ Ok i
        → at_depth entries depth ≡ Some (get_or entries i e).1
    found_value e rising found = place_is_read entries rising
        ∙ ap (λ place. value_at place entries) found
        ∙ ap (option_map (λ e. e.1)) (slice_get-get_or entries i e (found_within found))

    pub found_depth : (e : StackDepth × A) → place_of entries depth ≡ Ok i → (get_or entries i e).0 ≡ depth
    found_depth e found = subst (λ place. HasDepth place entries) found (place_has_depth entries) e

    pub gap_within : place_of entries depth ≡ Err i → i ≤ length entries
    gap_within gap = subst (λ place. IsSearchInRange place (length entries)) gap (place_is_within entries)

    pub gap_value : IsRising entries → place_of entries depth ≡ Err i → at_depth entries depth ≡ None
    gap_value rising gap = place_is_read entries rising ∙ ap (λ place. value_at place entries) gap

  -- what has a value has a place
  pub place_is_ok : (entries : List (StackDepth × A)) → IsRising entries
      → IsSome (at_depth entries depth) → IsOk (place_of entries depth)
  place_is_ok entries rising there =
      of_value (place_of entries depth) (subst IsSome (place_is_read entries rising) there)
    where
      of_value : (place : Result ℕ ℕ) → IsSome (value_at place entries) → IsOk place
      of_value (Ok i) there = refl
      of_value (Err i) there = absurd (false≢true there)

  -- ---- what an edit there makes

  module _ (value : A) where
    abbrev pub edit_at : Result ℕ ℕ → List (StackDepth × A) → List (StackDepth × A)
    edit_at (Ok i) entries = set entries i (depth, value)
    edit_at (Err i) entries = insert entries i (depth, value)

    edit_later : (e : StackDepth × A) (es : List (StackDepth × A)) (place : Result ℕ ℕ)
        → edit_at (one_later place) (e ∷ es) ≡ e ∷ edit_at place es
    edit_later e es (Ok i) = refl
    edit_later e es (Err i) = refl

    pub place_is_edited : (entries : List (StackDepth × A))
        → edit_at (place_of entries depth) entries ≡ insert_entry depth_cmp entries depth value
    place_is_edited = by_place (λ place entries. edit_at place entries ≡ insert_entry depth_cmp entries depth value)
        refl
        (λ e es lt. sym (placed_first depth value e es lt))
        (λ e es eq. ap (λ d. (d, value) ∷ es) (depth_is depth e.0 eq) ∙ sym (placed_here depth value e es eq))
        (λ e es place gt edited.
        edit_later e es place ∙ ap (λ es. e ∷ es) edited ∙ sym (placed_later depth value e es gt))
      where
        depth_is : (some other : StackDepth) → some.0 ≡ other.0 → some ≡ other
        depth_is some other eq = λ i. record { 0 = eq i }

    there_before : (place : Result ℕ ℕ) → IsOk (one_later place) → IsOk place
    there_before (Ok i) there = there
    there_before (Err i) there = there

    -- an entry that is there is replaced
    pub place_is_set : (entries : List (StackDepth × A)) → IsOk (place_of entries depth)
        → insert_entry depth_cmp entries depth value ≡ set_value (is_at (depth_cmp depth)) entries value
    place_is_set = by_place (λ place entries.
        IsOk place → insert_entry depth_cmp entries depth value ≡ set_value (is_at (depth_cmp depth)) entries value)
        (λ there. absurd (false≢true there))
        (λ e es lt there. absurd (false≢true there))
        (λ e es eq there. placed_here depth value e es eq ∙ rw (equal_is depth e.0 eq) refl)
        (λ e es place gt set there. placed_later depth value e es gt
        ∙ ap (λ es. e ∷ es) (set (there_before place there))
        ∙ rw (ap is_eq (greater depth e.0 gt)) refl)

    pub rising_kept : (entries : List (StackDepth × A)) → IsRising entries
        → IsRising (insert_entry depth_cmp entries depth value)
    rising_kept = by_place (λ _ entries. IsRising entries → IsRising (insert_entry depth_cmp entries depth value))
        (λ rising. one_more depth [] tt rising)
        (λ e es lt rising. subst IsRising (sym (placed_first depth value e es lt))
        (one_more depth (keys_of (e ∷ es)) (less depth e.0 lt, all_greater e es lt rising) rising))
        (λ e es eq rising. subst IsRising (sym (placed_here depth value e es eq)) rising)
        (λ e es _ gt kept rising. subst IsRising (sym (placed_later depth value e es gt))
        (one_more e.0 (keys_of (insert_entry depth_cmp es depth value))
        (recursion_from_All (λ other. depth_cmp e.0 other ≡ Less) _
        (All-keys-insert_entry depth_cmp depth value (λ other. depth_cmp e.0 other ≡ Less) es
        (All-from_recursion (λ other. depth_cmp e.0 other ≡ Less) (keys_of es)
        (sorted_head depth_cmp e.0 (keys_of es) rising)) (rw (lt-ltb e.0.0 depth.0 gt) refl)))
        (kept (rising_later e.0 e.1 es rising))))

    module _ (entries : List (StackDepth × A)) (i : ℕ) where
      pub set_in_place : place_of entries depth ≡ Ok i
          → set entries i (depth, value) ≡ insert_entry depth_cmp entries depth value
      set_in_place found = ap (λ place. edit_at place entries) (sym found) ∙ place_is_edited entries

      pub inserted_in_gap : place_of entries depth ≡ Err i
          → insert entries i (depth, value) ≡ insert_entry depth_cmp entries depth value
      inserted_in_gap gap = ap (λ place. edit_at place entries) (sym gap) ∙ place_is_edited entries

      -- the place is behind all entries
      pub pushed_in_gap : place_of entries depth ≡ Err i → i ≡ length entries
          → entries ++ (depth, value) ∷ [] ≡ insert_entry depth_cmp entries depth value
      pushed_in_gap gap last = sym (insert_end entries (depth, value))
          ∙ ap (λ j. insert entries j (depth, value)) (sym last) ∙ inserted_in_gap gap

  -- ---- what a search by halves finds

  -- the entry at a place is of the depth
  abbrev pub IsHere : List (StackDepth × A) → ℕ → Type 0
  IsHere entries i = (e : StackDepth × A) → (get_or entries i e).0.0 ≡ depth.0

  -- the depths of the entries before a place are less, and those from it on greater
  pub record IsGap (entries : List (StackDepth × A)) (i : ℕ) : Type 0 where
    pub within : i ≤ length entries
    pub below : (j : ℕ) (e : StackDepth × A) → j < i → (get_or entries j e).0.0 < depth.0
    pub above : (j : ℕ) (e : StackDepth × A) → i ≤ j → j < length entries → depth.0 < (get_or entries j e).0.0

  first_is_least : (e : StackDepth × A) (es : List (StackDepth × A)) (i : ℕ) → IsRising (e ∷ es)
      → i < length es → e.0.0 < (get_or es i e).0.0
  first_is_least e es i rising lt =
      let here = Less-from_sorted depth_cmp (keys_of (e ∷ es)) 0 (suc i) e.0 rising (omega arith)
      (rw (length-map es (λ e. e.0)) (omega arith)) in
      ranked _ _ Less (sym (rw (get_or-map (λ e. e.0) es i e e.0 lt) at here))

  place_here_is : (entries : List (StackDepth × A)) (i : ℕ) → IsRising entries → i < length entries
      → IsHere entries i → place_of entries depth ≡ Ok i
  place_here_is [] i rising lt here = absurd (omega arith)
  place_here_is (e ∷ es) zero rising lt here = placed e es Equal (same depth e.0 (sym (here e)))
  place_here_is (e ∷ es) (suc i) rising lt here =
      placed e es Greater (greater depth e.0 (omega (arith, first_is_least e es i rising (omega arith), here e)))
      ∙ ap one_later (place_here_is es i (rising_later e.0 e.1 es rising) (omega arith) here)

  place_in_gap : (entries : List (StackDepth × A)) (i : ℕ) → IsGap entries i → place_of entries depth ≡ Err i
  place_in_gap [] i gap = ap Err (omega (arith, gap.within))
  place_in_gap (e ∷ es) zero gap = placed e es Less (less depth e.0 (gap.above 0 e (omega arith) (omega arith)))
  place_in_gap (e ∷ es) (suc i) gap =
      let rest : IsGap es i = record {
        within = omega (arith, gap.within);
        below = λ j other lt. gap.below (suc j) other (omega arith);
        above = λ j other le lt. gap.above (suc j) other (omega arith) (omega arith);
      } in
      placed e es Greater (greater depth e.0 (gap.below 0 e (omega arith))) ∙ ap one_later (place_in_gap es i rest)

  -- ---- what a guess finds

  -- the place before a guess is that of the depth
  pub place_before : (entries : List (StackDepth × A)) → IsRising entries → (i : ℕ) (e : StackDepth × A)
      → i < length entries → (get_or entries i e).0.0 ≡ depth.0 → place_of entries depth ≡ Ok i
  place_before entries rising i e within eq = place_here_is entries i rising within (λ other.
      ap (λ x. x.0.0)
      (get_or_from_slice_get entries i (get_or entries i e) other (slice_get-get_or entries i e within)) ∙ eq)

  module _ (entries : List (StackDepth × A)) (rising : IsRising entries) (count : ℕ) where
    -- the entries up to one that is below the depth
    below_from_last : (last : StackDepth × A) → 0 < count → slice_get entries (count - 1) ≡ Some last
        → last.0.0 < depth.0 → AreBelow entries count depth
    below_from_last last some at lt = record {
      within = omega (arith, some, slice_get_within entries (count - 1) last at);
      below = λ i e before. elim (cases_eq i (count - 1)) [
        | inl eq ↦ subst (λ j. (get_or entries j e).0.0 < depth.0) (sym eq) (here e)
        | inr ne ↦ omega (
          arith,
          rising_at entries rising i (count - 1) e (omega arith) (slice_get_within entries (count - 1) last at),
          here e,
        )
      ];
    }
      where
        here : (e : StackDepth × A) → (get_or entries (count - 1) e).0.0 < depth.0
        here e = subst (λ x. x.0.0 < depth.0) (sym (get_or_from_slice_get entries (count - 1) last e at)) lt

    -- the entries before a guess, the last of which is below the depth
    pub below_guess : (last : ℕ) (e : StackDepth × A) → last < length entries → count ≡ suc last
        → (get_or entries last e).0.0 < depth.0 → AreBelow entries count depth
    below_guess last e within is lt = below_from_last (get_or entries last e) (omega (arith, is))
        (subst (λ i. slice_get entries i ≡ Some (get_or entries last e)) (omega (arith, is))
        (slice_get-get_or entries last e within)) lt

    module _ (below : AreBelow entries count depth) where
      pub none_is_gap : slice_get entries count ≡ None → place_of entries depth ≡ Err count
      none_is_gap none = place_in_gap entries count (record {
        within = below.within;
        below = below.below;
        above = λ j e le lt.
            let some = slice_get-get_or entries count e (omega arith) in absurd (let clash = sym none ∙ some in cc);
      })

      module _ (next : StackDepth × A) (at : slice_get entries count ≡ Some next) where
        pub next_is_place : next.0.0 ≡ depth.0 → place_of entries depth ≡ Ok count
        next_is_place eq = place_here_is entries count rising (slice_get_within entries count next at)
            (λ e. ap (λ x. x.0.0) (get_or_from_slice_get entries count next e at) ∙ eq)

        pub next_is_behind : depth.0 < next.0.0 → place_of entries depth ≡ Err count
        next_is_behind lt = place_in_gap entries count (record {
          within = below.within;
          below = below.below;
          above = λ j e le within. elim (cases_eq j count) [
            | inl eq ↦ subst (λ i. depth.0 < (get_or entries i e).0.0) (sym eq)
                (subst (λ x. depth.0 < x.0.0) (sym (get_or_from_slice_get entries count next e at)) lt)
            | inr ne ↦ omega (
              arith,
              rising_at entries rising count j e (omega arith) within,
              subst (λ x. depth.0 < x.0.0) (sym (get_or_from_slice_get entries count next e at)) lt,
            )
          ];
        })

  module _ (entries : List (StackDepth × A)) (rising : IsRising entries) where
    -- the comparisons with the depth rise along the list
    comparisons_rise : IsNonDecreasingBy (λ e. ordering_index (depth_cmp e.0 depth)) entries
    comparisons_rise i j e le lt = elim (cases_eq i j) [
      | inl eq ↦ rw eq (omega arith)
      | inr ne ↦ grind (arith, nat_tests, rising_at entries rising i j e (omega arith) lt)
    ]

    pub search_finds_place : (r : Result ℕ ℕ) → IsSearchInRange r (length entries)
        → IsBinarySearchResult (λ e. depth_cmp e.0 depth) entries r → r ≡ place_of entries depth
    search_finds_place (Ok i) within equal =
        sym (place_here_is entries i rising within (λ e. ranked _ _ Equal (sym (equal e))))
    search_finds_place (Err i) within parted = sym (place_in_gap entries i (record {
      within = within;
      below = λ j e lt. ranked _ _ Less (sym ((parted comparisons_rise).0 j e (omega arith) lt));
      above = λ j e le lt. ranked _ _ Greater (sym ((parted comparisons_rise).1 j e le lt));
    }))
