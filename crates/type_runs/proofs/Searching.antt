-- What a search for a reason has found, and that it does not end without one.
use Rattle.std.proofs.Common.{◌≡◌, ℕ, zero, suc, ◌+◌, ◌<◌, ◌≤◌, ◌⊎◌, inl, inr, Bool, true, false, List, [], ◌∷◌, ◌++◌}
use Rattle.std.proofs.Common.{All, Contains, length, map, slice_get, Bor, Option, None, Some, refl, sym, ap, ◌∙◌}
use Rattle.std.proofs.Common.{subst, arith}
use Rattle.std.specs.Bool.{MatchBool}
use Rattle.std.specs.List.{list_any}
use Rattle.std.specs.Option.{option_copied}
use Rattle.std.specs.Slice.{IsItemAt}
use Rattle.std.proofs.lemmas.Bool.{cases_lt, false≢true, or_cases}
use Rattle.std.specs.List.Sorted.{IsPermutation}
use Rattle.std.proofs.lemmas.List.Elements.{All-cons, All-head, All-tail, All-weaker, Contains-append_cases}
use Rattle.std.proofs.lemmas.List.Elements.{Contains-append_left, Contains-append_right}
use Rattle.std.proofs.lemmas.List.Sorted.{All-permutation}
use Rattle.std.proofs.lemmas.Option.{get_or_from_slice_get, slice_get-get_or, slice_get_past}
use Rattle.std.proofs.lemmas.Option.{slice_get_read, slice_get_within}
use Rattle.line_texts.proofs.NameLemmas.{at_end, place_in_longer, slice_get-append_left}
use Rattle.list_lemmas.proofs.Members.{Contains-map, Contains-mapped}
use Rattle.type_order.specs.Rule.{NeedsAll, pair, pairs_of}
use Rattle.type_order.specs.Subtypes.{IsBelow, IsSimulation, IsSupportedPair}
use Rattle.type_order.specs.declared.delegate.Pair.{Pair}
use Rattle.type_order.proofs.Apart.{supported_more}
use Rattle.type_order.proofs.Follows.{supported_by_all}
use Rattle.type_order.proofs.Transitive.{both}
use Rattle.type_texts.specs.Reasons.{IsStep}
use Rattle.type_texts.specs.declared.reasons.Step.{Step}
use Rattle.type_runs.specs.Search.{AreCovered, ComesFrom, count_in, GoesOn, IsAt, IsFound, IsSearch, types_in}
use Rattle.type_runs.specs.declared.program.reason.Found.{Found}
use Rattle.type_runs.specs.declared.program.reason.Search.{Search}

-- a key that was put among others, or was there
pub all_put : {K : Type 0} (P : K → Type 0) (old new : List K) (key : K) (added : Bool)
    → MatchBool added (IsPermutation (key ∷ old) new) (new ≡ old) → P key → All P old → All P new
all_put P old new key true put holds all = All-permutation P (key ∷ old) new put (All-cons P key old holds all)
all_put P old new key false put holds all = subst (All P) (sym put) all

-- a pair that was seen was found
pub seen_found : (search : Search) (one : Pair) (test : Pair → Bool)
    → ((other : Pair) → test other ≡ true → one ≡ other) → (keys : List Pair) → list_any test keys ≡ true
    → All (IsFound search) keys → IsFound search one
seen_found search one test tells [] seen all = absurd (false≢true seen)
seen_found search one test tells (key ∷ keys) seen all = elim (or_cases (test key) (list_any test keys) seen) [
  | inl here ↦ subst (IsFound search) (sym (tells key here)) (All-head (IsFound search) key keys all)
  | inr later ↦ seen_found search one test tells keys later (All-tail (IsFound search) key keys all)
]

-- two pairs at one place are one
pub one_at : (search : Search) (place : ℕ) (x y : Pair) → IsAt search place x → IsAt search place y → x ≡ y
one_at search place x y at other =
    let first = at.is_at in let second = other.is_at in
    let same : at.found ≡ other.found = cc in
    sym at.is_pair ∙ ap (λ f. f.pair) same ∙ other.is_pair

pub at_within : (search : Search) (place : ℕ) (pair : Pair) → IsAt search place pair → place < count_in search
at_within search place pair at = slice_get_within search.found.items place at.found at.is_at

pub same_goes_on : (search : Search) → GoesOn search search
same_goes_on search = record { types = refl; kept = λ place found e. e }

pub goes_on_further : (first next last : Search) → GoesOn first next → GoesOn next last → GoesOn first last
goes_on_further first next last a b =
    record { types = b.types ∙ a.types; kept = λ place found e. b.kept place found (a.kept place found e) }

module _ (old new : Search) (on : GoesOn old new) where
  pub at_still : (place : ℕ) (pair : Pair) → IsAt old place pair → IsAt new place pair
  at_still place pair at = record { found = at.found; is_at = on.kept place at.found at.is_at; is_pair = at.is_pair }

  -- what is now at a place that there was before was there before
  pub at_before : (place : ℕ) (pair : Pair) → place < count_in old → IsAt new place pair → IsAt old place pair
  at_before place pair within at =
      let was = slice_get-get_or old.found.items place at.found within in
      let now = on.kept place _ was in
      let then = at.is_at in
      record { found = at.found; is_at = was ∙ sym now ∙ then; is_pair = at.is_pair }

  pub covered_still : (P : Pair → Type 0) → AreCovered old P → AreCovered new P
  covered_still P c = record {
    below = c.below;
    is_simulation = subst (λ forms. IsSimulation forms c.below) (sym on.types) c.is_simulation;
    each = λ part is. elim (c.each part is) [ inl w ↦ inl (w.0, at_still w.0 part w.1) | inr w ↦ inr w ];
  }

module _ (search : Search) where
  pub covered_fewer : (P Q : Pair → Type 0) → ((part : Pair) → Q part → P part)
      → AreCovered search P → AreCovered search Q
  covered_fewer P Q fewer c =
      record { below = c.below; is_simulation = c.is_simulation; each = λ part is. c.each part (fewer part is) }

  pub covered_both : (P Q : Pair → Type 0) → AreCovered search P → AreCovered search Q
      → AreCovered search (λ part. P part ⊎ Q part)
  covered_both P Q c d = record {
    below = c.below ++ d.below;
    is_simulation = both (types_in search) c.below d.below c.is_simulation d.is_simulation;
    each = λ part is. elim is [
      | inl p ↦ elim (c.each part p) [
        | inl w ↦ inl w
        | inr w ↦ inr (Contains-append_left c.below d.below (part.left, part.right) w)
      ]
      | inr q ↦ elim (d.each part q) [
        | inl w ↦ inl w
        | inr w ↦ inr (Contains-append_right c.below d.below (part.left, part.right) w)
      ]
    ];
  }

  pub covered_none : (P : Pair → Type 0) → ((part : Pair) → P part → ⊥) → AreCovered search P
  covered_none P none = record {
    below = [];
    is_simulation = λ l r h. absurd (omega (arith, h.1));
    each = λ part is. absurd (none part is);
  }

  pub covered_found : (one : Pair) → IsFound search one → AreCovered search (λ part. part ≡ one)
  covered_found one found = record {
    below = [];
    is_simulation = λ l r h. absurd (omega (arith, h.1));
    each = λ part is. inl (subst (IsFound search) (sym is) found);
  }

  pub covered_below : (one : Pair) → IsBelow (types_in search) one.left one.right
      → AreCovered search (λ part. part ≡ one)
  covered_below one below = record {
    below = below.pairs;
    is_simulation = below.is_simulation;
    each = λ part is. inr (subst (λ p. Contains below.pairs (p.left, p.right)) (sym is) below.has_pair);
  }

-- what is read at a place
item_copied : (founds : List Found) (place : ℕ) (got : Option (Bor Found)) → IsItemAt founds place got
    → option_copied got ≡ slice_get founds place
item_copied founds place None is = sym (slice_get_past founds place is.3)
item_copied founds place (Some x) is = sym (slice_get_read founds (length founds) place x.now refl is.3.0 is.1)

pub place_read : (founds read : List Found) (place : ℕ) (got : Option (Bor Found)) (copied : Option Found) →
    read ≡ founds → IsItemAt read place got → copied ≡ option_copied got →
    slice_get founds place ≡ copied
place_read founds read place got copied same at is =
    ap (λ xs. slice_get xs place) (sym same) ∙ sym (item_copied read place got at) ∙ sym is

-- nothing stands from here on
pub past_all : (founds : List Found) (place : ℕ) → slice_get founds place ≡ None → length founds ≤ place
past_all [] place none = omega arith
past_all (found ∷ founds) zero none = absurd cc
past_all (found ∷ founds) (suc place) none = let l = past_all founds place none in omega (arith, l)

-- ---- what is asked for a pair

-- it is among the first that are asked
abbrev pub IsAmongFirst : List Pair → ℕ → Pair → Type 0
IsAmongFirst all count part = (k : ℕ) × (k < count) × (slice_get all k ≡ Some part)

pub none_asked : (search : Search) (all : List Pair) → AreCovered search (IsAmongFirst all 0)
none_asked search all = covered_none search _ (λ part is. absurd (let before = is.1 in omega (arith, before)))

module _ (all : List Pair) (count : ℕ) where
  -- one more was looked at,
  pub one_more_asked : (old new : Search) (one : Pair) → GoesOn old new → slice_get all count ≡ Some one →
      AreCovered old (IsAmongFirst all count) →
      AreCovered new (λ part. part ≡ one) → AreCovered new (IsAmongFirst all (count + 1))
  one_more_asked old new one on at so_far covered =
      covered_fewer new _ _ (λ part is. elim (cases_lt is.0 count) [
        | inl first ↦ inl (is.0, first, is.2)
        | inr last ↦
            let before = is.1 in
            let same : is.0 ≡ count = omega (arith, before, last) in
            let there : slice_get all count ≡ Some part = subst (λ k. slice_get all k ≡ Some part) same is.2 in
            inr cc
      ])
      (covered_both new _ _ (covered_still old new on _ so_far) covered)

  -- or there is none
  pub no_more_asked : (search : Search) → slice_get all count ≡ None → AreCovered search (IsAmongFirst all count)
      → AreCovered search (IsAmongFirst all (count + 1))
  no_more_asked search none so_far = covered_fewer search _ _ (λ part is. elim (cases_lt is.0 count) [
    | inl first ↦ (is.0, first, is.2)
    | inr last ↦
        let before = is.1 in
        let same : is.0 ≡ count = omega (arith, before, last) in
        let there : slice_get all count ≡ Some part = subst (λ k. slice_get all k ≡ Some part) same is.2 in
        absurd cc
  ]) so_far

  pub all_asked : (search : Search) → length all ≤ count
      → AreCovered search (IsAmongFirst all count) → AreCovered search (Contains all)
  all_asked search long so_far = covered_fewer search _ _ (λ part has. (
    has.0,
    (let within = has.1 in omega (arith, within, long)),
    slice_get-get_or all has.0 part has.1 ∙ ap Some has.2,
  )) so_far

-- one pair more is found
module _ (old new : Search) (found : Found) (types : types_in new ≡ types_in old)
    (more : new.found.items ≡ old.found.items ++ found ∷ []) where
  pub one_more_goes_on : GoesOn old new
  one_more_goes_on = record {
    types = types;
    kept = λ place f e. subst (λ fs. slice_get fs place ≡ Some f) (sym more)
        (slice_get-append_left old.found.items (found ∷ []) place f e);
  }

  pub one_more_is_at : IsAt new (count_in old) found.pair
  one_more_is_at = record {
    found = found;
    is_at = subst (λ fs. slice_get fs (count_in old) ≡ Some found) (sym more)
        (at_end old.found.items found (count_in old) refl);
    is_pair = refl;
  }

  was_or_is_new : (place : ℕ) (f : Found) → slice_get new.found.items place ≡ Some f
      → (slice_get old.found.items place ≡ Some f) ⊎ ((place ≡ count_in old) × (f ≡ found))
  was_or_is_new place f e =
      place_in_longer old.found.items found place f (subst (λ fs. slice_get fs place ≡ Some f) more e)

  comes_still : (one : Pair) (from place : ℕ) (step : Step) → (from < place) × ComesFrom old one from step
      → (from < place) × ComesFrom new one from step
  comes_still one from place step (before, come) = (
    before,
    (
      come.0,
      at_still old new one_more_goes_on from come.0 come.1,
      subst (λ forms. IsStep forms step come.0 one) (sym types) come.2,
    ),
  )

  pub one_more_is_search : (added : Bool) →
      MatchBool added (IsPermutation (found.pair ∷ old.seen.keys) new.seen.keys) (new.seen.keys ≡ old.seen.keys) →
      IsSearch old →
      (IsBelow (types_in old) found.pair.left found.pair.right → ⊥) →
      (0 < count_in old → ComesFrom old found.pair found.from found.step) → IsSearch new
  one_more_is_search added put was not_below comes = record {
    not_below = λ place pair at below.
        let before : IsBelow (types_in old) pair.left pair.right =
        subst (λ forms. IsBelow forms pair.left pair.right) types below in
        elim (was_or_is_new place at.found at.is_at) [
          | inl w ↦ was.not_below place pair (record { found = at.found; is_at = w; is_pair = at.is_pair }) before
          | inr w ↦ not_below (subst (λ p. IsBelow (types_in old) p.left p.right)
              (sym at.is_pair ∙ ap (λ f. f.pair) w.1) before)
        ];
    is_linked = λ place f e later. elim (was_or_is_new place f e) [
      | inl w ↦ comes_still f.pair f.from place f.step (was.is_linked place f w later)
      | inr w ↦
          let from = comes (subst (λ n. 0 < n) w.0 later) in
          let before = at_within old found.from from.0 from.1 in
          subst (λ g. (g.from < place) × ComesFrom new g.pair g.from g.step) (sym w.1)
          (subst (λ n. (found.from < n) × ComesFrom new found.pair found.from found.step) (sym w.0)
          (comes_still found.pair found.from (count_in old) found.step (before, from)))
    ];
    seen = all_put (IsFound new) old.seen.keys new.seen.keys found.pair added put (count_in old, one_more_is_at)
        (All-weaker (IsFound old) (IsFound new)
        (λ pair w. (w.0, at_still old new one_more_goes_on w.0 pair w.1)) old.seen.keys was.seen);
  }

-- ---- the end

-- If all that was found needed all that is asked for it, and each of that was found or is below, what was
-- found would be below.
module _ (search : Search) where
  -- what is asked for a pair that was found
  abbrev pub IsAskedFor : Pair → Type 0
  IsAskedFor part =
      (place : ℕ) × (whole : Pair) × IsAt search place whole × Contains (pairs_of (types_in search) whole) part

  module _ (all : (place : ℕ) (whole : Pair) → IsAt search place whole → NeedsAll (types_in search) whole)
      (covered : AreCovered search IsAskedFor) where
    abbrev two : Found → ℕ × ℕ
    two found = (found.pair.left, found.pair.right)

    abbrev pairs : List (ℕ × ℕ)
    pairs = map two search.found.items ++ covered.below

    in_pairs : (place : ℕ) (part : Pair) → IsAt search place part → Contains pairs (part.left, part.right)
    in_pairs place part at =
        let items = search.found.items in
        let has : Contains items at.found =
        (place, at_within search place part at, get_or_from_slice_get items place at.found at.found at.is_at) in
        Contains-append_left (map two items) covered.below (part.left, part.right)
        (subst (λ p. Contains (map two items) (p.left, p.right)) at.is_pair (Contains-mapped two items at.found has))

    asked_in_pairs : (place : ℕ) (whole part : Pair) → IsAt search place whole
        → Contains (pairs_of (types_in search) whole) part → Contains pairs (part.left, part.right)
    asked_in_pairs place whole part at asked = elim (covered.each part (place, whole, at, asked)) [
      | inl w ↦ in_pairs w.0 part w.1
      | inr w ↦ Contains-append_right (map two search.found.items) covered.below (part.left, part.right) w
    ]

    found_supported : (found : Found) → Contains search.found.items found
        → IsSupportedPair (types_in search) pairs found.pair.left found.pair.right
    found_supported found has =
        let at : IsAt search has.0 found.pair = record {
          found = found;
          is_at = slice_get-get_or search.found.items has.0 found has.1 ∙ ap Some has.2;
          is_pair = refl;
        } in
        supported_by_all (types_in search) pairs found.pair.left found.pair.right (all has.0 found.pair at)
        (λ x y asked. asked_in_pairs has.0 found.pair (pair x y) at asked)

    are_simulation : IsSimulation (types_in search) pairs
    are_simulation l r has = elim (Contains-append_cases (map two search.found.items) covered.below (l, r) has) [
      | inl w ↦
          let f = Contains-map two search.found.items (l, r) w in
          subst (λ p. IsSupportedPair (types_in search) pairs p.0 p.1) f.2 (found_supported f.0 f.1)
      | inr w ↦ supported_more (types_in search) covered.below pairs (λ x y k.
          Contains-append_right (map two search.found.items) covered.below (x, y) k) l r (covered.is_simulation l r w)
    ]

    never_ends : IsSearch search → (place : ℕ) (one : Pair) → IsAt search place one → ⊥
    never_ends is place one at = is.not_below place one at
        (record { pairs = pairs; is_simulation = are_simulation; has_pair = in_pairs place one at })

-- the first pairs were followed: all that is asked for them is needed, and was looked at
pub record AreFollowed (search : Search) (count : ℕ) : Type 0 where
  pub needed : (place : ℕ) (whole : Pair) → place < count → IsAt search place whole → NeedsAll (types_in search) whole
  pub covered : AreCovered search (λ part. (place : ℕ) × (whole : Pair) × (place < count) × IsAt search place whole
      × Contains (pairs_of (types_in search) whole) part)

pub none_followed : (search : Search) → AreFollowed search 0
none_followed search = record {
  needed = λ place whole before at. absurd (omega (arith, before));
  covered = covered_none search _ (λ part is. absurd (let before = is.2 in omega (arith, before)));
}

pub one_more_followed : (old new : Search) (count : ℕ) (one : Pair) → GoesOn old new → IsAt old count one →
    NeedsAll (types_in old) one → AreFollowed old count →
    AreCovered new (Contains (pairs_of (types_in old) one)) → AreFollowed new (count + 1)
one_more_followed old new count one on at all followed covered =
    let within = at_within old count one at in
    let at_new = at_still old new on count one at in
    record {
      needed = λ place whole before there. elim (cases_lt place count) [
        | inl first ↦ subst (λ forms. NeedsAll forms whole) (sym on.types)
            (followed.needed place whole first (at_before old new on place whole (omega (arith, first, within)) there))
        | inr last ↦
            let same : place ≡ count = omega (arith, before, last) in
            subst (NeedsAll (types_in new))
            (one_at new count one whole at_new (subst (λ n. IsAt new n whole) same there))
            (subst (λ forms. NeedsAll forms one) (sym on.types) all)
      ];
      covered = covered_fewer new _ _ (λ part is.
          let (place, whole, before, there, asked) = is in
          elim (cases_lt place count) [
            | inl first ↦ inl (
              place,
              whole,
              first,
              at_before old new on place whole (omega (arith, first, within)) there,
              subst (λ forms. Contains (pairs_of forms whole) part) on.types asked,
            )
            | inr last ↦
                let same : place ≡ count = omega (arith, before, last) in
                let it = one_at new count whole one (subst (λ n. IsAt new n whole) same there) at_new in
                inr (subst (λ p. Contains (pairs_of (types_in old) p) part) it
                (subst (λ forms. Contains (pairs_of forms whole) part) on.types asked))
          ])
          (covered_both new _ _ (covered_still old new on _ followed.covered) covered);
    }

-- all that was found cannot have been followed
pub never_all_followed : (search : Search) (count : ℕ) → count_in search ≤ count → AreFollowed search count
    → IsSearch search → (place : ℕ) (one : Pair) → IsAt search place one → ⊥
never_all_followed search count all followed is place one at =
    never_ends search
    (λ there whole at_there. followed.needed there whole
    (let within = at_within search there whole at_there in omega (arith, within, all)) at_there)
    (covered_fewer search _ _ (λ part asked. (
      asked.0,
      asked.1,
      (let within = at_within search asked.0 asked.1 asked.2 in omega (arith, within, all)),
      asked.2,
      asked.3,
    )) followed.covered)
    is place one at
