-- No question leads out of the pairs of a table's numbers, and a search can be as deep as these are many.
use Rattle.std.proofs.Common.{◌≡◌, ℕ, ◌+◌, ◌*◌, ◌≤◌, inl, inr, List, [], ◌∷◌, map, length, slice_get, sum_by, All}
use Rattle.std.proofs.Common.{Contains, Option, None, Some, refl, sym, ap, subst, ◌∙◌, arith}
use Rattle.std.specs.List.{flat_map, range_with_len}
use Rattle.std.specs.Option.{unwrap_or}
use Rattle.std.proofs.Math.Nat.{mul-le-mul_right}
use Rattle.std.proofs.lemmas.List.{length-append, length-map}
use Rattle.std.proofs.lemmas.List.Concat.{length-flat_map}
use Rattle.std.proofs.lemmas.List.Elements.{All-contains_itself, All-weaker}
use Rattle.std.proofs.lemmas.List.Elements.{Contains-append_left, Contains-append_right}
use Rattle.std.proofs.lemmas.List.FromFn.{get_or-range_with_len, length-range_with_len}
use Rattle.std.proofs.lemmas.List.Sums.{sum_by-le}
use Rattle.list_lemmas.proofs.Members.{Contains-map, Contains-mapped, first_or_later}
use Rattle.question_lists.specs.Told.{Contains-at}
use Rattle.question_lists.proofs.Ranked.{asked_of, scripts}
use Rattle.type_order.specs.Below.{AsksOnly, Coinductive, IsEnclosed, NoQuestionLeadsOut}
use Rattle.type_order.specs.Fields.{Field, part_of}
use Rattle.type_order.specs.Pairs.{askable, each_pair, numbers_of}
use Rattle.type_order.specs.Parts.{all_parts, extent_of, parts_of}
use Rattle.type_order.specs.Rule.{alternatives_in, asks, Case, case_of, fields_in, function_pairs, needs_of, pair}
use Rattle.type_order.specs.Rule.{pairs_in, pairs_of, part_at, parts_in, questions_of, BetweenFunctions, BetweenRecords}
use Rattle.type_order.specs.Rule.{Fails, Holds, SplitsLeft, SplitsRight}
use Rattle.type_order.specs.Subtypes.{Base, Bottom, Form, forms_of, Function, Record, Top, Union}
use Rattle.type_order.specs.declared.delegate.Pair.{Pair}
use Rattle.type_order.specs.declared.types.Types.{Types}
use Rattle.type_order.proofs.Apart.{Contains-flat, flat-Contains}
use Rattle.type_order.proofs.Reflexive.{part_in}

-- a pair of two of the numbers is among all pairs of them,
pub pair_among : (numbers : List ℕ) (l r : ℕ) → Contains numbers l → Contains numbers r
    → Contains (each_pair numbers) (pair l r)
pair_among numbers l r left right = Contains-flat (λ x. map (λ y. pair x y) numbers) numbers l (pair l r) left
    (Contains-mapped (λ y. pair l y) numbers r right)

-- and both numbers of such a pair are among them
pub both_among : (numbers : List ℕ) (p : Pair) → Contains (each_pair numbers) p
    → Contains numbers p.left × Contains numbers p.right
both_among numbers p h =
    let w = flat-Contains (λ x. map (λ y. pair x y) numbers) numbers p h in
    let m = Contains-map (λ y. pair w.0 y) numbers p w.2 in
    (subst (Contains numbers) (ap (λ q. q.left) m.2) w.1, subst (Contains numbers) (ap (λ q. q.right) m.2) m.1)

-- they are as many as the square says, at most
each_within : (numbers : List ℕ) → length (each_pair numbers) ≤ length numbers * length numbers
each_within numbers =
    let row : ℕ → List Pair = λ x. map (λ y. pair x y) numbers in
    let size : length (flat_map row numbers) ≡ sum_by (λ x. length (row x)) numbers = length-flat_map row numbers in
    let rows : All (λ x. length (row x) ≤ length numbers) numbers =
    All-weaker (Contains numbers) (λ x. length (row x) ≤ length numbers)
    (λ x _. let e : length (row x) ≡ length numbers = length-map numbers (λ y. pair x y) in omega (arith, e))
    numbers (All-contains_itself numbers) in
    let total : sum_by (λ x. length (row x)) numbers ≤ length numbers * length numbers =
    sum_by-le (λ x. length (row x)) (length numbers) numbers rows in
    subst (λ n. n ≤ length numbers * length numbers) (sym size) total

module _ (forms : List Form) where
  -- each number up to that of the types is one of the table's,
  pub has_number : (x : ℕ) → x ≤ length forms → Contains (numbers_of forms) x
  has_number x l =
      Contains-append_left (range_with_len 0 (length forms + 1)) (all_parts forms) x (
        x,
        (let e : length (range_with_len 0 (length forms + 1)) ≡ length forms + 1 =
            length-range_with_len 0 (length forms + 1) in
            omega (arith, e)),
        get_or-range_with_len 0 (length forms + 1) x x (omega arith) ∙ omega arith,
      )

  -- and so is each part of a type
  has_part : (n : ℕ) (form : Form) (x : ℕ) → slice_get forms n ≡ Some form
      → Contains (parts_of form) x → Contains (numbers_of forms) x
  has_part n form x e h = Contains-append_right (range_with_len 0 (length forms + 1)) (all_parts forms) x
      (Contains-flat parts_of forms form x (Contains-at forms n form e) h)

  alternative : (n x : ℕ) (o : Option Form) → slice_get forms n ≡ o
      → Contains (alternatives_in o) x → Contains (numbers_of forms) x
  alternative n x (Some (Union v)) e h = has_part n (Union v) x e h
  alternative n x (Some (Base w)) e h = absurd (omega (arith, h.1))
  alternative n x (Some Top) e h = absurd (omega (arith, h.1))
  alternative n x (Some Bottom) e h = absurd (omega (arith, h.1))
  alternative n x (Some (Function a b)) e h = absurd (omega (arith, h.1))
  alternative n x (Some (Record v)) e h = absurd (omega (arith, h.1))
  alternative n x None e h = absurd (omega (arith, h.1))

  -- so is what a record has at a name, be it there or not,
  field_in : (n name : ℕ) (form : Form) (fields : List Field) (o : Option ℕ) → slice_get forms n ≡ Some form
      → parts_of form ≡ map (λ field. field.part) fields → part_of fields name ≡ o
      → Contains (numbers_of forms) (unwrap_or o 0)
  field_in n name form fields None e own is = has_number 0 (omega arith)
  field_in n name form fields (Some y) e own is =
      has_part n form y e (subst (λ xs. Contains xs y) (sym own) (part_in fields name y is))

  field : (n name : ℕ) (o : Option Form) → slice_get forms n ≡ o
      → Contains (numbers_of forms) (part_at (fields_in o) name)
  field n name (Some (Record v)) e = field_in n name (Record v) v.items (part_of v.items name) e refl refl
  field n name (Some (Base w)) e = has_number 0 (omega arith)
  field n name (Some Top) e = has_number 0 (omega arith)
  field n name (Some Bottom) e = has_number 0 (omega arith)
  field n name (Some (Function a b)) e = has_number 0 (omega arith)
  field n name (Some (Union v)) e = has_number 0 (omega arith)
  field n name None e = has_number 0 (omega arith)

  -- and so are the parts of a function
  abbrev BothAre : Option (ℕ × ℕ) → Type 0
  BothAre None = Unit {0}
  BothAre (Some w) = Contains (numbers_of forms) w.0 × Contains (numbers_of forms) w.1

  both_parts : (n : ℕ) (o : Option Form) → slice_get forms n ≡ o → BothAre (parts_in o)
  both_parts n (Some (Function a b)) e =
      (has_part n (Function a b) a e (0, omega arith, refl), has_part n (Function a b) b e (1, omega arith, refl))
  both_parts n (Some (Base w)) e = tt
  both_parts n (Some Top) e = tt
  both_parts n (Some Bottom) e = tt
  both_parts n (Some (Record v)) e = tt
  both_parts n (Some (Union v)) e = tt
  both_parts n None e = tt

  is_askable : (l r : ℕ) → Contains (numbers_of forms) l → Contains (numbers_of forms) r
      → Contains (askable forms) (pair l r)
  is_askable l r left right = pair_among (numbers_of forms) l r left right

  function_asks : (o q : Option (ℕ × ℕ)) → BothAre o → BothAre q → (p : Pair)
      → Contains (function_pairs o q) p → Contains (askable forms) p
  function_asks None q h k p has = absurd (omega (arith, has.1))
  function_asks (Some w) None h k p has = absurd (omega (arith, has.1))
  function_asks (Some w) (Some v) h k p has = elim (first_or_later (pair v.0 w.0) p (pair w.1 v.1 ∷ []) has) [
    | inl is ↦ subst (Contains (askable forms)) is (is_askable v.0 w.0 k.0 h.0)
    | inr later ↦ elim (first_or_later (pair w.1 v.1) p [] later) [
      | inl is ↦ subst (Contains (askable forms)) is (is_askable w.1 v.1 h.1 k.1)
      | inr none ↦ absurd (omega (arith, none.1))
    ]
  ]

  -- a pair that may be asked asks such pairs alone
  asks_askable : (case : Case) (goal : Pair) → Contains (askable forms) goal → (p : Pair)
      → Contains (pairs_in case goal (slice_get forms goal.left) (slice_get forms goal.right)) p
      → Contains (askable forms) p
  asks_askable Holds goal h p has = absurd (omega (arith, has.1))
  asks_askable Fails goal h p has = absurd (omega (arith, has.1))
  asks_askable SplitsLeft goal h p has =
      let m = Contains-map (λ x. pair x goal.right) (alternatives_in (slice_get forms goal.left)) p has in
      subst (Contains (askable forms)) m.2 (is_askable m.0 goal.right
      (alternative goal.left m.0 (slice_get forms goal.left) refl m.1) (both_among (numbers_of forms) goal h).1)
  asks_askable SplitsRight goal h p has =
      let m = Contains-map (λ y. pair goal.left y) (alternatives_in (slice_get forms goal.right)) p has in
      subst (Contains (askable forms)) m.2 (is_askable goal.left m.0 (both_among (numbers_of forms) goal h).0
      (alternative goal.right m.0 (slice_get forms goal.right) refl m.1))
  asks_askable BetweenFunctions goal h p has =
      function_asks (parts_in (slice_get forms goal.left)) (parts_in (slice_get forms goal.right))
      (both_parts goal.left (slice_get forms goal.left) refl)
      (both_parts goal.right (slice_get forms goal.right) refl) p has
  asks_askable BetweenRecords goal h p has =
      let ls = fields_in (slice_get forms goal.left) in
      let rs = fields_in (slice_get forms goal.right) in
      let m = Contains-map (λ field. pair (part_at ls field.name) (part_at rs field.name)) rs p has in
      subst (Contains (askable forms)) m.2
      (is_askable (part_at ls m.0.name) (part_at rs m.0.name)
      (field goal.left m.0.name (slice_get forms goal.left) refl)
      (field goal.right m.0.name (slice_get forms goal.right) refl))

  -- no question leads out of them
  pub none_leads_out : NoQuestionLeadsOut (scripts (needs_of forms) (questions_of forms)) (askable forms)
  none_leads_out goal h replies kind asked fits e =
      let q = asked_of (needs_of forms) (questions_of forms) goal replies (record { kind = kind; goal = asked }) e in
      let m = Contains-map asks (pairs_of forms goal) (record { kind = kind; goal = asked }) q in
      asks_askable (case_of forms goal) goal h asked (subst (Contains (pairs_of forms goal)) (ap (λ q. q.goal) m.2) m.1)

  -- each question is asked coinductively
  pub all_coinductive : (goal : Pair)
      → AsksOnly (λ kind asked. kind ≡ Coinductive) (scripts (needs_of forms) (questions_of forms) goal)
  all_coinductive goal replies kind asked fits e =
      let q = asked_of (needs_of forms) (questions_of forms) goal replies (record { kind = kind; goal = asked }) e in
      let m = Contains-map asks (pairs_of forms goal) (record { kind = kind; goal = asked }) q in
      sym (ap (λ q. q.kind) m.2)

  how_many : length (numbers_of forms) ≡ extent_of forms + 1
  how_many =
      let e : length (numbers_of forms) ≡ length (range_with_len 0 (length forms + 1)) + length (all_parts forms) =
      length-append (range_with_len 0 (length forms + 1)) (all_parts forms) in
      let n : length (range_with_len 0 (length forms + 1)) ≡ length forms + 1 =
      length-range_with_len 0 (length forms + 1) in
      omega (arith, e, n)

square_within : (n : ℕ) → n ≤ 4294967295 → n * n ≤ 18446744073709551615
square_within n l =
    let less : n * n ≤ 4294967295 * n = mul-le-mul_right n l in
    omega (arith, less, l)

-- there is depth enough for all of them, whatever the types are
pub enclosed : (types : Types) (l r : ℕ) → l ≤ length (forms_of types) → r ≤ length (forms_of types) →
    IsEnclosed (scripts (needs_of (forms_of types)) (questions_of (forms_of types)))
    (askable (forms_of types)) 18446744073709551615 (pair l r)
enclosed types l r left right = record {
  within = is_askable (forms_of types) l r (has_number (forms_of types) l left) (has_number (forms_of types) r right);
  closed = none_leads_out (forms_of types);
  fits =
      let many = each_within (numbers_of (forms_of types)) in
      let n = how_many (forms_of types) in
      let size : types.extent ≡ extent_of (forms_of types) = types.counted in
      let most : types.extent ≤ 4294967294 = types.within in
      let square = square_within (length (numbers_of (forms_of types))) (omega (arith, n, size, most)) in
      omega (arith, many, square);
}
