-- The rule is the definition's: what proves a pair supports it, and where a pair is below, so are all or
-- some of its questions.
use Rattle.std.proofs.Common.{◌≡◌, ℕ, ◌==◌, ◌&&◌, inl, inr, Bool, true, false, cond, List, [], ◌∷◌, map, slice_get}
use Rattle.std.proofs.Common.{Contains, Option, None, Some, is_some, refl, sym, ap, ◌∙◌, subst, arith}
use Rattle.std.specs.List.{find}
use Rattle.std.specs.Option.{option_map, unwrap_or}
use Rattle.std.proofs.lemmas.Bool.{cases_Bool, eqb-true, eq-eqb}
use Rattle.list_lemmas.proofs.Members.{Contains-map, Contains-mapped, contains_later, first_or_later}
use Rattle.type_order.specs.Below.{Needs, All, Any, Question, IsWithin, Overlap, Proves}
use Rattle.type_order.specs.Fields.{Field, has_all, part_of}
use Rattle.type_order.specs.Subtypes.{Base, Bottom, Form, Function, IsBelow, IsRecord, IsSimulation, IsSupportedPair}
use Rattle.type_order.specs.Subtypes.{IsUnion, Record, Top, Union}
use Rattle.type_order.specs.Subtypes.IsSupportedPair.{BottomLeft, TopRight, SameWord, Functions, Records}
use Rattle.type_order.specs.Subtypes.IsSupportedPair.{EachLeft, SomeRight}
use Rattle.type_order.specs.Rule.{alternatives_in, asks, Case, case_between, needs_in, NeedsAll, pair, pairs_in}
use Rattle.type_order.specs.Rule.{pairs_of, part_at, record_pairs, BetweenRecords, Fails, Holds}
use Rattle.type_order.specs.declared.delegate.Pair.{Pair}
use Rattle.type_order.proofs.Apart.{part_below}

-- a field that is found is a member
pub part_member : (fields : List Field) (name y : ℕ) → part_of fields name ≡ Some y
    → (field : Field) × Contains fields field × (field.name ≡ name)
part_member [] name y e = absurd cc
part_member (f ∷ fs) name y e = elim (cases_Bool (f.name == name)) [
  | inl is ↦ (f, (0, omega arith, refl), eqb-true f.name name is)
  | inr is ↦
      let w = part_member fs name y
      (subst (λ b. option_map (λ x. x.part) (cond b (Some f) (find (λ x. x.name == name) fs)) ≡ Some y) is e) in
      (w.0, contains_later w.0 f fs w.1, w.2)
]

-- a member's name is found
pub member_part : (fields : List Field) (field : Field) → Contains fields field
    → (y : ℕ) × (part_of fields field.name ≡ Some y)
member_part [] field h = absurd (omega (arith, h.1))
member_part (f ∷ fs) field h = elim (cases_Bool (f.name == field.name)) [
  | inl is ↦ (f.part, rw is refl)
  | inr is ↦ elim (first_or_later f field fs h) [
    | inl same ↦ let e : (f.name == field.name) ≡ true = eq-eqb f.name field.name (ap (λ x. x.name) same) in absurd cc
    | inr later ↦ let w = member_part fs field later in (w.0, rw is w.1)
  ]
]

-- what is there is something
pub found : (o : Option ℕ) → is_some o ≡ true → (x : ℕ) × (o ≡ Some x)
found (Some x) e = (x, refl)
found None e = absurd cc

-- each field has its fellow
pub all_found : (ls rs : List Field) (field : Field) → has_all ls rs ≡ true → Contains rs field
    → is_some (part_of ls field.name) ≡ true
all_found ls [] field e h = absurd (omega (arith, h.1))
all_found ls (f ∷ fs) field e h = elim (cases_Bool (is_some (part_of ls f.name))) [
  | inl is ↦ elim (first_or_later f field fs h) [
    | inl same ↦ subst (λ x. is_some (part_of ls x.name) ≡ true) same is
    | inr later ↦ all_found ls fs field (subst (λ b. (b && has_all ls fs) ≡ true) is e) later
  ]
  | inr is ↦ let never : (false && has_all ls fs) ≡ true = subst (λ b. (b && has_all ls fs) ≡ true) is e in absurd cc
]

find_all : (ls rs : List Field)
    → ((field : Field) → Contains rs field → is_some (part_of ls field.name) ≡ true) → has_all ls rs ≡ true
find_all ls [] h = refl
find_all ls (f ∷ fs) h =
    let here : is_some (part_of ls f.name) ≡ true = h f (0, omega arith, refl) in
    rw here (find_all ls fs (λ field k. h field (contains_later field f fs k)))

module _ (forms : List Form) where
  -- all of the pairs are below, or some is
  abbrev pub Follows : Needs → List Pair → Type 0
  Follows All asked = (q : Pair) → Contains asked q → IsBelow forms q.left q.right
  Follows Any asked = (q : Pair) × Contains asked q × IsBelow forms q.left q.right

  module _ (l r : ℕ) where
    abbrev FollowsBy : Case → Option Form → Option Form → Type 0
    FollowsBy case o p = Follows (needs_in case) (pairs_in case (pair l r) o p)

    abbrev FollowsIn : Option Form → Option Form → Type 0
    FollowsIn o p = FollowsBy (case_between o p) o p

    none : (q : Pair) → Contains [] q → IsBelow forms q.left q.right
    none q h = absurd (omega (arith, h.1))

    follows_bottom : (p : Option Form) → FollowsIn (Some Bottom) p
    follows_bottom p = none

    follows_top : (o : Option Form) → FollowsIn o (Some Top)
    follows_top (Some (Base w)) = none
    follows_top (Some Top) = none
    follows_top (Some Bottom) = none
    follows_top (Some (Function a b)) = none
    follows_top (Some (Record v)) = none
    follows_top (Some (Union v)) = none
    follows_top None = none

    each_below : (xs : List ℕ) → ((x : ℕ) → Contains xs x → IsBelow forms x r) → (q : Pair)
        → Contains (map (λ x. pair x r) xs) q → IsBelow forms q.left q.right
    each_below xs h q k =
        let w = Contains-map (λ x. pair x r) xs q k in subst (λ t. IsBelow forms t.left t.right) w.2 (h w.0 w.1)

    follows_left : (o p : Option Form) (xs : List ℕ) → IsUnion o xs
        → ((x : ℕ) → Contains (alternatives_in o) x → IsBelow forms x r) → FollowsIn o p
    follows_left (Some (Union v)) (Some Top) xs u h = none
    follows_left (Some (Union v)) (Some Bottom) xs u h = each_below v.items h
    follows_left (Some (Union v)) (Some (Base w)) xs u h = each_below v.items h
    follows_left (Some (Union v)) (Some (Function a b)) xs u h = each_below v.items h
    follows_left (Some (Union v)) (Some (Record w)) xs u h = each_below v.items h
    follows_left (Some (Union v)) (Some (Union w)) xs u h = each_below v.items h
    follows_left (Some (Union v)) None xs u h = each_below v.items h
    follows_left (Some (Base w)) p xs u h = absurd u
    follows_left (Some Top) p xs u h = absurd u
    follows_left (Some Bottom) p xs u h = absurd u
    follows_left (Some (Function a b)) p xs u h = absurd u
    follows_left (Some (Record v)) p xs u h = absurd u
    follows_left None p xs u h = absurd u

    some_below : (ys : List ℕ) (y : ℕ) → Contains ys y → IsBelow forms l y
        → (q : Pair) × Contains (map (λ z. pair l z) ys) q × IsBelow forms q.left q.right
    some_below ys y k h = (pair l y, Contains-mapped (λ z. pair l z) ys y k, h)

    -- the left type is taken apart first, which its alternatives allow
    follows_right : (o p : Option Form) (ys : List ℕ) (y : ℕ) → IsUnion p ys → Contains ys y → IsBelow forms l y
        → ((x : ℕ) → Contains (alternatives_in o) x → IsBelow forms x r) → FollowsIn o p
    follows_right (Some Bottom) p ys y u k h parts = none
    follows_right (Some (Union w)) (Some (Union v)) ys y u k h parts = each_below w.items parts
    follows_right (Some (Base w)) (Some (Union v)) ys y u k h parts =
        some_below v.items y (subst (λ zs. Contains zs y) (sym u) k) h
    follows_right (Some Top) (Some (Union v)) ys y u k h parts =
        some_below v.items y (subst (λ zs. Contains zs y) (sym u) k) h
    follows_right (Some (Function a b)) (Some (Union v)) ys y u k h parts =
        some_below v.items y (subst (λ zs. Contains zs y) (sym u) k) h
    follows_right (Some (Record w)) (Some (Union v)) ys y u k h parts =
        some_below v.items y (subst (λ zs. Contains zs y) (sym u) k) h
    follows_right None (Some (Union v)) ys y u k h parts =
        some_below v.items y (subst (λ zs. Contains zs y) (sym u) k) h
    follows_right o (Some (Base w)) ys y u k h parts = absurd u
    follows_right o (Some Top) ys y u k h parts = absurd u
    follows_right o (Some Bottom) ys y u k h parts = absurd u
    follows_right o (Some (Function a b)) ys y u k h parts = absurd u
    follows_right o (Some (Record v)) ys y u k h parts = absurd u
    follows_right o None ys y u k h parts = absurd u

    follows_word : (word : ℕ) → FollowsIn (Some (Base word)) (Some (Base word))
    follows_word word =
        let same : (word == word) ≡ true = eq-eqb word word refl in
        subst (λ b. FollowsBy (cond b Holds Fails) (Some (Base word)) (Some (Base word))) (sym same) none

    two_below : (a b c d : ℕ) → IsBelow forms c a → IsBelow forms b d → (q : Pair)
        → Contains (pair c a ∷ pair b d ∷ []) q → IsBelow forms q.left q.right
    two_below a b c d h k q m = elim (first_or_later (pair c a) q (pair b d ∷ []) m) [
      | inl e ↦ subst (λ t. IsBelow forms t.left t.right) e h
      | inr later ↦ elim (first_or_later (pair b d) q [] later) [
        | inl e ↦ subst (λ t. IsBelow forms t.left t.right) e k
        | inr last ↦ none q last
      ]
    ]

    follows_functions : (a b c d : ℕ) → IsBelow forms c a → IsBelow forms b d
        → FollowsIn (Some (Function a b)) (Some (Function c d))
    follows_functions a b c d h k = two_below a b c d h k

    -- the fields of the right record have their fellows below them
    abbrev AreFellows : List Field → List Field → Type 0
    AreFellows ls rs =
        (name y : ℕ) → part_of rs name ≡ Some y → (x : ℕ) × (part_of ls name ≡ Some x) × IsBelow forms x y

    fields_below : (ls rs : List Field) → AreFellows ls rs → (q : Pair)
        → Contains (record_pairs ls rs) q → IsBelow forms q.left q.right
    fields_below ls rs h q k =
        let w = Contains-map (λ field. pair (part_at ls field.name) (part_at rs field.name)) rs q k in
        let y = member_part rs w.0 w.1 in
        let x = h w.0.name y.0 y.1 in
        let right : y.0 ≡ part_at rs w.0.name = sym (ap (λ o. unwrap_or o 0) y.1) in
        let left : x.0 ≡ part_at ls w.0.name = sym (ap (λ o. unwrap_or o 0) x.1) in
        subst (λ t. IsBelow forms t.left t.right) w.2
        (subst (λ a. IsBelow forms a (part_at rs w.0.name)) left (subst (λ b. IsBelow forms x.0 b) right x.2))

    fellows_found : (ls rs : List Field) → AreFellows ls rs → has_all ls rs ≡ true
    fellows_found ls rs h =
        find_all ls rs (λ field k. let y = member_part rs field k in let x = h field.name y.0 y.1 in ap is_some x.1)

    follows_records : (o p : Option Form) (ls rs : List Field) → IsRecord o ls
        → IsRecord p rs → AreFellows ls rs → FollowsIn o p
    follows_records (Some (Record v)) (Some (Record w)) ls rs e f h =
        let own : AreFellows v.items w.items =
        subst (λ xs. AreFellows xs w.items) (sym e) (subst (λ ys. AreFellows ls ys) (sym f) h) in
        subst (λ b. FollowsBy (cond b BetweenRecords Fails) (Some (Record v)) (Some (Record w)))
        (sym (fellows_found v.items w.items own)) (fields_below v.items w.items own)
    follows_records (Some (Record v)) (Some (Base w)) ls rs e f h = absurd f
    follows_records (Some (Record v)) (Some Top) ls rs e f h = absurd f
    follows_records (Some (Record v)) (Some Bottom) ls rs e f h = absurd f
    follows_records (Some (Record v)) (Some (Function a b)) ls rs e f h = absurd f
    follows_records (Some (Record v)) (Some (Union w)) ls rs e f h = absurd f
    follows_records (Some (Record v)) None ls rs e f h = absurd f
    follows_records (Some (Base w)) p ls rs e f h = absurd e
    follows_records (Some Top) p ls rs e f h = absurd e
    follows_records (Some Bottom) p ls rs e f h = absurd e
    follows_records (Some (Function a b)) p ls rs e f h = absurd e
    follows_records (Some (Union v)) p ls rs e f h = absurd e
    follows_records None p ls rs e f h = absurd e

  module _ (pairs : List (ℕ × ℕ)) (simulation : IsSimulation forms pairs) where
    here : (l r : ℕ) → Contains pairs (l, r) → IsBelow forms l r
    here l r h = record { pairs = pairs; is_simulation = simulation; has_pair = h }

    follows_at : (l r : ℕ) → Contains pairs (l, r) → IsSupportedPair forms pairs l r
        → FollowsIn l r (slice_get forms l) (slice_get forms r)
    follows_at l r h (BottomLeft e) =
        subst (λ o. FollowsIn l r o (slice_get forms r)) (sym e) (follows_bottom l r (slice_get forms r))
    follows_at l r h (TopRight f) =
        subst (λ p. FollowsIn l r (slice_get forms l) p) (sym f) (follows_top l r (slice_get forms l))
    follows_at l r h (SameWord word e f) =
        subst (λ o. FollowsIn l r o (slice_get forms r)) (sym e)
        (subst (λ p. FollowsIn l r (Some (Base word)) p) (sym f) (follows_word l r word))
    follows_at l r h (Functions a b c d e f p q) =
        subst (λ o. FollowsIn l r o (slice_get forms r)) (sym e) (subst (λ t. FollowsIn l r (Some (Function a b)) t)
        (sym f) (follows_functions l r a b c d (here c a p) (here b d q)))
    follows_at l r h (Records ls rs e f p) =
        follows_records l r (slice_get forms l) (slice_get forms r) ls rs e f
        (λ name y k. let w = p name y k in (w.0, w.1, here w.0 y w.2))
    follows_at l r h (EachLeft xs u p) =
        follows_left l r (slice_get forms l) (slice_get forms r) xs u
        (λ x k. part_below forms pairs simulation l r x h k)
    follows_at l r h (SomeRight ys u y k p) =
        follows_right l r (slice_get forms l) (slice_get forms r) ys y u k (here l y p)
        (λ x m. part_below forms pairs simulation l r x h m)

  -- what the questions of a pair that is below come to
  pub follows : (l r : ℕ) → IsBelow forms l r
      → Follows (needs_in (case_between (slice_get forms l) (slice_get forms r))) (pairs_in
      (case_between (slice_get forms l) (slice_get forms r)) (pair l r) (slice_get forms l) (slice_get forms r))
  follows l r below =
      follows_at below.pairs below.is_simulation l r below.has_pair (below.is_simulation l r below.has_pair)

  module _ (pairs : List (ℕ × ℕ)) (l r : ℕ) (held : List (Question Pair))
      (into : (x y : ℕ) → Contains held (asks (pair x y)) → Contains pairs (x, y)) where
    abbrev ProvesBy : Case → Option Form → Option Form → Type 0
    ProvesBy case o p = Proves (needs_in case) (map asks (pairs_in case (pair l r) o p)) held

    held_pair : (asked : List Pair) → IsWithin (map asks asked) held → (x y : ℕ)
        → Contains asked (pair x y) → Contains pairs (x, y)
    held_pair asked within x y h = into x y (within (asks (pair x y)) (Contains-mapped asks asked (pair x y) h))

    nothing : Overlap (map asks []) held → ⊥
    nothing h = omega (arith, h.1.1)

    left_supported : (xs : List ℕ) → IsUnion (slice_get forms l) xs
        → IsWithin (map asks (map (λ x. pair x r) xs)) held → IsSupportedPair forms pairs l r
    left_supported xs u within =
        EachLeft xs u (λ x h. held_pair (map (λ z. pair z r) xs) within x r (Contains-mapped (λ z. pair z r) xs x h))

    right_supported : (ys : List ℕ) → IsUnion (slice_get forms r) ys
        → Overlap (map asks (map (λ y. pair l y) ys)) held → IsSupportedPair forms pairs l r
    right_supported ys u some =
        let w = Contains-map asks (map (λ y. pair l y) ys) some.0 some.1 in
        let v = Contains-map (λ y. pair l y) ys w.0 w.1 in
        SomeRight ys u v.0 v.1 (into l v.0 (subst (Contains held) (sym (ap asks v.2 ∙ w.2)) some.2))

    base_supported : (v w : ℕ) (b : Bool) → (v == w) ≡ b
        → slice_get forms l ≡ Some (Base v) → slice_get forms r ≡ Some (Base w)
        → ProvesBy (cond b Holds Fails) (Some (Base v)) (Some (Base w)) → IsSupportedPair forms pairs l r
    base_supported v w true is e f h = SameWord v e (f ∙ ap (λ x. Some (Base x)) (sym (eqb-true v w is)))
    base_supported v w false is e f h = absurd (nothing h)

    function_supported : (a b c d : ℕ) → slice_get forms l ≡ Some (Function a b)
        → slice_get forms r ≡ Some (Function c d)
        → IsWithin (map asks (pair c a ∷ pair b d ∷ [])) held → IsSupportedPair forms pairs l r
    function_supported a b c d e f within =
        Functions a b c d e f (held_pair (pair c a ∷ pair b d ∷ []) within c a (0, omega arith, refl))
        (held_pair (pair c a ∷ pair b d ∷ []) within b d (1, omega arith, refl))

    record_supported : (ls rs : List Field) → IsRecord (slice_get forms l) ls → IsRecord (slice_get forms r) rs
        → has_all ls rs ≡ true → IsWithin (map asks (record_pairs ls rs)) held → IsSupportedPair forms pairs l r
    record_supported ls rs e f all within = Records ls rs e f (λ name y k.
        let m = part_member rs name y k in
        let g = found (part_of ls m.0.name) (all_found ls rs m.0 all m.1) in
        let right : part_at rs m.0.name ≡ y = ap (λ n. part_at rs n) m.2 ∙ ap (λ o. unwrap_or o 0) k in
        let left : part_at ls m.0.name ≡ g.0 = ap (λ o. unwrap_or o 0) g.1 in
        let c = held_pair (record_pairs ls rs) within (part_at ls m.0.name) (part_at rs m.0.name)
        (Contains-mapped (λ field. pair (part_at ls field.name) (part_at rs field.name)) rs m.0 m.1) in (
          g.0,
          ap (part_of ls) (sym m.2) ∙ g.1,
          subst (λ a. Contains pairs (a, y)) left (subst (λ b. Contains pairs (part_at ls m.0.name, b)) right c),
        ))

    supported_by : (o p : Option Form) → slice_get forms l ≡ o → slice_get forms r ≡ p
        → ProvesBy (case_between o p) o p → IsSupportedPair forms pairs l r
    supported_by (Some Bottom) p e f h = BottomLeft e
    supported_by o (Some Top) e f h = TopRight f
    supported_by (Some (Union v)) (Some (Base w)) e f h =
        left_supported v.items (subst (λ t. IsUnion t v.items) (sym e) refl) h
    supported_by (Some (Union v)) (Some Bottom) e f h =
        left_supported v.items (subst (λ t. IsUnion t v.items) (sym e) refl) h
    supported_by (Some (Union v)) (Some (Function a b)) e f h =
        left_supported v.items (subst (λ t. IsUnion t v.items) (sym e) refl) h
    supported_by (Some (Union v)) (Some (Record w)) e f h =
        left_supported v.items (subst (λ t. IsUnion t v.items) (sym e) refl) h
    supported_by (Some (Union v)) (Some (Union w)) e f h =
        left_supported v.items (subst (λ t. IsUnion t v.items) (sym e) refl) h
    supported_by (Some (Union v)) None e f h = left_supported v.items (subst (λ t. IsUnion t v.items) (sym e) refl) h
    supported_by (Some (Base w)) (Some (Union v)) e f h =
        right_supported v.items (subst (λ t. IsUnion t v.items) (sym f) refl) h
    supported_by (Some Top) (Some (Union v)) e f h =
        right_supported v.items (subst (λ t. IsUnion t v.items) (sym f) refl) h
    supported_by (Some (Function a b)) (Some (Union v)) e f h =
        right_supported v.items (subst (λ t. IsUnion t v.items) (sym f) refl) h
    supported_by (Some (Record w)) (Some (Union v)) e f h =
        right_supported v.items (subst (λ t. IsUnion t v.items) (sym f) refl) h
    supported_by None (Some (Union v)) e f h = right_supported v.items (subst (λ t. IsUnion t v.items) (sym f) refl) h
    supported_by (Some (Base v)) (Some (Base w)) e f h = base_supported v w (v == w) refl e f h
    supported_by (Some (Function a b)) (Some (Function c d)) e f h = function_supported a b c d e f h
    supported_by (Some (Record v)) (Some (Record w)) e f h = records_at (has_all v.items w.items) refl h
      where
        records_at : (b : Bool) → has_all v.items w.items ≡ b
            → ProvesBy (cond b BetweenRecords Fails) (Some (Record v)) (Some (Record w))
            → IsSupportedPair forms pairs l r
        records_at true is h = record_supported v.items w.items (subst (λ t. IsRecord t v.items) (sym e) refl)
            (subst (λ t. IsRecord t w.items) (sym f) refl) is h
        records_at false is h = absurd (nothing h)
    supported_by o p e f h = absurd (nothing h)

  -- what proves a pair supports it
  pub supported : (pairs : List (ℕ × ℕ)) (l r : ℕ) (held : List (Question Pair)) →
      ((x y : ℕ) → Contains held (asks (pair x y)) → Contains pairs (x, y)) →
      Proves (needs_in (case_between (slice_get forms l) (slice_get forms r)))
      (map asks (pairs_in (case_between (slice_get forms l) (slice_get forms r)) (pair l r) (slice_get forms l)
      (slice_get forms r))) held → IsSupportedPair forms pairs l r
  supported pairs l r held into h = supported_by pairs l r held into (slice_get forms l) (slice_get forms r) refl refl h

  -- so do pairs that have all that is asked for it, where all is needed
  pub supported_by_all : (pairs : List (ℕ × ℕ)) (l r : ℕ) → NeedsAll forms (pair l r) →
      ((x y : ℕ) → Contains (pairs_of forms (pair l r)) (pair x y) → Contains pairs (x, y)) →
      IsSupportedPair forms pairs l r
  supported_by_all pairs l r all into =
      let asked = pairs_of forms (pair l r) in
      supported pairs l r (map asks asked)
      (λ x y h.
      let w = Contains-map asks asked (asks (pair x y)) h in
      into x y (subst (Contains asked) (ap (λ q. q.goal) w.2) w.1))
      (subst (λ needs. Proves needs (map asks asked) (map asks asked)) (sym all) (λ q h. h))
