-- Where a type is below a second one and that is below a third one, the first is below the third.
use Rattle.std.proofs.Common.{◌≡◌, ℕ, zero, suc, ◌<◌, ◌==◌, inl, inr, List, ◌++◌, map, filter, slice_get, Contains}
use Rattle.std.proofs.Common.{Option, None, Some, refl, sym, ap, subst, ◌∙◌, arith}
use Rattle.std.specs.List.{flat_map}
use Rattle.std.specs.Global.{Vec}
use Rattle.std.proofs.lemmas.Bool.{eqb-true, eq-eqb}
use Rattle.std.proofs.lemmas.List.Elements.{Contains-append_left, Contains-append_right, Contains-append_cases}
use Rattle.list_lemmas.proofs.Members.{Contains-filtered, Contains-map, Contains-mapped, filtered_member}
use Rattle.type_order.specs.Fields.{Field, part_of}
use Rattle.type_order.specs.Order.{IsContractive}
use Rattle.type_order.specs.Subtypes.{Base, Bottom, Form, Function, IsBelow, IsRecord, IsSimulation, IsSupportedPair}
use Rattle.type_order.specs.Subtypes.{IsUnion, Record, Top, Union}
use Rattle.type_order.specs.Subtypes.IsSupportedPair.{BottomLeft, TopRight, SameWord, Functions, Records}
use Rattle.type_order.specs.Subtypes.IsSupportedPair.{EachLeft, SomeRight}
use Rattle.type_order.proofs.Apart.{Contains-flat, flat-Contains, supported_more}

-- a record, by its form
pub record_form : (o : Option Form) (fields : List Field) → IsRecord o fields
    → (v : Vec Field) × (o ≡ Some (Record v)) × (v.items ≡ fields)
record_form (Some (Record v)) fields e = (v, refl, e)
record_form (Some (Base w)) fields e = absurd e
record_form (Some Top) fields e = absurd e
record_form (Some Bottom) fields e = absurd e
record_form (Some (Function a b)) fields e = absurd e
record_form (Some (Union v)) fields e = absurd e
record_form None fields e = absurd e

pub union_form : (o : Option Form) (alternatives : List ℕ) → IsUnion o alternatives
    → (v : Vec ℕ) × (o ≡ Some (Union v)) × (v.items ≡ alternatives)
union_form (Some (Union v)) alternatives e = (v, refl, e)
union_form (Some (Base w)) alternatives e = absurd e
union_form (Some Top) alternatives e = absurd e
union_form (Some Bottom) alternatives e = absurd e
union_form (Some (Function a b)) alternatives e = absurd e
union_form (Some (Record v)) alternatives e = absurd e
union_form None alternatives e = absurd e

-- two unions, or records, are the same one
same_vec_union : (o : Option Form) (v w : Vec ℕ) → o ≡ Some (Union v) → o ≡ Some (Union w) → v ≡ w
same_vec_union o v w e f = cc

same_vec_record : (o : Option Form) (v w : Vec Field) → o ≡ Some (Record v) → o ≡ Some (Record w) → v ≡ w
same_vec_record o v w e f = cc

-- the pairs that go on from a pair
abbrev followers : List (ℕ × ℕ) → ℕ × ℕ → List (ℕ × ℕ)
followers pairs p = map (λ q. (p.0, q.1)) (filter (λ q. q.0 == p.1) pairs)

-- two pairs each, one after the other
abbrev composed : List (ℕ × ℕ) → List (ℕ × ℕ)
composed pairs = flat_map (followers pairs) pairs

composed_in : (pairs : List (ℕ × ℕ)) (a b c : ℕ) → Contains pairs (a, b)
    → Contains pairs (b, c) → Contains (composed pairs) (a, c)
composed_in pairs a b c h k =
    Contains-flat (followers pairs) pairs (a, b) (a, c) h
    (Contains-mapped (λ q. (a, q.1)) (filter (λ q. q.0 == b) pairs) (b, c)
    (Contains-filtered (λ q. q.0 == b) pairs (b, c) k (eq-eqb b b refl)))

record Middle (pairs : List (ℕ × ℕ)) (a c : ℕ) : Type 0 where
  middle : ℕ
  lower : Contains pairs (a, middle)
  upper : Contains pairs (middle, c)

composed_of : (pairs : List (ℕ × ℕ)) (a c : ℕ) → Contains (composed pairs) (a, c) → Middle pairs a c
composed_of pairs a c h =
    let w = flat-Contains (followers pairs) pairs (a, c) h in
    let m = Contains-map (λ q. (w.0.0, q.1)) (filter (λ q. q.0 == w.0.1) pairs) (a, c) w.2 in
    let f = filtered_member (λ q. q.0 == w.0.1) pairs m.0 m.1 in
    let at : m.0.0 ≡ w.0.1 = eqb-true m.0.0 w.0.1 f.1 in
    let first : w.0.0 ≡ a = ap (λ p. p.0) m.2 in
    let last : m.0.1 ≡ c = ap (λ p. p.1) m.2 in
    record {
      middle = w.0.1;
      lower = subst (λ x. Contains pairs (x, w.0.1)) first w.1;
      upper = subst (λ x. Contains pairs (x, c)) at (subst (λ y. Contains pairs (m.0.0, y)) last f.0);
    }

module _ (forms : List Form) (contractive : IsContractive forms) (pairs : List (ℕ × ℕ))
    (simulation : IsSimulation forms pairs) where
  abbrev Composed : ℕ → ℕ → Type 0
  Composed a c = IsSupportedPair forms (composed pairs) a c

  over_functions : (a b c x y z w x' y' z' w' : ℕ) → slice_get forms a ≡ Some (Function x y) →
      slice_get forms b ≡ Some (Function z w) → slice_get forms b ≡ Some (Function x' y') →
      slice_get forms c ≡ Some (Function z' w') →
      Contains pairs (z, x) → Contains pairs (y, w) → Contains pairs (z', x') → Contains pairs (y', w') → Composed a c
  over_functions a b c x y z w x' y' z' w' e f g h p q r s =
      let first : z ≡ x' = cc in
      let second : w ≡ y' = cc in
      Functions x y z' w' e h
      (composed_in pairs z' x' x r (subst (λ t. Contains pairs (t, x)) first p))
      (composed_in pairs y y' w' (subst (λ t. Contains pairs (y, t)) second q) s)

  over_records : (a b c : ℕ) (ls ms ns rs : List Field) → IsRecord (slice_get forms a) ls →
      IsRecord (slice_get forms b) ms → IsRecord (slice_get forms b) ns → IsRecord (slice_get forms c) rs →
      ((name y : ℕ) → part_of ms name ≡ Some y → (x : ℕ) × (part_of ls name ≡ Some x) × Contains pairs (x, y)) →
      ((name y : ℕ) → part_of rs name ≡ Some y →
      (x : ℕ) × (part_of ns name ≡ Some x) × Contains pairs (x, y)) → Composed a c
  over_records a b c ls ms ns rs e f g h p q =
      let m = record_form (slice_get forms b) ms f in
      let n = record_form (slice_get forms b) ns g in
      let same : ns ≡ ms = sym n.2 ∙ (ap (λ v. v.items) (same_vec_record (slice_get forms b) n.0 m.0 n.1 m.1) ∙ m.2) in
      Records ls rs e h (λ name z k.
      let y = q name z k in
      let x = p name y.0 (ap (λ fields. part_of fields name) (sym same) ∙ y.1) in
      (x.0, x.1, composed_in pairs x.0 y.0 z x.2 y.2))

  -- unions in the middle are gone through until one is not taken apart
  through : (n a b c : ℕ) → contractive.rank b < n → Contains pairs (a, b) → Contains pairs (b, c)
      → IsSupportedPair forms pairs a b → IsSupportedPair forms pairs b c → Composed a c
  through zero a b c l h k first second = absurd (omega arith)
  through (suc n) a b c l h k (BottomLeft e) second = BottomLeft e
  through (suc n) a b c l h k (EachLeft xs u p) second = EachLeft xs u (λ x m. composed_in pairs x b c (p x m) k)
  through (suc n) a b c l h k first (TopRight f) = TopRight f
  through (suc n) a b c l h k first (SomeRight ys u y m p) = SomeRight ys u y m (composed_in pairs a b y h p)
  through (suc n) a b c l h k (TopRight e) (BottomLeft f) = absurd cc
  through (suc n) a b c l h k (TopRight e) (SameWord w f g) = absurd cc
  through (suc n) a b c l h k (TopRight e) (Functions x y z w f g p q) = absurd cc
  through (suc n) a b c l h k (TopRight e) (Records ls rs f g p) =
      let v = record_form (slice_get forms b) ls f in let is = v.1 in absurd cc
  through (suc n) a b c l h k (TopRight e) (EachLeft xs u p) =
      let v = union_form (slice_get forms b) xs u in let is = v.1 in absurd cc
  through (suc n) a b c l h k (SameWord w e f) (BottomLeft g) = absurd cc
  through (suc n) a b c l h k (SameWord w e f) (SameWord v g i) =
      let same : v ≡ w = cc in SameWord w e (i ∙ ap (λ x. Some (Base x)) same)
  through (suc n) a b c l h k (SameWord w e f) (Functions x y z v g i p q) = absurd cc
  through (suc n) a b c l h k (SameWord w e f) (Records ls rs g i p) =
      let v = record_form (slice_get forms b) ls g in let is = v.1 in absurd cc
  through (suc n) a b c l h k (SameWord w e f) (EachLeft xs u p) =
      let v = union_form (slice_get forms b) xs u in let is = v.1 in absurd cc
  through (suc n) a b c l h k (Functions x y z w e f p q) (BottomLeft g) = absurd cc
  through (suc n) a b c l h k (Functions x y z w e f p q) (SameWord v g i) = absurd cc
  through (suc n) a b c l h k (Functions x y z w e f p q) (Functions x' y' z' w' g i r s) =
      over_functions a b c x y z w x' y' z' w' e f g i p q r s
  through (suc n) a b c l h k (Functions x y z w e f p q) (Records ls rs g i r) =
      let v = record_form (slice_get forms b) ls g in let is = v.1 in absurd cc
  through (suc n) a b c l h k (Functions x y z w e f p q) (EachLeft xs u r) =
      let v = union_form (slice_get forms b) xs u in let is = v.1 in absurd cc
  through (suc n) a b c l h k (Records ls ms e f p) (BottomLeft g) =
      let v = record_form (slice_get forms b) ms f in let is = v.1 in absurd cc
  through (suc n) a b c l h k (Records ls ms e f p) (SameWord w g i) =
      let v = record_form (slice_get forms b) ms f in let is = v.1 in absurd cc
  through (suc n) a b c l h k (Records ls ms e f p) (Functions x y z w g i q r) =
      let v = record_form (slice_get forms b) ms f in let is = v.1 in absurd cc
  through (suc n) a b c l h k (Records ls ms e f p) (Records ns rs g i q) = over_records a b c ls ms ns rs e f g i p q
  through (suc n) a b c l h k (Records ls ms e f p) (EachLeft xs u q) =
      let v = record_form (slice_get forms b) ms f in let is = v.1 in let w = union_form (slice_get forms b) xs u in
      let other = w.1 in absurd cc
  through (suc n) a b c l h k (SomeRight ys u y m p) (BottomLeft f) =
      let v = union_form (slice_get forms b) ys u in let is = v.1 in absurd cc
  through (suc n) a b c l h k (SomeRight ys u y m p) (SameWord w f g) =
      let v = union_form (slice_get forms b) ys u in let is = v.1 in absurd cc
  through (suc n) a b c l h k (SomeRight ys u y m p) (Functions x z w t f g q r) =
      let v = union_form (slice_get forms b) ys u in let is = v.1 in absurd cc
  through (suc n) a b c l h k (SomeRight ys u y m p) (Records ls rs f g q) =
      let v = union_form (slice_get forms b) ys u in let is = v.1 in let w = record_form (slice_get forms b) ls f in
      let other = w.1 in absurd cc
  through (suc n) a b c l h k (SomeRight ys u y m p) (EachLeft zs v q) =
      let first = union_form (slice_get forms b) ys u in
      let second = union_form (slice_get forms b) zs v in
      let same : ys ≡ zs = sym first.2
      ∙ (ap (λ t. t.items) (same_vec_union (slice_get forms b) first.0 second.0 first.1 second.1) ∙ second.2) in
      let on : Contains pairs (y, c) = q y (subst (λ t. Contains t y) same m) in
      let falls : contractive.rank y < contractive.rank b = contractive.falls b ys u y m in
      through n a y c (omega arith) p on (simulation a y p) (simulation y c on)

  composed_simulation : IsSimulation forms (composed pairs)
  composed_simulation a c h =
      let w = composed_of pairs a c h in
      through (suc (contractive.rank w.middle)) a w.middle c (omega arith) w.lower w.upper
      (simulation a w.middle w.lower) (simulation w.middle c w.upper)

module _ (forms : List Form) (some more : List (ℕ × ℕ)) (is_some : IsSimulation forms some)
    (is_more : IsSimulation forms more) where
  -- two simulations are one
  pub both : IsSimulation forms (some ++ more)
  both l r h = elim (Contains-append_cases some more (l, r) h) [
    | inl first ↦ supported_more forms some (some ++ more)
        (λ x y k. Contains-append_left some more (x, y) k) l r (is_some l r first)
    | inr second ↦ supported_more forms more (some ++ more)
        (λ x y k. Contains-append_right some more (x, y) k) l r (is_more l r second)
  ]

pub below_through : (forms : List Form) → IsContractive forms → (a b c : ℕ) → IsBelow forms a b
    → IsBelow forms b c → IsBelow forms a c
below_through forms contractive a b c lower upper =
    let pairs = lower.pairs ++ upper.pairs in
    record {
      pairs = composed pairs;
      is_simulation = composed_simulation forms contractive pairs
          (both forms lower.pairs upper.pairs lower.is_simulation upper.is_simulation);
      has_pair = composed_in pairs a b c (Contains-append_left lower.pairs upper.pairs (a, b) lower.has_pair)
          (Contains-append_right lower.pairs upper.pairs (b, c) upper.has_pair);
    }
