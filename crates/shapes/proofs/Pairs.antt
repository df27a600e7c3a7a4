-- The questions of a pair, by the parts of both shapes.
use Rattle.std.proofs.Common.{◌≡◌, ℕ, zero, suc, ◌<◌, ◌≤◌, ◌==◌, ◌&&◌, Bool, true, false, cond, List, [], ◌∷◌, length}
use Rattle.std.proofs.Common.{slice_get, get_or, Contains, Option, None, Some, refl, sym, ap, ap₂, ◌∙◌, subst, arith}
use Rattle.std.specs.Option.{unwrap_or}
use Rattle.std.proofs.lemmas.Bool.{eqb-true, eq-eqb}
use Rattle.std.proofs.lemmas.List.Sums.{get_or-le-sum_by}
use Rattle.std.proofs.lemmas.Option.{slice_get_within, get_or_from_slice_get}
use Rattle.question_lists.specs.Told.{at-Contains}
use Rattle.shapes.specs.Below.{Coinductive, Question}
use Rattle.shapes.specs.Bisimulation.{Equation}
use Rattle.shapes.specs.Rule.{asks, asks_each, matched_parts, most_parts, pair_of, parts_at, parts_in, questions_in}
use Rattle.shapes.specs.declared.delegate.Pair.{Pair}

pub asks_each-length : (ls rs : List ℕ) → length ls ≡ length rs → length (asks_each ls rs) ≡ length ls
asks_each-length [] [] e = refl
asks_each-length [] (r ∷ rs) e = refl
asks_each-length (l ∷ ls) [] e = absurd (omega arith)
asks_each-length (l ∷ ls) (r ∷ rs) e = ap suc (asks_each-length ls rs (omega arith))

-- the question at a place is that of the parts there
pub asks_each-at : (ls rs : List ℕ) (at l r : ℕ) → slice_get ls at ≡ Some l → slice_get rs at ≡ Some r
    → slice_get (asks_each ls rs) at ≡ Some (asks l r)
asks_each-at [] rs at l r e f = absurd cc
asks_each-at (x ∷ ls) [] at l r e f = absurd cc
asks_each-at (x ∷ ls) (y ∷ rs) zero l r e f =
    let a : x ≡ l = cc in let b : y ≡ r = cc in ap₂ (λ p q. Some (asks p q)) a b
asks_each-at (x ∷ ls) (y ∷ rs) (suc at) l r e f = asks_each-at ls rs at l r e f

-- two parts at one place, of which a question is
pub record PartsOf (ls rs : List ℕ) (q : Question Pair) : Type 0 where
  pub at : ℕ
  pub left : ℕ
  pub right : ℕ
  pub has_left : slice_get ls at ≡ Some left
  pub has_right : slice_get rs at ≡ Some right
  pub same : q ≡ asks left right

asked_from : (ls rs : List ℕ) (at : ℕ) (q : Question Pair) → slice_get (asks_each ls rs) at ≡ Some q → PartsOf ls rs q
asked_from [] rs at q e = absurd cc
asked_from (x ∷ ls) [] at q e = absurd cc
asked_from (x ∷ ls) (y ∷ rs) zero q e =
    record { at = 0; left = x; right = y; has_left = refl; has_right = refl; same = cc }
asked_from (x ∷ ls) (y ∷ rs) (suc at) q e = let w = asked_from ls rs at q e in record {
  at = suc w.at;
  left = w.left;
  right = w.right;
  has_left = w.has_left;
  has_right = w.has_right;
  same = w.same;
}

pub parts_of : (ls rs : List ℕ) (q : Question Pair) → Contains (asks_each ls rs) q → PartsOf ls rs q
parts_of ls rs q h = asked_from ls rs h.0 q (at-Contains (asks_each ls rs) q h)

-- both shapes are declared, with one label and as many parts, and these are the parts
pub record Agree (equations : List Equation) (l r : ℕ) (ls rs : List ℕ) : Type 0 where
  pub left : Equation
  pub right : Equation
  pub has_left : slice_get equations l ≡ Some left
  pub has_right : slice_get equations r ≡ Some right
  pub left_parts : left.parts.items ≡ ls
  pub right_parts : right.parts.items ≡ rs
  pub label : left.label ≡ right.label
  pub number : length ls ≡ length rs

both_true : (a b : Bool) → (a && b) ≡ true → (a ≡ true) × (b ≡ true)
both_true true true e = (refl, refl)
both_true true false e = absurd cc
both_true false b e = absurd cc

if_true : (b : Bool) (x y : List ℕ × List ℕ) → cond b (Some x) None ≡ Some y → (b ≡ true) × (x ≡ y)
if_true true x y e = (refl, cc)
if_true false x y e = absurd cc

agree_in : (equations : List Equation) (l r : ℕ) (ls rs : List ℕ) (o p : Option Equation) → slice_get equations l ≡ o
    → slice_get equations r ≡ p → parts_in o p ≡ Some (ls, rs) → Agree equations l r ls rs
agree_in equations l r ls rs (Some left) (Some right) e f is =
    let w = if_true ((left.label == right.label) && (length left.parts.items == length right.parts.items))
    (left.parts.items, right.parts.items) (ls, rs) is in
    let b = both_true (left.label == right.label) (length left.parts.items == length right.parts.items) w.0 in
    let n : length left.parts.items ≡ length right.parts.items =
    eqb-true (length left.parts.items) (length right.parts.items) b.1 in
    let x : left.parts.items ≡ ls = ap (λ t. t.0) w.1 in
    let y : right.parts.items ≡ rs = ap (λ t. t.1) w.1 in
    record {
      left = left;
      right = right;
      has_left = e;
      has_right = f;
      left_parts = x;
      right_parts = y;
      label = eqb-true left.label right.label b.0;
      number = ap length (sym x) ∙ (n ∙ ap length y);
    }
agree_in equations l r ls rs (Some left) None e f is = absurd cc
agree_in equations l r ls rs None p e f is = absurd cc

pub agree : (equations : List Equation) (l r : ℕ) (ls rs : List ℕ)
    → matched_parts equations l r ≡ Some (ls, rs) → Agree equations l r ls rs
agree equations l r ls rs is = agree_in equations l r ls rs (slice_get equations l) (slice_get equations r) refl refl is

-- the other way round
pub matched_by : (equations : List Equation) (l r : ℕ) (left right : Equation) → slice_get equations l ≡ Some left →
    slice_get equations r ≡ Some right →
    left.label ≡ right.label → length left.parts.items ≡ length right.parts.items →
    matched_parts equations l r ≡ Some (left.parts.items, right.parts.items)
matched_by equations l r left right e f label number =
    let a : (left.label == right.label) ≡ true = eq-eqb left.label right.label label in
    let b : (length left.parts.items == length right.parts.items) ≡ true =
    eq-eqb (length left.parts.items) (length right.parts.items) number in
    subst (λ o. parts_in o (slice_get equations r) ≡ Some (left.parts.items, right.parts.items)) (sym e)
    (subst (λ p. parts_in (Some left) p ≡ Some (left.parts.items, right.parts.items)) (sym f)
    (ap (λ t. cond t (Some (left.parts.items, right.parts.items)) None) (ap₂ (λ p q. p && q) a b)))

-- no pair has more questions than all shapes have parts
pub questions_within : (equations : List Equation) (l r : ℕ) (o : Option (List ℕ × List ℕ))
    → matched_parts equations l r ≡ o → length (questions_in o) ≤ most_parts equations
questions_within equations l r None e = omega arith
questions_within equations l r (Some parts) e =
    let a = agree equations l r parts.0 parts.1 e in
    let k : length (asks_each parts.0 parts.1) ≡ length parts.0 = asks_each-length parts.0 parts.1 a.number in
    let n : length a.left.parts.items ≡ length parts.0 = ap length a.left_parts in
    let h =
    get_or-le-sum_by (λ x. length x.parts.items) equations l a.left (slice_get_within equations l a.left a.has_left) in
    let at : get_or equations l a.left ≡ a.left = get_or_from_slice_get equations l a.left a.left a.has_left in
    let m : length (get_or equations l a.left).parts.items ≡ length a.left.parts.items =
    ap (λ x. length x.parts.items) at in
    omega (arith, h, k, n, m)

asked_in : (ls rs : List ℕ) (at : ℕ) (pair : Pair) → at < length (asks_each ls rs) →
    slice_get (asks_each ls rs) at
    ≡ Some (record { kind = Coinductive; goal = unwrap_or (pair_of (slice_get ls at) (slice_get rs at)) pair })
asked_in [] rs at pair l = absurd (omega arith)
asked_in (x ∷ ls) [] at pair l = absurd (omega arith)
asked_in (x ∷ ls) (y ∷ rs) zero pair l = refl
asked_in (x ∷ ls) (y ∷ rs) (suc at) pair l = asked_in ls rs at pair (omega arith)

-- the question at a place, as the code finds it
pub asked_at : (o : Option (List ℕ × List ℕ)) (at : ℕ) (pair : Pair) → at < length (questions_in o)
    → slice_get (questions_in o) at ≡ Some (record { kind = Coinductive; goal = unwrap_or (parts_at o at) pair })
asked_at None at pair l = absurd (omega arith)
asked_at (Some parts) at pair l = asked_in parts.0 parts.1 at pair l

-- the number of questions, as the code finds it
pub counted : (equations : List Equation) (l r : ℕ) (ls rs : List ℕ) → matched_parts equations l r ≡ Some (ls, rs)
    → length ls ≡ length (questions_in (matched_parts equations l r))
counted equations l r ls rs e =
    sym (ap (λ o. length (questions_in o)) e ∙ asks_each-length ls rs (agree equations l r ls rs e).number)
