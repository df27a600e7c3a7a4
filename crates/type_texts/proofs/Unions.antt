-- Unions as a graph of numbers.
use Rattle.std.proofs.Common.{◌≡◌, ◌≢◌, ℕ, zero, suc, ◌+◌, ◌<◌, List, [], ◌∷◌, ◌++◌, All, length, take, get_or, Option}
use Rattle.std.proofs.Common.{Some, None, refl, ap, sym, ◌∙◌, subst, arith}
use Rattle.std.specs.Prelude.{Contains, slice_get, slice_index}
use Rattle.std.specs.Global.{Vec}
use Rattle.std.proofs.lemmas.List.{length-map, map-append, take_more}
use Rattle.std.proofs.lemmas.List.Elements.{All-from_get_or, Contains-get_or}
use Rattle.type_order.specs.declared.types.Form.{Form}
use Rattle.type_order.specs.declared.types.Form.TheVariants.{Base, Bottom, Function, Record, Top, Union}
use Rattle.type_order.specs.Order.{AreDeclared, IsContractive}
use Rattle.type_order.specs.Rule.{alternatives_in}
use Rattle.type_order.specs.Subtypes.{IsUnion}
use Rattle.type_texts.specs.Words.{AreComponents, HasStep, IsUnionOfItself, StaysInside, successor_lists, union_lists}

-- the alternatives at a place
pub union_at : (forms : List Form) (n : ℕ) → get_or (union_lists forms) n [] ≡ alternatives_in (slice_get forms n)
union_at [] n = refl
union_at (f ∷ fs) zero = refl
union_at (f ∷ fs) (suc n) = union_at fs n

-- one row more
pub rows_more : (forms : List Form) (n : ℕ) (old new : List (Vec ℕ)) (row : Vec ℕ) →
    successor_lists old ≡ take n (union_lists forms) → n < length forms →
    row.items ≡ alternatives_in (slice_get forms n) → new ≡ old ++ row ∷ [] →
    successor_lists new ≡ take (n + 1) (union_lists forms)
rows_more forms n old new row so_far l is pushed =
    let long = length-map forms (λ form. alternatives_in (Some form)) in
    ap successor_lists pushed ∙ map-append (λ (successors : Vec ℕ). successors.items) old (row ∷ [])
    ∙ ap (λ xs. xs ++ row.items ∷ []) so_far
    ∙ ap (λ x. take n (union_lists forms) ++ x ∷ []) (is ∙ sym (union_at forms n))
    ∙ sym (take_more (union_lists forms) n [] (omega (arith, long, l)))

pub step_within : (lists : List (List ℕ)) (a b : ℕ) → HasStep lists a b → a < length lists
step_within [] a b h = absurd (let l = h.1 in omega arith)
step_within (x ∷ xs) zero b h = omega arith
step_within (x ∷ xs) (suc a) b h = let l = step_within xs a b h in omega (arith, l)

pub within_of_step : (graph : List (Vec ℕ)) (a b : ℕ) → HasStep (successor_lists graph) a b → a < length graph
within_of_step graph a b h = let l = step_within (successor_lists graph) a b h in
    let long = length-map graph (λ (successors : Vec ℕ). successors.items) in omega (arith, l, long)

alternative_declared : (forms : List Form) → AreDeclared forms → (s x : ℕ) (o : Option Form) → slice_get forms s ≡ o
    → Contains (alternatives_in o) x → x < length forms
alternative_declared forms declared s x (Some (Union v)) e h = declared s (Union v) e x h
alternative_declared forms declared s x (Some (Base w)) e h = absurd (omega (arith, h.1))
alternative_declared forms declared s x (Some Top) e h = absurd (omega (arith, h.1))
alternative_declared forms declared s x (Some Bottom) e h = absurd (omega (arith, h.1))
alternative_declared forms declared s x (Some (Function a b)) e h = absurd (omega (arith, h.1))
alternative_declared forms declared s x (Some (Record v)) e h = absurd (omega (arith, h.1))
alternative_declared forms declared s x None e h = absurd (omega (arith, h.1))

-- each alternative is a place
pub stays_inside : (forms : List Form) → AreDeclared forms → StaysInside (union_lists forms)
stays_inside forms declared =
    let long = length-map forms (λ form. alternatives_in (Some form)) in
    All-from_get_or (All (λ b. b < length (union_lists forms))) (union_lists forms) [] (λ k lt.
    subst (All (λ b. b < length (union_lists forms))) (sym (union_at forms k))
    (All-from_get_or (λ b. b < length (union_lists forms)) (alternatives_in (slice_get forms k)) 0 (λ j within.
    let d = alternative_declared forms declared k (get_or (alternatives_in (slice_get forms k)) j 0) (slice_get forms k)
    refl (Contains-get_or (alternatives_in (slice_get forms k)) j 0 within) in
    omega (arith, long, d))))

in_union : (o : Option Form) (alternatives : List ℕ) (x : ℕ) → IsUnion o alternatives
    → Contains alternatives x → Contains (alternatives_in o) x
in_union (Some (Union v)) alternatives x is h = subst (λ xs. Contains xs x) (sym is) h
in_union (Some (Base w)) alternatives x is h = absurd is
in_union (Some Top) alternatives x is h = absurd is
in_union (Some Bottom) alternatives x is h = absurd is
in_union (Some (Function a b)) alternatives x is h = absurd is
in_union (Some (Record v)) alternatives x is h = absurd is
in_union None alternatives x is h = absurd is

-- where no step stays in its component, the components' numbers are ranks
pub contractive : (forms : List Form) (numbers : List ℕ) → AreComponents (union_lists forms) numbers →
    ((a b : ℕ) → HasStep (union_lists forms) a b → slice_index numbers b ≡ slice_index numbers a → ⊥) →
    IsContractive forms
contractive forms numbers are none = record {
  rank = λ n. slice_index numbers n;
  falls = λ n alternatives is x h.
      let step : HasStep (union_lists forms) n x =
      subst (λ xs. Contains xs x) (sym (union_at forms n)) (in_union (slice_get forms n) alternatives x is h) in
      let falls = are.falls n x step in
      let ne : slice_index numbers x ≢ slice_index numbers n = none n x step in
      omega (arith, falls, ne);
}

-- a step within a component leads back
pub leads_back : (forms : List Form) (numbers : List ℕ) → AreDeclared forms →
    AreComponents (union_lists forms) numbers → (a b : ℕ) → HasStep (union_lists forms) a b →
    slice_index numbers b ≡ slice_index numbers a → IsUnionOfItself forms a
leads_back forms numbers declared are a b step same =
    let long = length-map forms (λ form. alternatives_in (Some form)) in
    let l = step_within (union_lists forms) a b step in
    let d = alternative_declared forms declared a b (slice_get forms a) refl
    (subst (λ xs. Contains xs b) (union_at forms a) step) in
    record { part = b; is_part = step; leads_back = are.together b a (omega (arith, long, d)) l same }
