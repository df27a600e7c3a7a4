-- What a set of questions says of edges.
use Rattle.std.proofs.Common.{◌≡◌, ◌∙◌, ◌||◌, ◌&&◌, ◌+◌, ◌++◌, ℕ, Bool, Some, slice_get, take, true, false, List, []}
use Rattle.std.proofs.Common.{◌∷◌, ap, arith, inl, inr, refl, rules, subst, sym, Contains, ◌↔◌}
use Rattle.list_lemmas.proofs.Members.{contains_later, first_or_later}
use Rattle.std.proofs.lemmas.Bool.{and_parts, false≢true, or_cases}
use Rattle.std.proofs.lemmas.List.{take_more}
use Rattle.std.proofs.lemmas.Option.{get_or_from_slice_get, slice_get_within}
use Rattle.std.specs.List.{list_any}
use Rattle.graph_texts.specs.Below.{Goal, PathKind}
use Rattle.path_kinds.specs.declared.path.PathKind.TheVariants.{Coinductive, ForcedAmbiguity, Inductive, Unknown}
use Rattle.path_kinds.specs.contracts.path.PathKindPartialEq.TheImpl.{eq-value as eq-kind}
use Rattle.rule_tables.specs.contracts.rules.GoalPartialEq.TheImpl.{eq-value as eq-goal}

or_right : (a : Bool) → (a || true) ≡ true
or_right true = refl
or_right false = refl

module _ {K : Type 0} (eq : K → K → Bool) (exact : (x y : K) → eq x y ≡ true → x ≡ y)
    (same : (x : K) → eq x x ≡ true) where
  any_finds : (keys : List K) (key : K) → list_any (eq key) keys ≡ true → Contains keys key
  any_finds [] key found = absurd (false≢true found)
  any_finds (first ∷ keys) key found = elim (or_cases (eq key first) (list_any (eq key) keys) found) [
    | inl here ↦ (0, omega arith, sym (exact key first here))
    | inr later ↦ contains_later key first keys (any_finds keys key later)
  ]

  found_by_any : (keys : List K) (key : K) → Contains keys key → list_any (eq key) keys ≡ true
  found_by_any [] key there = absurd (omega (arith, there.1))
  found_by_any (first ∷ keys) key there = elim (first_or_later first key keys there) [
    | inl here ↦ let equal : eq key first ≡ true = subst (λ other. eq key other ≡ true) (sym here) (same key) in
        ap (λ b. b || list_any (eq key) keys) equal
    | inr later ↦ ap (λ b. eq key first || b) (found_by_any keys key later) ∙ or_right (eq key first)
  ]

  -- what is found is a member
  pub any_tells : (keys : List K) (key : K) → (list_any (eq key) keys ≡ true) ↔ Contains keys key
  any_tells keys key = (any_finds keys key, found_by_any keys key)

kind_exact : (x y : PathKind) → eq-kind.it x y ≡ true → x ≡ y
kind_exact Inductive Inductive h = refl
kind_exact Unknown Unknown h = refl
kind_exact Coinductive Coinductive h = refl
kind_exact ForcedAmbiguity ForcedAmbiguity h = refl
kind_exact _ _ h = absurd cc

kind_same : (x : PathKind) → eq-kind.it x x ≡ true
kind_same Inductive = refl
kind_same Unknown = refl
kind_same Coinductive = refl
kind_same ForcedAmbiguity = refl

goal_exact : (x y : Goal) → eq-goal.it x y ≡ true → x ≡ y
goal_exact = search rules

goal_same : (x : Goal) → eq-goal.it x x ≡ true
goal_same = search rules

-- the test by which a question is looked up
abbrev pub same_question : PathKind × Goal → PathKind × Goal → Bool
same_question x y = eq-kind.it x.0 y.0 && eq-goal.it x.1 y.1

pub question_exact : (x y : PathKind × Goal) → same_question x y ≡ true → x ≡ y
question_exact (k, g) (l, h) equal =
    let parts = and_parts (eq-kind.it k l) (eq-goal.it g h) equal in
    let kind = kind_exact k l parts.0 in
    let goal = goal_exact g h parts.1 in cc

pub question_same : (x : PathKind × Goal) → same_question x x ≡ true
question_same (k, g) = ap (λ b. b && eq-goal.it g g) (kind_same k) ∙ goal_same g

-- a question is found in the set exactly if it is a member
pub question_tells : (keys : List (PathKind × Goal)) (key : PathKind × Goal)
    → (list_any (same_question key) keys ≡ true) ↔ Contains keys key
question_tells = any_tells same_question question_exact question_same

-- one item more
pub take_one_more : {A : Type 0} (xs : List A) (n : ℕ) (x : A) → Some x ≡ slice_get xs n
    → take (n + 1) xs ≡ take n xs ++ x ∷ []
take_one_more xs n x is =
    take_more xs n x (slice_get_within xs n x (sym is))
    ∙ ap (λ y. take n xs ++ y ∷ []) (get_or_from_slice_get xs n x x (sym is))
