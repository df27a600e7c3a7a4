-- The entries of the goals, from the first one up.
use Rattle.std.proofs.Common.{◌≡◌, ℕ, List, [], ◌∷◌, ◌++◌, length, map, reverse, refl, sym, ap, ◌∙◌, append_assoc}
use Rattle.std.proofs.Common.{arith, ◌<◌}
use Rattle.std.specs.Option.{option_and_then}
use Rattle.std.proofs.lemmas.Grind.{reverse_onto}
use Rattle.std.proofs.lemmas.List.{append-nil}
use Rattle.open_goals.specs.Below.{StackEntry, depth_below, allowed_depth}
use Rattle.goal_changes.specs.Words.{paired, newest}

module _ {E F : Type 0} where
  entries_below : (below : List (E × F)) (es : List E) (fs : List F) → length es ≡ length fs
      → reverse (map (λ s. s.0) (paired below es fs)) ≡ reverse (map (λ s. s.0) below) ++ es
  entries_below below [] [] same = sym (append-nil (reverse (map (λ s. s.0) below)))
  entries_below below (e ∷ es) (f ∷ fs) same =
      entries_below ((e, f) ∷ below) es fs (omega arith)
      ∙ ap (λ l. l ++ es) (reverse_onto (map (λ s. s.0) below) e [])
      ∙ append_assoc (reverse (map (λ s. s.0) below)) (e ∷ []) es
  entries_below below es fs same = absurd (omega arith)

  pub entries_of_view : (es : List E) (fs : List F) (view : List (E × F)) → length es ≡ length fs
      → paired [] es fs ≡ view → es ≡ reverse (map (λ s. s.0) view)
  entries_of_view es fs view same is = sym (entries_below [] es fs same) ∙ ap (λ v. reverse (map (λ s. s.0) v)) is

module _ {X I R A T : Type 0} where
  allowed_last : (divisor root : ℕ) (es : List (StackEntry X I R A T)) (e : StackEntry X I R A T)
      → allowed_depth divisor root (es ++ e ∷ []) ≡ depth_below divisor e
  allowed_last divisor root [] e = refl
  allowed_last divisor root (x ∷ []) e = refl
  allowed_last divisor root (x ∷ y ∷ es) e = allowed_last divisor root (y ∷ es) e

module _ {X I R A T F : Type 0} where
  -- the newest goal gives the depth of the next question
  pub allowed_newest : (divisor root : ℕ) (s : StackEntry X I R A T × F) (below : List (StackEntry X I R A T × F))
      → allowed_depth divisor root (reverse (map (λ s. s.0) (s ∷ below))) ≡ depth_below divisor s.0
  allowed_newest divisor root s below =
      ap (allowed_depth divisor root) (reverse_onto (map (λ s. s.0) below) s.0 [])
      ∙ allowed_last divisor root (reverse (map (λ s. s.0) below)) s.0

  pub allowed_by_newest : (divisor root : ℕ) (goals : List (StackEntry X I R A T × F)) → 0 < length goals
      → allowed_depth divisor root (reverse (map (λ s. s.0) goals))
      ≡ option_and_then (λ s. depth_below divisor s.0) (newest goals)
  allowed_by_newest divisor root [] some = absurd (omega (arith, some))
  allowed_by_newest divisor root (s ∷ below) some = allowed_newest divisor root s below
