-- The first marked candidate from a place on.
use Rattle.std.proofs.Common.{ℕ, ◌≡◌, ◌+◌, ◌≤◌, nat_le, zero, suc, Bool, true, false, cond, ◌&&◌, refl, subst, ap, ◌∙◌}
use Rattle.std.proofs.Common.{arith, List, [], ◌∷◌, length, drop, Option, Some, None}
use Rattle.std.specs.Prelude.{slice_get}
use Rattle.std.proofs.lemmas.List.{drop_all, drop_more}
use Rattle.std.proofs.lemmas.Option.{get_or_from_slice_get, slice_get_within}
use Rattle.std.proofs.lemmas.Bool.Decides.{nat_tests}
use Rattle.candidate_lists.specs.Candidate.{Candidate, mark_at, mark_of}
use Rattle.candidate_lists.specs.Frame.{marked_from}

none_past : {A : Type 0} (xs : List A) (n : ℕ) → slice_get xs n ≡ None → length xs ≤ n
none_past [] n e = omega arith
none_past (x ∷ xs) zero e = absurd cc
none_past (x ∷ xs) (suc n) e = let h = none_past xs n e in omega arith

module _ {Q : Type 0} where
  dropped : (n at : ℕ) (cs : List (Candidate Q)) (from : ℕ) → at + n ≤ from
      → marked_from (at + n) (drop n cs) from ≡ marked_from at cs from
  dropped zero at cs from le = ap (λ m. marked_from m cs from) (omega arith)
  dropped (suc n) at [] from le = refl
  dropped (suc n) at (c ∷ cs) from le =
      let before : nat_le from at ≡ false = grind (arith, nat_tests, le) in
      rw before (subst (λ m. marked_from m (drop n cs) from ≡ marked_from (at + 1) cs from) (omega arith)
      (dropped n (at + 1) cs from (omega (arith, le))))

  -- candidates before the place count for nothing
  pub marked_from-drop : (cs : List (Candidate Q)) (from : ℕ)
      → marked_from from (drop from cs) from ≡ marked_from 0 cs from
  marked_from-drop cs from =
      ap (λ m. marked_from m (drop from cs) from) (omega arith) ∙ dropped from 0 cs from (omega arith)

  drop_here : (cs : List (Candidate Q)) (place : ℕ) (c : Candidate Q) → slice_get cs place ≡ Some c
      → drop place cs ≡ c ∷ drop (place + 1) cs
  drop_here cs place c e = drop_more cs place c (slice_get_within cs place c e)
      ∙ ap (λ x. x ∷ drop (place + 1) cs) (get_or_from_slice_get cs place c c e)

  next_by : (b : Bool) (place : ℕ) (c : Candidate Q) (rest : List (Candidate Q)) (from : ℕ) → c.is_marked ≡ false
      → cond (b && c.is_marked) (Some place) (marked_from (place + 1) rest from) ≡ marked_from (place + 1) rest from
  next_by true place c rest from e = rw e refl
  next_by false place c rest from e = refl

  -- none is marked from a place on that is behind the last one
  pub marked_from-end : (cs : List (Candidate Q)) (place from : ℕ) → slice_get cs place ≡ None
      → marked_from place (drop place cs) from ≡ None
  marked_from-end cs place from e = ap (λ rest. marked_from place rest from) (drop_all place cs (none_past cs place e))

  -- the candidate at a place that is looked at
  pub marked_from-here : (cs : List (Candidate Q)) (place from : ℕ) (c : Candidate Q) → from ≤ place
      → slice_get cs place ≡ Some c → c.is_marked ≡ true → marked_from place (drop place cs) from ≡ Some place
  marked_from-here cs place from c le e marked =
      let at : nat_le from place ≡ true = grind (arith, nat_tests, le) in
      ap (λ rest. marked_from place rest from) (drop_here cs place c e) ∙ rw (at, marked) refl

  pub marked_from-next : (cs : List (Candidate Q)) (place from : ℕ) (c : Candidate Q)
      → slice_get cs place ≡ Some c → c.is_marked ≡ false
      → marked_from place (drop place cs) from ≡ marked_from (place + 1) (drop (place + 1) cs) from
  marked_from-next cs place from c e unmarked =
      ap (λ rest. marked_from place rest from) (drop_here cs place c e)
      ∙ next_by (nat_le from place) place c (drop (place + 1) cs) from unmarked

  in_place : (o : Option (Candidate Q)) (b : Bool) → mark_of o ≡ Some b
      → (c : Candidate Q) × (o ≡ Some c) × (c.is_marked ≡ b)
  in_place None b e = absurd cc
  in_place (Some c) b e = (c, refl, cc)

  not_in_place : (o : Option (Candidate Q)) → mark_of o ≡ None → o ≡ None
  not_in_place None e = refl
  not_in_place (Some c) e = absurd cc

  -- the candidate whose mark stands at a place
  pub marked_at : (cs : List (Candidate Q)) (place : ℕ) (b : Bool) → mark_at cs place ≡ Some b
      → (c : Candidate Q) × (slice_get cs place ≡ Some c) × (c.is_marked ≡ b)
  marked_at cs place b e = in_place (slice_get cs place) b e

  pub none_at : (cs : List (Candidate Q)) (place : ℕ) → mark_at cs place ≡ None → slice_get cs place ≡ None
  none_at cs place e = not_in_place (slice_get cs place) e
