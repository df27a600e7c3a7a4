-- Whether the kinds of cycles stay, head by head.
use Rattle.std.proofs.Common.{◌≡◌, Bool, true, false, List, ◌∷◌, refl, sym, ◌∙◌}
use Rattle.std.specs.List.{list_all}
use Rattle.provisional_cache.specs.Below.{PathKind, PathsToNested, StackDepth, CycleHead, Heads, kinds_in, StackEntry}
use Rattle.provisional_cache.specs.Words.{from_head, keeps_kind}

module _ {X I R A T : Type 0} where
  -- the kinds stay for these heads
  abbrev pub keep_from : List (StackEntry X I R A T) → StackEntry X I R A T → PathKind → PathsToNested → Heads → Bool
  keep_from stack done to_entry to_done heads = list_all (λ head.
      list_all (λ to_head. list_all (λ own. keeps_kind (from_head stack done head.0.0) to_entry own to_head)
      (kinds_in to_done)) (kinds_in head.1.paths_to_head))
      heads

  abbrev pub keeps_from_head : List (StackEntry X I R A T) → StackEntry X I R A T → PathKind
      → PathsToNested → StackDepth × CycleHead → Bool
  keeps_from_head stack done to_entry to_done head = list_all
      (λ to_head. list_all (λ own. keeps_kind (from_head stack done head.0.0) to_entry own to_head) (kinds_in to_done))
      (kinds_in head.1.paths_to_head)

  -- the first head decides, or those after it
  module _ (stack : List (StackEntry X I R A T)) (done : StackEntry X I R A T) (to_entry : PathKind)
      (to_done : PathsToNested) (first : StackDepth × CycleHead) (heads rest : Heads) (is : heads ≡ first ∷ rest)
      (test : Bool) (tells : test ≡ keeps_from_head stack done to_entry to_done first) where
    pub first_fails : test ≡ false → false ≡ keep_from stack done to_entry to_done heads
    first_fails fails =
        let decided : keeps_from_head stack done to_entry to_done first ≡ false = sym tells ∙ fails in
        rw (is, decided) refl

    pub first_passes : test ≡ true
        → keep_from stack done to_entry to_done rest ≡ keep_from stack done to_entry to_done heads
    first_passes passes =
        let decided : keeps_from_head stack done to_entry to_done first ≡ true = sym tells ∙ passes in
        rw (is, decided) refl
