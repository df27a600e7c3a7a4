-- A program stays ordered when a block is added.
use Rattle.std.specs.Bool.{MatchBool}
use Rattle.std.proofs.Common.{◌≡◌, ℕ, ◌<◌, Bool, true, false, cond, All, List, [], ◌∷◌, ◌++◌, length, slice_get}
use Rattle.std.proofs.Common.{Contains, inl, inr, sym, ap, subst}
use Rattle.std.proofs.lemmas.List.Elements.{All-contains}
use Rattle.list_lemmas.proofs.Lists.{get_cases}
use Rattle.reach.specs.Paths.{Block, GoDown, IsEnteredFrom}

pub goes_down : (blocks : List Block) (block : Block) → GoDown blocks
    → All (λ p. p < length blocks) block.predecessors.items → GoDown (blocks ++ block ∷ [])
goes_down blocks block old below at before h =
    elim (get_cases blocks block at h.block h.is_block) [
      | inl there ↦ old at before (record { block = h.block; is_block = there; has = h.has })
      | inr new ↦
          let has : Contains block.predecessors.items before =
          subst (λ b. Contains b.predecessors.items before) (sym new.1) h.has in
          subst (λ n. before < n) (sym new.0)
          (All-contains (λ p. p < length blocks) block.predecessors.items before below has)
    ]

-- the same, where the block was added if there was room
pub goes_on : (added : Bool) (blocks items : List Block) (block : Block) → GoDown blocks
    → All (λ p. p < length blocks) block.predecessors.items
    → items ≡ cond added (blocks ++ block ∷ []) blocks → GoDown items
goes_on true blocks items block old below is = subst GoDown (sym is) (goes_down blocks block old below)
goes_on false blocks items block old below is = subst GoDown (sym is) old

pub passed : (test : Bool) (P Q : Type 0) → test ≡ true → MatchBool test P Q → P
passed true P Q e h = h
passed false P Q e h = absurd cc
