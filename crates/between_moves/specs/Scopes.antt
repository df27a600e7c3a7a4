-- Which goals under evaluation hold a scope: those whose results are to be compared with stored ones.
use Rattle.std.specs.Prelude.{◌≡◌, List, [], ◌∷◌}
use Rattle.run_records.specs.declared.runs.Fate.{Fate}
use Rattle.run_records.specs.declared.runs.Fate.TheVariants as becomes
use Rattle.search_rules.specs.Fates.{Fated}

module _ {R V : Type 0} where
  -- A goal with this fate holds a scope of its own over those that were held below it, if its result is to be
  -- compared, and else none.
  abbrev pub HoldsOwn : Fate R → (below held : List V) → Type 0
  HoldsOwn (becomes.Compared r) below held = (scope : V) × (held ≡ scope ∷ below)
  HoldsOwn _ below held = held ≡ below

module _ {I R V : Type 0} where
  -- the newest goal does
  abbrev pub HoldsNewest : List (Fated I R) → (below held : List V) → Type 0
  HoldsNewest [] below held = ⊥
  HoldsNewest (s ∷ goals) below held = HoldsOwn s.fate below held

  -- each goal does, and no other scope is held
  abbrev pub HoldScopes : List (Fated I R) → List V → Type 0
  HoldScopes [] held = held ≡ []
  HoldScopes (s ∷ goals) held = (below : List V) × HoldsOwn s.fate below held × HoldScopes goals below
