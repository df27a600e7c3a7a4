-- The provisional cache: each goal has a list of its entries, which rest on goals on the stack, the oldest first.
use Rattle.std.specs.Prelude.{◌≡◌, ◌≢◌, Bool, false, cond, List, [], ◌∷◌, ◌++◌, map, All, Some}
use Rattle.std.specs.Global.{Vec}
use Rattle.std.specs.Option.{unwrap_or, IfSome}
use Rattle.std.specs.Map.{lookup}
use Rattle.provisional_cache.specs.declared.ProvisionalCacheEntry.{ProvisionalCacheEntry}

-- lists of entries by goal, in some order
abbrev pub Lists : Type 0 → Type 0 → Type 0
Lists I E = List (I × List E)

-- the lists that a map has
abbrev pub lists_of : {I E : Type 0} → List (I × Vec E) → Lists I E
lists_of entries = map (λ e. (e.0, e.1.items)) entries

-- the entries of a goal; a goal that isn't there has none
abbrev pub entries_at : {I E : Type 0} → (I → I → Bool) → Lists I E → I → List E
entries_at same lists input = unwrap_or (lookup (same input) lists) []

-- the list of the goal is the old one with the entry at its end, and each other goal's list, if it
-- has one, is the old one
abbrev pub PutsLast : {I E : Type 0} → (I → I → Bool) → Lists I E → Lists I E → I → E → Type 0
PutsLast same old new input entry = (other : _) → lookup (same other) new
    ≡ cond (same input other) (Some (entries_at same old input ++ entry ∷ [])) (lookup (same other) old)

-- the goal has one entry more, at the end, and each other goal those that it had
pub record AppendsEntry {I E : Type 0} (same : I → I → Bool) (old new : Lists I E)
    (input : I) (entry : E) : Type 0 where
  pub here : entries_at same new input ≡ entries_at same old input ++ entry ∷ []
  pub others : (other : I) → same input other ≡ false → entries_at same new other ≡ entries_at same old other

module _ {X I R A T : Type 0} where
  -- a list has an entry, and each of its entries rests on a head
  pub record IsEntryList (entries : List (ProvisionalCacheEntry X I R A T)) : Type 0 where
    pub some : entries ≢ []
    pub heads : All (λ entry. entry.heads ≢ []) entries

  -- each goal that is there has such a list
  abbrev pub AreEntryLists : (I → I → Bool) → Lists I (ProvisionalCacheEntry X I R A T) → Type 0
  AreEntryLists same lists = (input : I) → IfSome (lookup (same input) lists) IsEntryList
