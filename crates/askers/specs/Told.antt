-- What goals ask, as links, and the chains of these.
use Rattle.std.specs.Prelude.{◌≡◌, ◌⊎◌, ℕ, ◌+◌, ◌≤◌, nat_le, Bool, true, false, if◌then◌else◌}
use Rattle.std.specs.Prelude.{List, [], ◌∷◌, ◌++◌, length, map}
use Rattle.std.specs.Prelude.{Contains, Option, None, Some, IsSome, slice_get, vec_len, vec_capacity}
use Rattle.std.specs.HashMap as hash
use Rattle.std.specs.Option.{unwrap_or}
use Rattle.askers.specs.declared.told.Link.{Link}
use Rattle.askers.specs.declared.told.Told.{Told}

-- goals that are told to be the same are
abbrev pub IsExact : {I : Type 0} → (I → I → Bool) → Type 0
IsExact {I} same = (x y : I) → same x y ≡ true → x ≡ y

-- the goal that asks, and the one that it asks
abbrev pub pair_of : {I : Type 0} → Link I → I × I
pair_of link = (link.asker, link.asked)

abbrev pub pairs_of : {I : Type 0} → List (Link I) → List (I × I)
pairs_of = map pair_of

-- whether links of the goal count at this place
abbrev pub counts_from : Option ℕ → ℕ → Bool
counts_from None place = false
counts_from (Some first) place = nat_le first place

abbrev pub counts : {I : Type 0} → (I → Option ℕ) → ℕ → I → Bool
counts first place goal = counts_from (first goal) place

-- those of the pairs that count; the list begins at this place
abbrev pub counted : {I : Type 0} → (I → Option ℕ) → ℕ → List (I × I) → List (I × I)
counted first at [] = []
counted first at (pair ∷ pairs) = if counts first at pair.0 then pair ∷ counted first (at + 1) pairs
    else counted first (at + 1) pairs

-- what the link at this place tells
abbrev pub told_by : {I : Type 0} → (I → Option ℕ) → ℕ → Link I → List (I × I)
told_by first place link = if counts first place link.asker then pair_of link ∷ [] else []

-- the place from which on the goal's links count
abbrev pub first_of : {I : Type 0} → (I → I → Bool) → Told I → I → Option ℕ
first_of same told = hash.get same told.first

-- where the last link to the goal is
abbrev pub last_in : {I : Type 0} → (I → Option ℕ) → I → ℕ
last_in last goal = unwrap_or (last goal) 0

abbrev pub last_of : {I : Type 0} → (I → I → Bool) → Told I → I → ℕ
last_of same told = last_in (hash.get same told.last)

-- what was told
abbrev pub told_of : {I : Type 0} → (I → I → Bool) → Told I → List (I × I)
told_of same told = counted (first_of same told) 0 (pairs_of told.links.items)

-- the link at this place is in the chain that begins here
pub data IsInChain {I : Type 0} (links : List (Link I)) (place : ℕ) : ℕ → Type 0 where
  here : (at : ℕ) → at ≡ place + 1 → IsInChain links place at
  earlier : (at other : ℕ) (link : Link I) → at ≡ other + 1 → slice_get links other ≡ Some link
      → IsInChain links place link.earlier → IsInChain links place at

-- Chains lead to earlier links. Each link is in the chain of the goal that it asks, and in no other.
pub record IsIndex {I : Type 0} (first last : I → Option ℕ) (links : List (Link I)) : Type 0 where
  pub within : (goal : I) → last_in last goal ≤ length links
  pub back : (place : ℕ) (link : Link I) → slice_get links place ≡ Some link → link.earlier ≤ place
  pub found : (place : ℕ) (link : Link I) → slice_get links place ≡ Some link
      → IsInChain links place (last_in last link.asked)
  pub only : (goal : I) (place : ℕ) (link : Link I) → IsInChain links place (last_in last goal)
      → slice_get links place ≡ Some link → link.asked ≡ goal
  pub begun : (goal : I) (place : ℕ) → first goal ≡ Some place → place ≤ length links

pub record AreIndexed {I : Type 0} (same : I → I → Bool) (told : Told I) : Type 0 where
  pub exact : IsExact same
  pub index : IsIndex (first_of same told) (hash.get same told.last) told.links.items

-- the goal asks by the link at this place, which counts
pub record IsAskerAt {I : Type 0} (same : I → I → Bool) (told : Told I) (place : ℕ) (asker : I) : Type 0 where
  pub link : Link I
  pub is_at : slice_get told.links.items place ≡ Some link
  pub same_asker : link.asker ≡ asker
  pub is_counted : counts (first_of same told) place link.asker ≡ true

-- a goal has the entry that it had, or had none and has this one
abbrev pub KeepsEntries : {I : Type 0} → ℕ → (I → Option ℕ) → (I → Option ℕ) → Type 0
KeepsEntries {I} entry was now = (goal : I) → (now goal ≡ was goal) ⊎ ((was goal ≡ None) × (now goal ≡ Some entry))

-- each of these goals has an entry
abbrev pub HaveEntries : {I : Type 0} → (I → Option ℕ) → List I → Type 0
HaveEntries {I} last asked = (one : I) → Contains asked one → IsSome (last one)

-- there is room for links of the goal to these
pub record HasRoom {I : Type 0} (same : I → I → Bool) (told : Told I) (goal : I) (asked : List I) : Type 0 where
  pub places : vec_len told.links + length asked ≤ vec_capacity told.links
  pub begun : IsSome (first_of same told goal)
  pub entries : HaveEntries (hash.get same told.last) asked

-- there is one more link, of the goal to this one
pub record Links {I : Type 0} (same : I → I → Bool) (goal one : I) (old new : Told I) : Type 0 where
  pub indexed : AreIndexed same new
  pub told : told_of same new ≡ told_of same old ++ (goal, one) ∷ []
  pub first : new.first ≡ old.first
  pub entries : (other : I) → IsSome (hash.get same old.last other) → IsSome (hash.get same new.last other)
  pub more : vec_len new.links ≡ vec_len old.links + 1
  pub capacity : vec_capacity new.links ≡ vec_capacity old.links
