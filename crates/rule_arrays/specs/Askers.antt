-- Who asks each goal, as chains of links.
use Rattle.std.specs.Prelude.{◌≡◌, ◌⊎◌, ◌+◌, ◌<◌, ◌≤◌, ℕ, List, length, slice_get, slice_index_or, Some}
use Rattle.rule_arrays.specs.declared.changes.askers.Askers.{Askers}
use Rattle.rule_arrays.specs.declared.changes.askers.Link.{Link}

-- the chain of links that begins here has the asker
pub data IsInChain (links : List Link) (asker : ℕ) : ℕ → Type 0 where
  here : (at place : ℕ) (link : Link) → at ≡ place + 1 → slice_get links place ≡ Some link → link.asker ≡ asker
      → IsInChain links asker at
  earlier : (at place : ℕ) (link : Link) → at ≡ place + 1 → slice_get links place ≡ Some link
      → IsInChain links asker link.earlier → IsInChain links asker at

-- where the goal's chain begins
abbrev pub last_of : Askers → ℕ → ℕ
last_of askers goal = slice_index_or askers.last.items goal 0

-- the goal's chain has the asker
abbrev pub HasAsker : Askers → ℕ → ℕ → Type 0
HasAsker askers goal asker = IsInChain askers.links.items asker (last_of askers goal)

-- chains begin at links, and lead to earlier ones
pub record AreChains (askers : Askers) : Type 0 where
  pub within : (goal : ℕ) → last_of askers goal ≤ length askers.links.items
  pub back : (place : ℕ) (link : Link) → slice_get askers.links.items place ≡ Some link → link.earlier ≤ place

-- beside what they had, the goals have these askers
pub record AddsAskers (IsNew : ℕ → ℕ → Type 0) (old new : Askers) : Type 0 where
  pub chains : AreChains new
  pub as_many : length new.last.items ≡ length old.last.items
  pub kept : (goal asker : ℕ) → HasAsker old goal asker → HasAsker new goal asker
  pub added : (goal asker : ℕ) → goal < length old.last.items → IsNew goal asker → HasAsker new goal asker
  pub only : (goal asker : ℕ) → HasAsker new goal asker → HasAsker old goal asker ⊎ IsNew goal asker

-- these and no others are the askers of the first so many goals
pub record AreAskers (IsAsker : ℕ → ℕ → Type 0) (count : ℕ) (askers : Askers) : Type 0 where
  pub chains : AreChains askers
  pub all : (goal asker : ℕ) → goal < count → IsAsker goal asker → HasAsker askers goal asker
  pub only : (goal asker : ℕ) → HasAsker askers goal asker → IsAsker goal asker
