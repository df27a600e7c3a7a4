-- The search between two steps: what its lists say of the places and of each other.
use Rattle.std.specs.Prelude.{◌≡◌, ◌≢◌, ℕ, ◌<◌, ◌≤◌, ◌+◌, ◌-◌, ◌*◌, ◌⊎◌, Bool, true, false, List, [], ◌∷◌, ◌++◌, length}
use Rattle.std.specs.Prelude.{take, Contains, count_by, sum, slice_index, slice_index_or, slice_set}
use Rattle.std.specs.Prelude.{nat_lt, if◌then◌else◌}
use Rattle.strong_components.specs.declared.search.State.{State}
use Rattle.strong_components.specs.declared.search.State.TheVariants.{New, Open, Closed}
use Rattle.strong_components.specs.declared.search.Search.{Search}
use Rattle.strong_components.specs.Components.{HasStep, Reaches}

-- the state of a place
abbrev pub state_at : List State → ℕ → State
state_at states place = slice_index_or states place New

abbrev pub is_new : State → Bool
is_new New = true
is_new (Open position) = false
is_new (Closed number) = false

-- the number of a closed place
abbrev pub number_of : State → ℕ
number_of New = 0
number_of (Open position) = 0
number_of (Closed number) = number

-- no place becomes new again
abbrev pub StaySeen : List State → List State → Type 0
StaySeen old new = (a : ℕ) → state_at old a ≢ New → state_at new a ≢ New

-- a list ends with the number
abbrev pub HasLast : List ℕ → ℕ → Type 0
HasLast numbers last = (0 < length numbers) × (slice_index numbers (length numbers - 1) ≡ last)

abbrev pub IsIncreasing : List ℕ → Type 0
IsIncreasing numbers =
    (j k : ℕ) → j < k → k < length numbers → slice_index numbers j < slice_index numbers k

-- position `j` is not below the start of the component in which position `i` is
abbrev pub IsFromStart : List ℕ → ℕ → ℕ → Type 0
IsFromStart starts i j =
    (k : ℕ) → k < length starts → slice_index starts k ≤ i → slice_index starts k ≤ j

-- the states that a step may lead from and to, once it is looked at
abbrev pub MayStep : List ℕ → State → State → Type 0
MayStep starts (Open i) (Open j) = IsFromStart starts i j
MayStep starts (Open i) (Closed number) = Unit {0}
MayStep starts (Closed number) (Closed lower) = lower ≤ number
MayStep starts (Open i) New = ⊥
MayStep starts (Closed number) New = ⊥
MayStep starts (Closed number) (Open j) = ⊥
MayStep starts New other = ⊥

-- the open places stand at their positions
pub record AreOpened (states : List State) (opened : List ℕ) : Type 0 where
  pub found : (a i : ℕ) → state_at states a ≡ Open i → (i < length opened) × (slice_index opened i ≡ a)
  pub placed : (i : ℕ) → i < length opened → state_at states (slice_index opened i) ≡ Open i

-- the path and the starts are rising positions, each start is on the path, and the first open place is one
pub record IsPath (path starts : List ℕ) (count : ℕ) : Type 0 where
  pub path_rises : IsIncreasing path
  pub path_inside : (k : ℕ) → k < length path → slice_index path k < count
  pub starts_rise : IsIncreasing starts
  pub starts_on_path : (k : ℕ) → k < length starts → Contains path (slice_index starts k)
  pub first : 0 < count → (0 < length starts) × (slice_index starts 0 ≡ 0)

-- how many successors are still to be looked at
pub record AreLeft (graph : List (List ℕ)) (states : List State) (left path : List ℕ) : Type 0 where
  pub fit : length left ≡ length graph
  pub inside : (a : ℕ) → slice_index left a ≤ length (slice_index_or graph a [])
  pub at_new : (a : ℕ) → state_at states a ≡ New → length (slice_index_or graph a []) ≤ slice_index left a
  pub at_open : (a i : ℕ) → state_at states a ≡ Open i → Contains path i ⊎ (slice_index left a ≡ 0)
  pub at_closed : (a number : ℕ) → state_at states a ≡ Closed number → slice_index left a ≡ 0

-- what holds between two steps
pub record IsOngoing (graph : List (List ℕ)) (states : List State)
    (left opened starts path : List ℕ) (closed : ℕ) : Type 0 where
  pub fit : length states ≡ length graph
  pub are_opened : AreOpened states opened
  pub is_path : IsPath path starts (length opened)
  pub are_left : AreLeft graph states left path
  -- open places reach what was found since the start of their component
  pub open_reach :
      (a b i j : ℕ)
      → state_at states a ≡ Open i → state_at states b ≡ Open j → IsFromStart starts i j → Reaches graph a b
  -- the places of a closed component reach each other
  pub closed_reach :
      (a b number : ℕ)
      → state_at states a ≡ Closed number → state_at states b ≡ Closed number → Reaches graph a b
  pub looked_at :
      (a k : ℕ)
      → k < length (slice_index_or graph a []) → slice_index left a ≤ k
      → MayStep starts (state_at states a) (state_at states (slice_index (slice_index_or graph a []) k))
  pub numbered : (a number : ℕ) → state_at states a ≡ Closed number → number < closed
  pub used : (number : ℕ) → number < closed → (a : ℕ) × (state_at states a ≡ Closed number)
  pub room : closed + length starts + count_by is_new states ≤ length graph

abbrev pub IsSearch : List (List ℕ) → Search → Type 0
IsSearch graph s =
    IsOngoing graph s.states.items s.left.items s.opened.items s.starts.items s.path.items s.closed

-- what is still to be done until the path is empty: each step makes it less
abbrev pub work_of : Search → ℕ
work_of s = 2 * sum s.left.items + length s.path.items

-- a new place is put at the end of the path, in a component of its own
pub record Opens (old new : Search) (place : ℕ) : Type 0 where
  pub states : new.states.items ≡ slice_set old.states.items place (Open (length old.opened.items))
  pub left : new.left.items ≡ old.left.items
  pub opened : new.opened.items ≡ old.opened.items ++ place ∷ []
  pub starts : new.starts.items ≡ old.starts.items ++ length old.opened.items ∷ []
  pub path : new.path.items ≡ old.path.items ++ length old.opened.items ∷ []
  pub closed : new.closed ≡ old.closed

-- a step from the last place of the path to this one is looked at
abbrev pub LooksAt : Search → Search → ℕ → Type 0
LooksAt old new place =
    (graph : List (List ℕ)) (from position : ℕ)
    → IsSearch graph old → HasLast old.path.items position → state_at old.states.items from ≡ Open position
    → HasStep graph from place
    → IsSearch graph new × MayStep new.starts.items (Open position) (state_at new.states.items place)
    × (state_at new.states.items from ≡ Open position)

-- the last place of the path is left, once all its successors were looked at
abbrev pub Leaves : Search → Search → ℕ → Type 0
Leaves old new position =
    (graph : List (List ℕ))
    → IsSearch graph old → slice_index old.left.items (slice_index old.opened.items position) ≡ 0
    → IsSearch graph new

-- the numbers above the limit are popped from the end, down to one that isn't
pub record PopsAbove (old new : List ℕ) (limit : ℕ) : Type 0 where
  pub fewer : length new ≤ length old
  pub kept : (k : ℕ) → k < length new → slice_index new k ≡ slice_index old k
  pub popped : (k : ℕ) → length new ≤ k → k < length old → limit < slice_index old k
  pub last : 0 < length new → slice_index new (length new - 1) ≤ limit

-- the state of a place once all from a position on are closed
abbrev pub closed_from : ℕ → ℕ → State → State
closed_from position number New = New
closed_from position number (Open i) = if nat_lt i position then Open i else Closed number
closed_from position number (Closed lower) = Closed lower

-- the open places from the position on are closed as one component
pub record ClosesFrom (old new : Search) (position : ℕ) : Type 0 where
  pub states : (a : ℕ) → state_at new.states.items a ≡ closed_from position old.closed (state_at old.states.items a)
  pub fit : length new.states.items ≡ length old.states.items
  pub news : count_by is_new new.states.items ≡ count_by is_new old.states.items
  pub left : new.left.items ≡ old.left.items
  pub opened : new.opened.items ≡ take position old.opened.items
  pub starts : new.starts.items ≡ old.starts.items
  pub path : new.path.items ≡ old.path.items
