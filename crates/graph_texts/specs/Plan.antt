-- The lines of a graph's text, before they are words.
use Rattle.std.specs.Prelude.{◌≡◌, ℕ, ◌+◌, zero, suc, nat_eq, nat_le, nat_lt, Bool, true, false, ◌&&◌, ◌||◌, ◌⊎◌}
use Rattle.std.specs.Prelude.{if◌then◌else◌, List, [], ◌∷◌, ◌++◌, length, map, fold, Option, Some, None, option_map}
use Rattle.std.specs.Prelude.{option_and_then, slice_get}
use Rattle.std.specs.List.{filter_map, IsDistinct, list_all, list_any}
use Rattle.std.specs.Option.{option_map_or}
use Rattle.graph_texts.specs.Below.{Goal, Node, Outcome}
use Rattle.graph_texts.specs.declared.plan.Line.{Line}
use Rattle.graph_texts.specs.declared.plan.Line.TheVariants.{Again, Cut, Shown}
use Rattle.graph_texts.specs.declared.plan.Mark.{Mark}
use Rattle.graph_texts.specs.declared.plan.Mark.TheVariants as marked
use Rattle.graph_texts.specs.declared.plan.Open.{Open}

-- the place of the node that the line shows with what it rests on
abbrev pub place_shown : Line → Option ℕ
place_shown (Shown place level number) = Some place
place_shown (Again place level number closes) = None
place_shown (Cut place level) = None

-- the places of the nodes that are shown, in order
abbrev pub places_shown : List Line → List ℕ
places_shown lines = filter_map place_shown lines

-- no node is shown twice
abbrev pub AreShownOnce : List Line → Type 0
AreShownOnce lines = IsDistinct nat_eq (places_shown lines)

-- how many of so many nodes no line shows
abbrev pub left_out : ℕ → List Line → ℕ
left_out zero lines = 0
left_out (suc place) lines = left_out place lines + (if list_any (nat_eq place) (places_shown lines) then 0 else 1)

-- A line leaves its node out only where it stands deeper than `most`, or where there are no more nodes, and
-- none shows one there.
abbrev pub is_cut_below : ℕ → ℕ → Line → Bool
is_cut_below most count (Shown place level number) = nat_le level most
is_cut_below most count (Again place level number closes) = true
is_cut_below most count (Cut place level) = nat_lt most level || nat_le count place

abbrev pub AreCutBelow : ℕ → ℕ → List Line → Type 0
AreCutBelow most count lines = list_all (is_cut_below most count) lines ≡ true

-- ---- lines that are read back

-- the node that a line is about, and how deep the line stands
abbrev pub place_of : Line → ℕ
place_of (Shown place level number) = place
place_of (Again place level number closes) = place
place_of (Cut place level) = place

abbrev pub level_of : Line → ℕ
level_of (Shown place level number) = level
level_of (Again place level number closes) = level
level_of (Cut place level) = level

-- the line says that its node is left out
abbrev pub is_cut : Line → Bool
is_cut (Shown place level number) = false
is_cut (Again place level number closes) = false
is_cut (Cut place level) = true

abbrev pub is_found : List ℕ → Line → Bool
is_found shown line = is_cut line || list_any (nat_eq (place_of line)) shown

-- each line that does not leave its node out is about one that is shown
abbrev pub AreFound : List Line → Type 0
AreFound lines = list_all (is_found (places_shown lines)) lines ≡ true

-- Where lines are read, there is for each node on the way down, the newest first, a list of the targets of its
-- edges that have no line yet. The next line has to be of the first target of the newest node that has one left,
-- and one level below it.
abbrev pub next_line : ℕ → ℕ → List (List ℕ) → Option (List (List ℕ))
next_line place level [] = None
next_line place level ([] ∷ pending) = next_line place level pending
next_line place level ((target ∷ targets) ∷ pending) =
    if nat_eq place target && nat_eq level (length pending) then Some (targets ∷ pending) else None

module _ (nodes : List (Node Goal Outcome)) where
  -- the places that the node's edges lead to, in order
  abbrev pub targets_of : ℕ → List ℕ
  targets_of place = option_map_or (λ node. map (λ e. e.target) node.edges.items) (slice_get nodes place) []

  -- a node that is shown has its edges below it
  abbrev pub opened : Line → List (List ℕ)
  opened (Shown place level number) = targets_of place ∷ []
  opened (Again place level number closes) = []
  opened (Cut place level) = []

  abbrev pub line_read : Line → List (List ℕ) → Option (List (List ℕ))
  line_read line pending = option_map (λ left. opened line ++ left) (next_line (place_of line) (level_of line) pending)

  abbrev pub lines_read : List Line → List (List ℕ) → Option (List (List ℕ))
  lines_read [] pending = Some pending
  lines_read (line ∷ lines) pending = option_and_then (lines_read lines) (line_read line pending)

-- at first the root has no line
abbrev pub unread : List (List ℕ)
unread = (0 ∷ []) ∷ []

-- so many nodes, each edge of which has its line
abbrev pub all_read : ℕ → List (List ℕ)
all_read zero = []
all_read (suc count) = [] ∷ all_read count

-- The lines are those of a walk from the root: below each node that is shown, each of its edges has one line, in order.
abbrev pub AreWhole : List (Node Goal Outcome) → List Line → Type 0
AreWhole nodes lines = (count : ℕ) × (lines_read nodes lines unread ≡ Some (all_read count))

-- ---- the walk

abbrev pub is_unseen : Mark → Bool
is_unseen marked.Unseen = true
is_unseen (marked.Open number) = false
is_unseen (marked.Done number) = false

-- the node was seen: its lines are begun, or at their end
abbrev pub WasSeen : List Mark → ℕ → ℕ → Type 0
WasSeen marks place number =
    (slice_get marks place ≡ Some (marked.Open number)) ⊎ (slice_get marks place ≡ Some (marked.Done number))

-- what holds of a walk between two lines: exactly the nodes that were seen are shown
pub record ShowsSeen (lines : List Line) (marks : List Mark) : Type 0 where
  pub once : AreShownOnce lines
  pub found : AreFound lines
  pub unseen : (place : ℕ) → slice_get marks place ≡ Some marked.Unseen
      → list_any (nat_eq place) (places_shown lines) ≡ false
  pub seen : (place number : ℕ) → WasSeen marks place number → list_any (nat_eq place) (places_shown lines) ≡ true

-- the targets that are to come below the open nodes
abbrev pub pending_of : List Open → List (List ℕ)
pending_of opens = fold (λ pending o. map (λ e. e.target) o.rest.now ∷ pending) ([] ∷ []) opens

-- the lines so far were read, and these targets are to come
abbrev pub IsReplayed : List (Node Goal Outcome) → List Line → List (List ℕ) → Type 0
IsReplayed nodes lines pending = (count : ℕ) × (lines_read nodes lines unread ≡ Some (all_read count ++ pending))

abbrev pub with_target : ℕ → List (List ℕ) → List (List ℕ)
with_target place [] = []
with_target place (targets ∷ pending) = (place ∷ targets) ∷ pending

-- and before these, the next line is one of this place
abbrev pub Expects : List (Node Goal Outcome) → List Line → ℕ → List (List ℕ) → Type 0
Expects nodes lines place pending = IsReplayed nodes lines (with_target place pending)
