-- What the calls on texts come to.
use Rattle.std.specs.Prelude.{◌≡◌, ◌==◌, ◌⊎◌, ℕ, ◌≤◌, if◌then◌else◌, Bool, List, ⊤}
use Rattle.graph_pages.specs.declared.form.Form.{Form}
use Rattle.graph_pages.specs.declared.form.Form.TheVariants.{Data, Dot, Text}
use Rattle.graph_pages.specs.declared.stop.Stop.{Stop}
use Rattle.graph_pages.specs.declared.stop.Stop.TheVariants.{BadData, BadLine, InputOrOutput, Memory}

-- A text was worked through, or it was not in order, or there was no memory. `Told` says what its lines are, and
-- whether all of them are fine; `IsBad` of what text the work is not begun.
pub record IsWorkedThrough (Told : List ℕ → Bool → Type 0) (IsBad : Type 0) (status : ℕ) (all : List ℕ) : Type 0 where
  pub status_is : status ≤ 2 ⊎ status ≡ 4
  pub told : status ≤ 1 → Told all (status == 0)
  pub bad : status ≡ 2 → IsBad

-- what goes to memory ended early for want of memory, and not since the text was bad
abbrev pub IsForMemory : Stop → Type 0
IsForMemory (BadLine number) = ⊥
IsForMemory (BadData place) = ⊥
IsForMemory InputOrOutput = ⊤
IsForMemory Memory = ⊤

-- the form of this number
abbrev pub form_of : ℕ → Form
form_of number = if number == 0 then Text 100 else (if number == 1 then Dot else Data)
