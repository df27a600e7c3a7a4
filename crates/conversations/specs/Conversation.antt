-- A conversation: lines are taken one after another, each by the rules as they stand before it.
use Rattle.std.specs.Prelude.{◌≡◌, ◌+◌, ℕ, Bool, true, false, IfSome, List, [], ◌∷◌, ◌++◌, codes, decimal, length, map}
use Rattle.std.specs.Prelude.{Option, Result, take, ⊤}
use Rattle.std.specs.Io.KnownBytes.{Appends}
use Rattle.std.specs.List.{flat_map, list_all}
use Rattle.answer_lines.specs.Goals.{line_told}
use Rattle.conversation_lines.specs.Grammar.{Forget, IsMalformed, OfTable, Says}
use Rattle.line_texts.specs.Lines.{lines_of}
use Rattle.line_texts.specs.Writing.{AppendsBeginning}
use Rattle.rule_tables.specs.Grammar as table
use Rattle.conversations.specs.Answer.{IsAnswer, Lending}
use Rattle.conversations.specs.Below.{Add, Change, Clear, CxOf, DelegateOf, Fault, Goal, Outcome, Told}
use Rattle.table_runs.specs.Told as asked

-- what came of a line
pub data Came : Type 0 where
  -- there was nothing to do
  PassedOver : Came
  -- the rules changed
  Changed : Change → Came
  -- the goal of this name was asked, and came to this
  Answered : List ℕ → Result Told (Fault Goal Outcome) → Came
  -- the grammar does not allow the line
  Malformed : Came
  -- memory was refused for the line, and nothing changed
  Refused : Came

-- a line, by its number from 1, and what came of it
pub record Turn : Type 0 where
  pub number : ℕ
  pub line : List ℕ
  pub came : Came

-- ---- the rules

-- the changes that came of a line: one, or none
abbrev pub changes_by : Came → List Change
changes_by (Changed change) = change ∷ []
changes_by _ = []

-- the changes so far, by which the rules stand
abbrev pub changes_in : List Turn → List Change
changes_in = flat_map (λ turn. changes_by turn.came)

-- ---- what is told

-- of a question its answer, and of a line for which there is none why
abbrev pub words_of : ℕ → Came → List ℕ
words_of number PassedOver = []
words_of number (Changed change) = []
words_of number (Answered name came) = line_told name came
words_of number Malformed = codes "line " ++ decimal number ++ codes ": malformed\n"
words_of number Refused = codes "line " ++ decimal number ++ codes ": out of memory\n"

abbrev pub told_of : Turn → List ℕ
told_of turn = words_of turn.number turn.came

-- no question met a fault, no graph was refused, and no line was malformed or refused
abbrev pub is_fine : Came → Bool
is_fine PassedOver = true
is_fine (Changed change) = true
is_fine (Answered name came) = asked.is_fine came
is_fine Malformed = false
is_fine Refused = false

-- ---- what may come of a line

module _ {D V P F A T : Type 0} (G : DelegateOf D Lending V P F Goal Outcome A T) (X : CxOf Lending Goal Outcome A T)
    (same : Goal → Goal → Bool) (same_result : Outcome → Outcome → Bool) where
  -- This may come of the line, where the rules have these changes. Memory may be refused for any line.
  abbrev pub MayCome : List Change → List ℕ → Came → Type 0
  MayCome changes line PassedOver = Says line (OfTable table.Nothing)
  MayCome changes line (Changed (Add is_marked name questions)) =
      Says line (OfTable (table.Rule is_marked name questions))
  MayCome changes line (Changed (Clear name)) = Says line (Forget name)
  MayCome changes line (Answered name came) = (depth : ℕ) × Says line (OfTable (table.Ask depth name))
      × IsAnswer G X same same_result changes depth name came
  MayCome changes line Malformed = IsMalformed line
  MayCome changes line Refused = ⊤

-- ---- lines in turn

-- `MayCome` says what may come of a line, by the changes that the rules have.
module _ (MayCome : List Change → List ℕ → Came → Type 0) where
  -- These turns were taken one after another, each by the rules as those before it left them.
  pub data InTurn : List Turn → Type 0 where
    none : InTurn []
    more : (turns : List Turn) (turn : Turn) → InTurn turns → turn.number ≡ length turns + 1
        → MayCome (changes_in turns) turn.line turn.came → InTurn (turns ++ turn ∷ [])

  -- All lines were taken in turn, and what is told of them was written, no more; `all_fine` says that all were fine.
  pub record IsHeld (known old new : Option (List ℕ)) (all_fine : Bool) : Type 0 where
    pub turns : List Turn
    pub in_turn : InTurn turns
    pub are_lines : IfSome known (λ text. map (λ turn. turn.line) turns ≡ lines_of text)
    pub written : Appends old new (flat_map told_of turns)
    pub fine : all_fine ≡ list_all (λ turn. is_fine turn.came) turns

  -- The first lines were, and a beginning of what is told of them was written.
  pub record IsBrokenOff (known old new : Option (List ℕ)) : Type 0 where
    pub turns : List Turn
    pub in_turn : InTurn turns
    pub are_lines : IfSome known (λ text. map (λ turn. turn.line) turns ≡ take (length turns) (lines_of text))
    pub written : AppendsBeginning old new (flat_map told_of turns)
