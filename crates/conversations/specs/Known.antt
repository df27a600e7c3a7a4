-- What is known beside the rules, and what a line does to both.
use Rattle.std.specs.Prelude.{◌≡◌, ◌⊎◌, ℕ, Bool, List, ◌++◌, Option}
use Rattle.std.specs.Io.KnownBytes.{Keeps}
use Rattle.conversation_lines.specs.Taken.{TakesLine}
use Rattle.line_texts.specs.Writing.{AppendsBeginning}
use Rattle.conversations.specs.Answer.{Lending, lent_by}
use Rattle.conversations.specs.Below.{AreShown, AreSoundFindings, Change, CxOf, Findings, Goal, IsOpenTableOf}
use Rattle.conversations.specs.Below.{KeepsAllOtherCandidates, NodeId, Outcome, scripts_of, Table, verdicts}
use Rattle.conversations.specs.Conversation.{Came, changes_by, is_fine, told_of, Turn}

-- What was found out is sound by the rules of the table, and what was shown is shown by them.
pub record IsKnown {A T : Type 0} (X : CxOf Lending Goal Outcome A T) (same : Goal → Goal → Bool)
    (table : Table) (found : Findings Goal Outcome T) (shown : List (Goal × (Outcome × NodeId))) : Type 0 where
  pub sound : AreSoundFindings same (verdicts X) (scripts_of table) found
  pub are_shown : (cx : Lending) → lent_by cx ≡ table → AreShown X cx shown

-- It was known so of a table that differs in the rules of these goals alone.
pub record IsKnownSince {A T : Type 0} (X : CxOf Lending Goal Outcome A T) (same : Goal → Goal → Bool)
    (changed : List Goal) (table : Table) (found : Findings Goal Outcome T)
    (shown : List (Goal × (Outcome × NodeId))) : Type 0 where
  pub before : Table
  pub keeps : KeepsAllOtherCandidates changed before table
  pub known : IsKnown X same before found shown

-- `MayCome` says what may come of a line, by the changes that the rules have.
module _ (MayCome : List Change → List ℕ → Came → Type 0) where
  -- a turn was taken with this line, where the rules had these changes; it left this table, and these are its words
  pub record Took (changes : List Change) (new : Table) (number : ℕ) (line words : List ℕ) (fine : Bool) : Type 0 where
    pub turn : Turn
    pub is_number : turn.number ≡ number
    pub is_line : turn.line ≡ line
    pub may_come : MayCome changes turn.line turn.came
    pub is_table : IsOpenTableOf (changes ++ changes_by turn.came) new
    pub are_words : words ≡ told_of turn
    pub is_fine : fine ≡ is_fine turn.came

  -- so it was, whatever changes the old table had
  abbrev pub Takes : Table → Table → ℕ → List ℕ → List ℕ → Bool → Type 0
  Takes old new number line words fine =
      (changes : List Change) → IsOpenTableOf changes old → Took changes new number line words fine

  -- A line was read, off what was left, and taken, and what is told of it was written so.
  pub record Turned (Written : List ℕ → Type 0) (left leaves : Option (List ℕ)) (old new : Table) (number : ℕ)
      (fine is_last : Bool) : Type 0 where
    pub line : List ℕ
    pub words : List ℕ
    pub taken : TakesLine left leaves line is_last
    pub took : Takes old new number line words fine
    pub written : Written words

  -- nothing was written, or a beginning of what is told of a line that was taken
  abbrev pub TurnBroke : (before after left leaves : Option (List ℕ)) → Table → Table → ℕ → Type 0
  TurnBroke before after left leaves old new number = Keeps before after
      ⊎ ((fine : Bool) × (is_last : Bool)
      × Turned (AppendsBeginning before after) left leaves old new number fine is_last)
