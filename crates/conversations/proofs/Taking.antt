-- What a line that was taken comes to.
use Rattle.std.proofs.Common.{◌≡◌, ℕ, Bool, false, List, [], ◌++◌, Result, Ok, Err, append-nil, refl, subst, sym}
use Rattle.std.specs.Prelude.{IfOk, OnOk}
use Rattle.answer_lines.specs.declared.goals.Check.TheVariants.{Accepted}
use Rattle.table_runs.specs.Right.{IsRightOutcome, SomeGraphShows}
use Rattle.conversations.specs.Below.{Change, CxOf, Fault, Goal, HasNoChange, IsOpenTableOf, IsRightlyTold, Outcome}
use Rattle.conversations.specs.Below.{Table, Told}
use Rattle.conversations.specs.Conversation.{Came, changes_by, is_fine, Malformed, Refused, words_of}
use Rattle.conversations.specs.Known.{Takes, Took}

module _ (MayCome : List Change → List ℕ → Came → Type 0) (changes : List Change) (new : Table) (number : ℕ)
    (line words : List ℕ) (fine : Bool) where
  pub took : (came : Came) → MayCome changes line came → IsOpenTableOf (changes ++ changes_by came) new
      → words ≡ words_of number came → fine ≡ is_fine came → Took MayCome changes new number line words fine
  took came may table told fine_is = record {
    turn = record { number = number; line = line; came = came };
    is_number = refl;
    is_line = refl;
    may_come = may;
    is_table = table;
    are_words = told;
    is_fine = fine_is;
  }

-- what the outcome is worth, and what was accepted, together
pub rightly : {C A T : Type 0} (X : CxOf C Goal Outcome A T) (cx : C) (goal : Goal)
    (came : Result Told (Fault Goal Outcome)) → IfOk came (λ told. IsRightOutcome X cx goal told.outcome)
    → IfOk came (λ told. told.check ≡ Accepted → SomeGraphShows X cx goal told.outcome)
    → IfOk came (IsRightlyTold X cx goal)
rightly X cx goal (Ok told) right shown = record { right = right; shown = shown }
rightly X cx goal (Err fault) right shown = tt

-- a table that no change came to
pub unchanged : (changes : List Change) (table : Table) → IsOpenTableOf changes table
    → IsOpenTableOf (changes ++ []) table
unchanged changes table = subst (λ all. IsOpenTableOf all table) (sym (append-nil changes))

module _ {E : Type 0} (MayCome : List Change → List ℕ → Came → Type 0) (old new : Table) (stays : HasNoChange old new)
    (number : ℕ) (line words : List ℕ) where
  -- memory was refused for the line, if that could be told
  pub refused_takes : ((changes : List Change) → MayCome changes line Refused) → (told : Result Bool E)
      → OnOk told (words ≡ words_of number Refused) → IfOk told (λ fine. fine ≡ false)
      → IfOk told (Takes MayCome old new number line words)
  refused_takes may (Ok fine) are is = λ changes table.
      took MayCome changes new number line words fine Refused (may changes)
      (unchanged changes new (stays changes table))
      are is
  refused_takes may (Err stop) are is = tt

  -- it was malformed
  pub malformed_takes : ((changes : List Change) → MayCome changes line Malformed) → (told : Result Bool E)
      → OnOk told (words ≡ words_of number Malformed) → IfOk told (λ fine. fine ≡ false)
      → IfOk told (Takes MayCome old new number line words)
  malformed_takes may (Ok fine) are is = λ changes table.
      took MayCome changes new number line words fine Malformed (may changes)
      (unchanged changes new (stays changes table)) are is
  malformed_takes may (Err stop) are is = tt
