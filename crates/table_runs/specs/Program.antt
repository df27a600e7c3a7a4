-- What a run of a program came to.
use Rattle.std.specs.Prelude.{◌⊎◌, ℕ, Bool, List, Option}
use Rattle.std.specs.Borrow.{Bor}
use Rattle.std.specs.Io.KnownBytes.{Keeps}
use Rattle.line_texts.specs.Questions.{IsReadAs}
use Rattle.table_runs.specs.Answers.{AreAllTold, AreFirstTold}
use Rattle.table_runs.specs.Below.{CxOf, DelegateOf, Goal, Outcome, Reads, Rules, Table}
use Rattle.table_runs.specs.declared.program.questions.Checks.{Checks}

module _ {D V P F A T : Type 0} (G : DelegateOf D (Table (Bor Rules)) V P F Goal Outcome A T)
    (X : CxOf (Table (Bor Rules)) Goal Outcome A T) (same : Goal → Goal → Bool) (same_result : Outcome → Outcome → Bool)
    (checks : Checks) (known old new : Option (List ℕ)) where
  -- all questions of the text were answered, and their lines were written
  abbrev pub IsAllTold : Bool → Type 0
  IsAllTold all_fine = IsReadAs (λ text table. Reads text table.lender.now) known
      (λ table. AreAllTold G X same same_result checks table table.lender.now old new all_fine)

  -- nothing was written, or a beginning of the lines of the text's first questions, which were answered
  abbrev pub IsBrokenOff : Type 0
  IsBrokenOff = Keeps old new ⊎ IsReadAs (λ text table. Reads text table.lender.now) known
      (λ table. AreFirstTold G X same same_result checks table table.lender.now old new)
