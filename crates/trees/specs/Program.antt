-- What a run of the program came to.
use Rattle.std.specs.Prelude.{◌⊎◌, ℕ, Bool, List, Option}
use Rattle.std.specs.Borrow.{Bor}
use Rattle.std.specs.Io.KnownBytes.{Keeps}
use Rattle.line_texts.specs.Questions.{IsReadAs}
use Rattle.trees.specs.Below.{Builder, CxOf, DelegateOf, Goal, Outcome, Reads, Recorder, Rules, Table}
use Rattle.trees.specs.Shown.{AreAllShown, AreFirstShown}

module _ {D V F A T : Type 0}
    (G : DelegateOf D (Table (Bor Rules)) V (Recorder Builder Goal Outcome) F Goal Outcome A T)
    (X : CxOf (Table (Bor Rules)) Goal Outcome A T) (same : Goal → Goal → Bool) (same_result : Outcome → Outcome → Bool)
    (known old new : Option (List ℕ)) where
  -- all questions of the text were worked out, and their lines were written
  abbrev pub IsAllShown : Bool → Type 0
  IsAllShown all_fine = IsReadAs (λ text table. Reads text table.lender.now) known
      (λ table. AreAllShown G X same same_result table table.lender.now old new all_fine)

  -- nothing was written, or a beginning of the lines of the text's first questions, which were worked out
  abbrev pub IsBrokenOff : Type 0
  IsBrokenOff = Keeps old new ⊎ IsReadAs (λ text table. Reads text table.lender.now) known
      (λ table. AreFirstShown G X same same_result table table.lender.now old new)
