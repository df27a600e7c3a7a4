-- What results say of their goals.
use Rattle.std.specs.Prelude.{◌≢◌, Bool, if◌then◌else◌}
use Rattle.open_graphs.specs.Graph as theory
use Rattle.search_context.specs.declared.context.Cx.{Ghosts as CxOf}

-- which results say yes, and which say no
pub record Verdicts (R : Type 0) : Type 0 where
  pub is_yes : R → Bool
  pub is_no : R → Bool

-- the same of a context's results
abbrev pub verdicts : {C I R A T : Type 0} → CxOf C I R A T → Verdicts R
verdicts X = record { is_yes = X.is_yes; is_no = X.is_no }

-- what a result says of its goal
abbrev pub verdict_of : {R : Type 0} → Verdicts R → R → theory.Verdict
verdict_of says r = if says.is_yes r then theory.Yes else if says.is_no r then theory.No else theory.Neither

-- the result is yes or no
abbrev pub IsDefinite : {R : Type 0} → Verdicts R → R → Type 0
IsDefinite says r = verdict_of says r ≢ theory.Neither
