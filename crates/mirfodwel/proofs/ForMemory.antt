-- The page of a goal is left unfinished for want of memory alone.
use Rattle.std.proofs.Common.{◌≡◌, ℕ, ◌<◌, List, Option, Some, length, subst, sym}
use Rattle.std.specs.Prelude.{Err, IfErr, Ok, Result}
use Rattle.std.specs.Result.{IsErrAnd}
use Rattle.graph_pages.specs.Program.{EndsShowing}
use Rattle.graph_pages.specs.declared.stop.Stop.{Stop}
use Rattle.graph_pages.specs.declared.stop.Stop.TheVariants.{BadData, BadLine, InputOrOutput, Memory}
use Rattle.rule_tables.specs.Text.{IsFirstBadLine}
use Rattle.mirfodwel.specs.Rows.{rows_of}
use Rattle.mirfodwel.specs.TableText.{text_asking}
use Rattle.mirfodwel.specs.Texts.{IsForMemory}
use Rattle.mirfodwel.specs.declared.lent.Lent.{Lent}
use Rattle.mirfodwel.proofs.TextReads.{no_bad_line}

for_memory : (lent own : Lent) (depth goal : ℕ) (text : List ℕ) (old new : Option (List ℕ)) (stop : Stop)
    → lent ≡ own → goal < length own.goals.now → text ≡ text_asking (rows_of lent) depth goal
    → EndsShowing (Some text) old new stop → IsForMemory stop
for_memory lent own depth goal text old new (BadLine number) same is its ends =
    no_bad_line (rows_of lent) depth goal lent.in_order
    (subst (λ (it : Lent). goal < length it.goals.now) (sym same) is) number
    (subst (λ (it : List ℕ). IsFirstBadLine it number) its ends.0)
for_memory lent own depth goal text old new (BadData place) same is its ends = ends
for_memory lent own depth goal text old new InputOrOutput same is its ends = tt
for_memory lent own depth goal text old new Memory same is its ends = tt

-- the same of a result that passes the stop on
pub passed_on : {T : Type 0} (lent own : Lent) (depth goal : ℕ) (text : List ℕ) (old new : Option (List ℕ))
    (result : Result T Stop) (stop : Stop) → lent ≡ own → goal < length own.goals.now
    → text ≡ text_asking (rows_of lent) depth goal → EndsShowing (Some text) old new stop
    → IsErrAnd result (λ passed. passed ≡ stop) → IfErr result IsForMemory
passed_on lent own depth goal text old new (Ok x) stop same is its ends passed = absurd passed
passed_on lent own depth goal text old new (Err e) stop same is its ends passed =
    subst IsForMemory (sym passed) (for_memory lent own depth goal text old new stop same is its ends)
