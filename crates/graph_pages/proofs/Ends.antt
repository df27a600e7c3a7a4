-- What a program came to, and its status.
use Rattle.std.proofs.Common.{◌≡◌, ◌==◌, ◌≤◌, ℕ, arith, Bool, Err, false, List, [], None, Ok, Option, Result, Some}
use Rattle.std.proofs.Common.{subst, true}
use Rattle.std.specs.Borrow.{Bor}
use Rattle.std.specs.Io.KnownBytes.{Keeps}
use Rattle.std.specs.Prelude.{IfErr, IfOk, IfSome, IsSomeAnd, map}
use Rattle.json.specs.Lex.{tokens}
use Rattle.json.specs.Token.{Token}
use Rattle.rule_tables.specs.Frame.{script_of}
use Rattle.graph_pages.proofs.Named.{claims_named}
use Rattle.graph_pages.specs.Below.{candidates_of, CxOf, DelegateOf, Goal, IsFirstBadLine, Outcome, Reads, Rules}
use Rattle.graph_pages.specs.Below.{Table, verdicts}
use Rattle.graph_data.specs.Data.{plain_claim}
use Rattle.graph_data.specs.Page.{IsPage}
use Rattle.graph_pages.specs.Program.{EndsChecking, EndsShowing, IsJudgedPage, ShowsAnswers}
use Rattle.graph_data.specs.Page.{IsPageText}
use Rattle.graph_pages.specs.Shown.{AreShown, HasClaims}
use Rattle.graph_pages.specs.Stop.{status_after, status_of}
use Rattle.graph_pages.specs.Told.{AreJudged}
use Rattle.graph_pages.specs.declared.form.Form.{Form}
use Rattle.graph_pages.specs.declared.form.Form.TheVariants as form
use Rattle.graph_pages.specs.declared.page.Page.{Page}
use Rattle.graph_pages.specs.declared.stop.Stop.{Stop}
use Rattle.graph_pages.specs.declared.stop.Stop.TheVariants.{BadData, BadLine, InputOrOutput, Memory}
use Rattle.graph_data.specs.declared.reading.Claim.{Claim}

-- ---- statuses

early : (stop : Stop) → 2 ≤ status_of stop
early (BadLine n) = omega arith
early (BadData n) = omega arith
early InputOrOutput = omega arith
early Memory = omega arith

pub told_by_status : (P : Bool → Type 0) (came : Result Bool Stop) (status : ℕ) → status ≡ status_after came
    → IfOk came P → status ≤ 1 → P (status == 0)
told_by_status P (Ok true) status is told low = rw is told
told_by_status P (Ok false) status is told low = rw is told
told_by_status P (Err stop) status is told low = absurd (omega (arith, early stop))

pub status_in_range : (came : Result Bool Stop) (status : ℕ) → status ≡ status_after came → status ≤ 4
status_in_range (Ok true) status is = omega arith
status_in_range (Ok false) status is = omega arith
status_in_range (Err (BadLine n)) status is = omega arith
status_in_range (Err (BadData n)) status is = omega arith
status_in_range (Err InputOrOutput) status is = omega arith
status_in_range (Err Memory) status is = omega arith

some_bad_line : (known : Option (List ℕ)) (n : ℕ) → IfSome known (λ text. IsFirstBadLine text n)
    → IfSome known (λ text. (m : ℕ) × IsFirstBadLine text m)
some_bad_line None n bad = tt
some_bad_line (Some text) n bad = (n, bad)

module _ (known old new : Option (List ℕ)) where
  pub bad_line_by_status : (came : Result Bool Stop) (status : ℕ) → status ≡ status_after came
      → IfErr came (EndsShowing known old new) → status ≡ 2
      → IfSome known (λ text. (n : ℕ) × IsFirstBadLine text n) × Keeps old new
  bad_line_by_status (Ok true) status is ended two = absurd (omega arith)
  bad_line_by_status (Ok false) status is ended two = absurd (omega arith)
  bad_line_by_status (Err (BadLine n)) status is ended two = (some_bad_line known n ended.0, ended.1)
  bad_line_by_status (Err (BadData n)) status is ended two = absurd ended
  bad_line_by_status (Err InputOrOutput) status is ended two = absurd (omega arith)
  bad_line_by_status (Err Memory) status is ended two = absurd (omega arith)

  pub bad_data_by_status : (came : Result Bool Stop) (status : ℕ) → status ≡ status_after came
      → IfErr came (EndsChecking known old new) → status ≡ 2 → ¬ (IsSomeAnd known IsPageText) × Keeps old new
  bad_data_by_status (Ok true) status is ended two = absurd (omega arith)
  bad_data_by_status (Ok false) status is ended two = absurd (omega arith)
  bad_data_by_status (Err (BadLine n)) status is ended two = absurd ended
  bad_data_by_status (Err (BadData n)) status is ended two = ended
  bad_data_by_status (Err InputOrOutput) status is ended two = absurd (omega arith)
  bad_data_by_status (Err Memory) status is ended two = absurd (omega arith)

-- ---- ends that are none

module _ {D V P F A T : Type 0} (G : DelegateOf D (Table (Bor Rules)) V P F Goal Outcome A T)
    (X : CxOf (Table (Bor Rules)) Goal Outcome A T) (known old new : Option (List ℕ)) (text : List ℕ)
    (table : Table (Bor Rules)) (is_known : IfSome known (λ bytes. text ≡ bytes)) where
  pub shown_of_text : G.script table ≡ (λ goal. script_of (candidates_of table.lender.now goal)) →
      (wanted : Form) (page : Page) → Reads text table.lender.now →
      (wanted ≡ form.Data → (rules : Rules) → Reads text rules → HasClaims rules page []) → (r : Result Bool Stop) →
      IfOk r (AreShown (verdicts X) (G.script table) table.lender.now page old new) →
      IfOk r (ShowsAnswers G X known old new wanted)
  shown_of_text scripts wanted page reads begun (Ok all_fine) shown = record {
    text = text;
    is_known = is_known;
    table = table;
    reads = reads;
    claims = shown.claims;
    are_asked = shown.are_asked;
    is_written = λ is_data.
        shown.is_written (begun is_data table.lender.now reads)
        (claims_named (verdicts X) (G.script table) reads.statements table.lender.now reads.table scripts
        shown.claims all_fine shown.are_asked);
  }
  shown_of_text scripts wanted page reads begun (Err stop) shown = tt

  pub checked_of_text : (claims : List Claim) (left : List Token) → left ≡ tokens text →
      IsPage left table.lender.now (map plain_claim claims) → (r : Result Bool Stop) →
      IfOk r (λ fine. AreJudged (verdicts X) (G.script table) table.lender.now claims fine old new) →
      IfOk r (IsJudgedPage G X known old new)
  checked_of_text claims left same page (Ok fine) judged =
      record {
        text = text;
        is_known = is_known;
        table = table;
        claims = claims;
        is_page = subst (λ ts. IsPage ts table.lender.now (map plain_claim claims)) same page;
        are_judged = judged;
      }
  checked_of_text claims left same page (Err stop) judged = tt
