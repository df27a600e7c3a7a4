-- What a run of a program came to.
use Rattle.std.specs.Prelude.{◌≡◌, ℕ, Bool, true, List, map, Option, Some, IfSome, IsSomeAnd, ⊤}
use Rattle.std.specs.Borrow.{Bor}
use Rattle.std.specs.Io.KnownBytes.{Keeps}
use Rattle.json.specs.Lex.{tokens}
use Rattle.graph_pages.specs.Below.{CxOf, DelegateOf, Goal, IsFirstBadLine, Outcome, questions_of, Reads, Rules}
use Rattle.graph_pages.specs.Below.{Table, verdicts}
use Rattle.graph_data.specs.Data.{plain_claim, PlainClaim}
use Rattle.graph_data.specs.Page.{IsPage, IsPageText, IsWrittenPage}
use Rattle.graph_data.specs.Rules.{AreSameRules}
use Rattle.graph_pages.specs.Shown.{WereAsked}
use Rattle.graph_pages.specs.Told.{AreJudged}
use Rattle.graph_pages.specs.declared.form.Form.{Form}
use Rattle.graph_pages.specs.declared.form.Form.TheVariants.{Data}
use Rattle.graph_pages.specs.declared.stop.Stop.{Stop}
use Rattle.graph_pages.specs.declared.stop.Stop.TheVariants.{BadData, BadLine, InputOrOutput, Memory}
use Rattle.graph_data.specs.declared.reading.Claim.{Claim}

module _ (known old new : Option (List ℕ)) where
  -- Showing ends early: where the text has a bad line, nothing is written.
  abbrev pub EndsShowing : Stop → Type 0
  EndsShowing (BadLine n) = IfSome known (λ text. IsFirstBadLine text n) × Keeps old new
  EndsShowing (BadData n) = ⊥
  EndsShowing InputOrOutput = ⊤
  EndsShowing Memory = ⊤

  -- And so does checking, where the text is no page.
  abbrev pub EndsChecking : Stop → Type 0
  EndsChecking (BadLine n) = ⊥
  EndsChecking (BadData n) = ¬ (IsSomeAnd known IsPageText) × Keeps old new
  EndsChecking InputOrOutput = ⊤
  EndsChecking Memory = ⊤

module _ {D V P F A T : Type 0} (G : DelegateOf D (Table (Bor Rules)) V P F Goal Outcome A T)
    (X : CxOf (Table (Bor Rules)) Goal Outcome A T) (known old new : Option (List ℕ)) where
  -- The text, which is the known one where one is known, makes a table, and all its questions were asked. As data a
  -- page is written that has the same rules and the claims of their answers, in order.
  pub record ShowsAnswers (form : Form) (all_fine : Bool) : Type 0 where
    pub text : List ℕ
    pub is_known : IfSome known (λ bytes. text ≡ bytes)
    pub table : Table (Bor Rules)
    pub reads : Reads text table.lender.now
    pub claims : List PlainClaim
    pub are_asked : WereAsked (verdicts X) (G.script table) (questions_of table.lender.now) claims all_fine
    pub is_written : form ≡ Data → IsWrittenPage table.lender.now claims old new

  -- The text is a page of data, and all its claims were judged.
  pub record IsJudgedPage (none_refused : Bool) : Type 0 where
    pub text : List ℕ
    pub is_known : IfSome known (λ bytes. text ≡ bytes)
    pub table : Table (Bor Rules)
    pub claims : List Claim
    pub is_page : IsPage (tokens text) table.lender.now (map plain_claim claims)
    pub are_judged : AreJudged (verdicts X) (G.script table) table.lender.now claims none_refused old new

-- What a check finds are these rules and these claims, none of which it refuses.
pub record ReadsBack (rules : Rules) (claims : List PlainClaim) (found : Rules) (read : List PlainClaim)
    (none_refused : Bool) : Type 0 where
  pub same_rules : AreSameRules rules found
  pub same_claims : read ≡ claims
  pub accepted : none_refused ≡ true

module _ {D V P F A T : Type 0} (G : DelegateOf D (Table (Bor Rules)) V P F Goal Outcome A T)
    (X : CxOf (Table (Bor Rules)) Goal Outcome A T) where
  -- The text is a page, so it is never bad data, and whatever checks it finds these rules and claims.
  pub record IsReadBack (rules : Rules) (claims : List PlainClaim) (text : List ℕ) : Type 0 where
    pub is_page : IsPageText text
    pub finds : (old new : Option (List ℕ)) (none_refused : Bool)
        (checked : IsJudgedPage G X (Some text) old new none_refused) →
        ReadsBack rules claims checked.table.lender.now (map plain_claim checked.claims) none_refused
