-- What is said of a text that is known, of one that was read.
use Rattle.std.proofs.Common.{◌≡◌, ℕ, ◌∙◌, Bool, List, Option, None, Some, Result, Ok, Err, subst}
use Rattle.std.specs.Prelude.{IfErr, IfOk, IfSome}
use Rattle.std.specs.Borrow.{Bor}
use Rattle.graph_pages.specs.Program.{EndsShowing, ShowsAnswers}
use Rattle.graph_pages.specs.declared.form.Form.{Form}
use Rattle.graph_pages.specs.declared.stop.Stop.{Stop}
use Rattle.graph_pages.specs.declared.stop.Stop.TheVariants.{BadData, BadLine, InputOrOutput, Memory}
use Rattle.rule_tables.specs.declared.delegate.Table.{Table}
use Rattle.shown_graphs.specs.Below.{CxOf, DelegateOf, Goal, IsFirstBadLine, Outcome, Rules}

module _ (old new known : Option (List ℕ)) (text : List ℕ) (is_known : IfSome known (λ bytes. text ≡ bytes)) where
  other_known : (other : List ℕ) (k : Option (List ℕ)) → IfSome k (λ bytes. text ≡ bytes) → other ≡ text →
      IfSome k (λ bytes. other ≡ bytes)
  other_known other None is same = tt
  other_known other (Some bytes) is same = same ∙ is

  bad_line : (n : ℕ) (k : Option (List ℕ)) → IfSome k (λ bytes. text ≡ bytes) → IsFirstBadLine text n →
      IfSome k (λ bytes. IsFirstBadLine bytes n)
  bad_line n None is bad = tt
  bad_line n (Some bytes) is bad = subst (λ t. IsFirstBadLine t n) is bad

  pub ended_as_known : (given : List ℕ) → given ≡ text → (r : Result Bool Stop) →
      IfErr r (EndsShowing (Some given) old new) → IfErr r (EndsShowing known old new)
  ended_as_known given same (Ok fine) ended = tt
  ended_as_known given same (Err (BadLine n)) ended =
      (bad_line n known is_known (subst (λ t. IsFirstBadLine t n) same ended.0), ended.1)
  ended_as_known given same (Err (BadData n)) ended = ended
  ended_as_known given same (Err InputOrOutput) ended = tt
  ended_as_known given same (Err Memory) ended = tt

  module _ {D V P F A T : Type 0} (G : DelegateOf D (Table (Bor Rules)) V P F Goal Outcome A T)
      (X : CxOf (Table (Bor Rules)) Goal Outcome A T) where
    pub shown_as_known : (given : List ℕ) → given ≡ text → (form : Form) (r : Result Bool Stop) →
        IfOk r (ShowsAnswers G X (Some given) old new form) → IfOk r (ShowsAnswers G X known old new form)
    shown_as_known given same form (Ok fine) shown = record {
      text = shown.text;
      is_known = other_known shown.text known is_known (shown.is_known ∙ same);
      table = shown.table;
      reads = shown.reads;
      claims = shown.claims;
      are_asked = shown.are_asked;
      is_written = shown.is_written;
    }
    shown_as_known given same form (Err stop) shown = tt
