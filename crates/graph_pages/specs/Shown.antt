-- What was shown of questions.
use Rattle.std.specs.Prelude.{◌≡◌, ℕ, All, Bool, true, false, List, [], ◌∷◌, map, Option}
use Rattle.std.specs.List.{flat_map, list_all}
use Rattle.graph_pages.specs.Below.{Goal, Outcome, questions_of, Reply, Request, Rules, Verdicts}
use Rattle.graph_pages.specs.Checked.{IsRightlyShown}
use Rattle.graph_data.specs.Data.{plain_node, PlainClaim}
use Rattle.graph_data.specs.Page.{IsBegun, WritesPage}
use Rattle.graph_pages.specs.declared.answer.Came.{Came}
use Rattle.graph_pages.specs.declared.answer.Came.TheVariants.{Graph, NoGraph, Unchecked, Fault}
use Rattle.graph_pages.specs.declared.page.Page.{Page}
use Rattle.graph_pages.specs.declared.page.Page.TheVariants as page

-- the question was answered, and no graph refused
abbrev pub is_fine : Came → Bool
is_fine (Graph outcome nodes) = true
is_fine (NoGraph outcome reason) = true
is_fine (Unchecked outcome) = false
is_fine (Fault fault) = false

-- the claim as which it is written, which has no nodes without a graph; none for a fault, and for a graph
-- that was not accepted
abbrev pub claims_of : Goal → Came → List PlainClaim
claims_of goal (Graph outcome nodes) =
    record { goal = goal; outcome = outcome; nodes = map plain_node nodes.items } ∷ []
claims_of goal (NoGraph outcome reason) = record { goal = goal; outcome = outcome; nodes = [] } ∷ []
claims_of goal (Unchecked outcome) = []
claims_of goal (Fault fault) = []

-- Each of these questions was asked at its depth, in order, and what is shown of it is right.
pub record WereAsked (says : Verdicts Outcome) (scripts : Goal → List (Reply Outcome) → Request Goal Outcome)
    (questions : List (ℕ × Goal)) (claims : List PlainClaim) (all_fine : Bool) : Type 0 where
  pub asked : List ((ℕ × Goal) × Came)
  pub are_questions : map (λ a. a.0) asked ≡ questions
  pub are_right : All (λ a. IsRightlyShown says scripts a.0 a.1) asked
  pub are_claims : claims ≡ flat_map (λ a. claims_of a.0.1 a.1) asked
  pub fine : all_fine ≡ list_all (λ a. is_fine a.1) asked

-- It is a page of data that has the rules and these claims.
abbrev pub HasClaims : Rules → Page → List PlainClaim → Type 0
HasClaims rules (page.Text depth waiting) claims = ⊥
HasClaims rules (page.Dot count waiting) claims = ⊥
HasClaims rules (page.Data writer) claims = IsBegun rules writer claims

-- All questions were asked. Of a page of data that had the rules and no claims yet, the whole is written, with the
-- claims of their answers in order.
pub record AreShown (says : Verdicts Outcome) (scripts : Goal → List (Reply Outcome) → Request Goal Outcome)
    (rules : Rules) (page : Page) (old new : Option (List ℕ)) (all_fine : Bool) : Type 0 where
  pub claims : List PlainClaim
  pub are_asked : WereAsked says scripts (questions_of rules) claims all_fine
  pub is_written : HasClaims rules page [] → WritesPage rules claims old new
