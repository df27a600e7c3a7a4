-- What is shown of an answer is right.
use Rattle.std.proofs.Common.{◌≡◌, ◌∙◌, ℕ, Bool, List, Option, None, Some, Result, Ok, Err, IfOk, IfSome, inl, inr}
use Rattle.std.proofs.Common.{true, refl, subst, sym}
use Rattle.std.specs.Option.{IsSomeAnd}
use Rattle.std.specs.Prelude.{IfErr}
use Rattle.open_graphs.specs.Graph as theory
use Rattle.search_context.specs.Verdicts.{verdict_of as said_of}
use Rattle.search_context.specs.declared.context.Verdict.TheVariants as verdict
use Rattle.shown_graphs.specs.Asked.{IsToldAs}
use Rattle.shown_graphs.specs.Below.{Answer, AreVerdicts, CacheNode, Coinductive, Fault, Goal, HasGraph, Inductive}
use Rattle.shown_graphs.specs.Below.{IsDefinite, IsReason, IsValid, IsValidFor, Maybe, Memory, No, Node, NodeId}
use Rattle.shown_graphs.specs.Below.{Outcome, Overflow, Reason, Reply, Request, Verdicts, Yes}
use Rattle.graph_pages.specs.Checked.{IsRightlyShown, outcome_of, ShowsGraph, verdict_of}
use Rattle.graph_pages.specs.declared.answer.Came.{Came}

-- ---- an outcome with its graph

no_item : {A : Type 0} (o : Option A) (P : A → Type 0) → o ≡ None → IsSomeAnd o P → ⊥
no_item None P none holds = holds
no_item (Some x) P none holds = absurd cc

module _ (says : Verdicts Outcome) (are : AreVerdicts says.is_yes says.is_no)
    (nodes : List (CacheNode Goal Outcome)) (goal : Goal) where
  yes_is_definite : IsDefinite says Yes
  yes_is_definite e =
      let yes : said_of says Yes ≡ theory.Yes = rw (are.yes Yes) in
      let bad : theory.Yes ≡ theory.Neither = sym yes ∙ e in absurd cc

  no_is_definite : IsDefinite says No
  no_is_definite e =
      let no : said_of says No ≡ theory.No = rw (are.yes No, are.no No) in
      let bad : theory.No ≡ theory.Neither = sym no ∙ e in absurd cc

  -- where it has no node, it is neither yes nor no
  pub neither_without_node : (outcome : Outcome) (place : Option NodeId) → place ≡ None
      → HasGraph says nodes goal outcome place → verdict_of outcome ≡ verdict.Neither
  neither_without_node Yes place none has = absurd (no_item place _ none (has.definite yes_is_definite))
  neither_without_node No place none has = absurd (no_item place _ none (has.definite no_is_definite))
  neither_without_node Maybe place none has = refl
  neither_without_node Overflow place none has = refl

  -- where it has one, what is handed out is valid for it
  module _ {H : Type 0} (place : NodeId) (handed : Option H) (items : H → List (Node Goal Outcome))
      (scripts : Goal → List (Reply Outcome) → Request Goal Outcome) where
    pub handed_valid : (outcome : Outcome) → HasGraph says nodes goal outcome (Some place) →
        (says.is_yes outcome ≡ true → IsSomeAnd handed (λ h. IsValid says.is_yes Coinductive scripts (items h) goal)) →
        (says.is_no outcome ≡ true → IsSomeAnd handed (λ h. IsValid says.is_no Inductive scripts (items h) goal)) →
        IsSomeAnd handed (λ h. IsValidFor says (verdict_of outcome) scripts (items h) goal)
    handed_valid Yes has if_yes if_no = if_yes (are.yes Yes)
    handed_valid No has if_yes if_no = if_no (are.no No)
    handed_valid Maybe has if_yes if_no =
        let bad : Some place ≡ None = has.neither (rw (are.yes Maybe, are.no Maybe)) in absurd cc
    handed_valid Overflow has if_yes if_no =
        let bad : Some place ≡ None = has.neither (rw (are.yes Overflow, are.no Overflow)) in absurd cc

-- ---- what is told of a call

-- what holds of an answer's result holds of the outcome that is told
pub plain_told : (came : Result (Answer Outcome) (Fault Goal Outcome)) (told : Came) (P : Outcome → Type 0)
    → IsToldAs came told → IfOk came (λ answer. P answer.result) → IfOk (outcome_of told) P
plain_told (Ok answer) told P (inl same) holds = subst (λ o. IfOk o P) (sym same) holds
plain_told (Ok answer) told P (inr out) holds = subst (λ o. IfOk o P) (sym out) tt
plain_told (Err fault) told P same holds = subst (λ o. IfOk o P) (sym same) tt

-- and where the only fault is want of memory, it is the only one that is told
pub faults_told : (came : Result (Answer Outcome) (Fault Goal Outcome)) (told : Came) → IsToldAs came told
    → IfErr came (λ fault. fault ≡ Memory) → IfErr (outcome_of told) (λ fault. fault ≡ Memory)
faults_told (Ok answer) told (inl same) holds = subst (λ o. IfErr o (λ fault. fault ≡ Memory)) (sym same) tt
faults_told (Ok answer) told (inr out) holds = subst (λ o. IfErr o (λ fault. fault ≡ Memory)) (sym out) refl
faults_told (Err fault) told same holds = subst (λ o. IfErr o (λ fault. fault ≡ Memory)) (sym same) holds

-- ---- under equal contexts

module _ {C : Type 0} (says : Verdicts Outcome)
    (scripts : C → Goal → List (Reply Outcome) → Request Goal Outcome) (a b : C) (same : a ≡ b) where
  pub graph_under : (goal : Goal) (told : Came) → ShowsGraph says (scripts a) goal told
      → ShowsGraph says (scripts b) goal told
  graph_under goal told shown = subst (λ cx. ShowsGraph says (scripts cx) goal told) same shown

  pub right_under : (question : ℕ × Goal) (told : Came) → IsRightlyShown says (scripts a) question told
      → IsRightlyShown says (scripts b) question told
  right_under question told right = subst (λ cx. IsRightlyShown says (scripts cx) question told) same right

-- the reason that is told is the one that was noted
pub reason_told : (told : Option (Reason Goal)) (came : Result (Answer Outcome) (Fault Goal Outcome))
    (noted : Reason Goal) (run limited run_then limited_then : Bool) → IfSome told (λ reason. reason ≡ noted) →
    IfOk came (λ answer. IsReason run limited answer.result noted) → run ≡ run_then → limited ≡ limited_then →
    IfSome told (λ reason. IfOk came (λ answer. IsReason run_then limited_then answer.result reason))
reason_told None came noted run limited run_then limited_then is fits runs limits = tt
reason_told (Some reason) came noted run limited run_then limited_then is fits runs limits =
    subst (λ r. IfOk came (λ answer. IsReason run_then limited_then answer.result r)) (sym is)
    (subst (λ l. IfOk came (λ answer. IsReason run_then l answer.result noted)) limits
    (subst (λ r. IfOk came (λ answer. IsReason r limited answer.result noted)) runs fits))

pub none_told : (told : Option (Reason Goal)) (noted : Reason Goal) → told ≡ None →
    IfSome told (λ reason. reason ≡ noted)
none_told None noted none = tt
none_told (Some reason) noted none = absurd cc
