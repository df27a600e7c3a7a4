-- What was shown is accepted where it is read.
use Rattle.std.proofs.Common.{◌<◌, arith, codes, get_or, suc, zero, ◌≡◌, ◌∙◌, All, ap, Bool, inl, inr, List, [], ◌∷◌}
use Rattle.std.proofs.Common.{◌++◌, map, refl, Some, subst, sym, true, ℕ}
use Rattle.std.specs.Prelude.{◌&&◌, ◌⊎◌, Option, reverse, slice_get}
use Rattle.std.specs.Borrow.{Bor}
use Rattle.std.specs.Io.KnownBytes.{Appends}
use Rattle.std.specs.List.{AllByRecursion, flat_map, list_all}
use Rattle.std.specs.Option.{option_map}
use Rattle.std.proofs.lemmas.List.Elements.{All-get_or, All-head, All-tail}
use Rattle.std.proofs.lemmas.Option.{get_or_from_slice_get, slice_get-map, slice_get_within}
use Rattle.std.proofs.lemmas.Str.{IsUtf8-append, IsUtf8-from_ascii}
use Rattle.std.specs.Str.{IsUtf8}
use Rattle.list_lemmas.proofs.Lists.{mapped_some}
use Rattle.path_kinds.specs.declared.path.PathKind.{PathKind}
use Rattle.path_kinds.specs.declared.path.PathKind.TheVariants.{Coinductive, Inductive}
use Rattle.search_context.specs.Graph.{GraphNode, HasGoal, question_of}
use Rattle.search_context.specs.Run.{EndsIn, progress_after, questions_answered}
use Rattle.search_context.specs.Valid.{AreClosed, CyclesHaveKind, goal_nodes_of, IsRunOfSort, IsValid, IsValidFor}
use Rattle.search_context.specs.declared.context.Verdict.TheVariants as verdict
use Rattle.json.specs.Lex.{tokens}
use Rattle.rule_tables.specs.Frame.{script_of}
use Rattle.graph_data.proofs.Lists.{AllByRecursion-append}
use Rattle.graph_pages.proofs.Newline.{newline_passed}
use Rattle.graph_data.proofs.Pages.{page_told}
use Rattle.graph_data.proofs.SameRules.{same_script}
use Rattle.graph_pages.specs.Below.{candidates_of, CxOf, DelegateOf, Goal, names_of, Node, Outcome, Reply, Request}
use Rattle.graph_pages.specs.Below.{Rules, Table, Verdict, verdicts, Verdicts}
use Rattle.graph_pages.specs.Checked.{IsRightlyShown, ShowsGraph, verdict_of}
use Rattle.graph_data.specs.Data.{IsClaim, IsNamed, IsNode, plain_claim, plain_node, PlainClaim, PlainNode}
use Rattle.graph_data.specs.Page.{IsPage}
use Rattle.graph_pages.specs.Program.{ReadsBack, IsJudgedPage, IsReadBack, ShowsAnswers}
use Rattle.graph_data.specs.Rules.{AreSameRules}
use Rattle.graph_pages.specs.Shown.{claims_of}
use Rattle.graph_data.specs.Page.{IsWrittenPage}
use Rattle.graph_pages.specs.declared.form.Form.TheVariants.{Data}
use Rattle.graph_pages.specs.Told.{IsJudged, is_not_refused}
use Rattle.graph_pages.specs.declared.answer.Came.{Came}
use Rattle.graph_pages.specs.declared.answer.Came.TheVariants.{Graph, NoGraph, Unchecked, Fault}
use Rattle.graph_pages.specs.declared.program.checking.Said.{Said}
use Rattle.graph_data.specs.declared.reading.Claim.{Claim}

-- ---- where lists lie makes no graph valid

abbrev plain_goal_node : PlainNode → GraphNode Goal
plain_goal_node p = record { goal = p.goal; edges = p.edges }

goal_nodes_by_plain : (nodes : List (Node Goal Outcome))
    → goal_nodes_of nodes ≡ map plain_goal_node (map plain_node nodes)
goal_nodes_by_plain [] = refl
goal_nodes_by_plain (n ∷ nodes) = ap (λ ns. plain_goal_node (plain_node n) ∷ ns) (goal_nodes_by_plain nodes)

-- a node is a run of its goal
record IsPlainRun (sort : Outcome → Bool)
    (scripts : Goal → List (Reply Outcome) → Request Goal Outcome) (p : PlainNode) : Type 0 where
  ends : EndsIn (scripts p.goal) (reverse p.replies) p.result
  sorted : sort p.result ≡ true
  edges : map question_of p.edges ≡ questions_answered sort (progress_after (scripts p.goal) (reverse p.replies))

module _ (sort : Outcome → Bool) (kind : PathKind) (scripts others : Goal → List (Reply Outcome) → Request Goal Outcome)
    (names : List (List ℕ)) (same_scripts : (goal : Goal) → IsNamed names goal → others goal ≡ scripts goal)
    (nodes read : List (Node Goal Outcome)) (same : map plain_node read ≡ map plain_node nodes)
    (named : All (IsNode names) (map plain_node nodes)) (goal : Goal)
    (valid : IsValid sort kind scripts nodes goal) where
  same_nodes : goal_nodes_of nodes ≡ goal_nodes_of read
  same_nodes = goal_nodes_by_plain nodes ∙ ap (map plain_goal_node) (sym same) ∙ sym (goal_nodes_by_plain read)

  read_run : (at : ℕ) (n : Node Goal Outcome) → slice_get read at ≡ Some n → IsRunOfSort sort (others n.input) n
  read_run at n is =
      let there : slice_get (map plain_node nodes) at ≡ Some (plain_node n) =
      ap (λ ns. slice_get ns at) (sym same) ∙ slice_get-map plain_node read at ∙ ap (option_map plain_node) is in
      let m =
      mapped_some plain_node (slice_get nodes at) (plain_node n) (sym (slice_get-map plain_node nodes at) ∙ there) in
      let run = valid.runs at m.0 m.1 in
      let plain : IsPlainRun sort scripts (plain_node n) =
      subst (IsPlainRun sort scripts) m.2 (record { ends = run.ends; sorted = run.sort; edges = run.edges }) in
      let has_name : IsNode names (plain_node n) =
      subst (IsNode names) (get_or_from_slice_get (map plain_node nodes) at (plain_node n) (plain_node n) there)
      (All-get_or (IsNode names) (map plain_node nodes) at (plain_node n)
      (slice_get_within (map plain_node nodes) at (plain_node n) there) named) in
      let script = sym (same_scripts n.input has_name.0) in
      record {
        ends = subst (λ s. EndsIn s (reverse n.replies.items) n.result) script plain.ends;
        sort = plain.sorted;
        edges = subst (λ s. map question_of n.edges.items
            ≡ questions_answered sort (progress_after s (reverse n.replies.items))) script plain.edges;
      }

  read_valid : IsValid sort kind others read goal
  read_valid = record {
    rooted = subst (λ ns. HasGoal ns 0 goal) same_nodes valid.rooted;
    runs = read_run;
    closed = subst AreClosed same_nodes valid.closed;
    cycles = subst (CyclesHaveKind kind) same_nodes valid.cycles;
  }

-- ---- so each claim is accepted, or told as one without a graph

module _ (says : Verdicts Outcome) (scripts others : Goal → List (Reply Outcome) → Request Goal Outcome)
    (names : List (List ℕ)) (same_scripts : (goal : Goal) → IsNamed names goal → others goal ≡ scripts goal) where
  read_valid_for : (verdict : Verdict) (nodes read : List (Node Goal Outcome)) (goal : Goal)
      → map plain_node read ≡ map plain_node nodes → All (IsNode names) (map plain_node nodes)
      → IsValidFor says verdict scripts nodes goal → IsValidFor says verdict others read goal
  read_valid_for verdict.Yes nodes read goal same named valid =
      read_valid says.is_yes Coinductive scripts others names same_scripts nodes read same named goal valid
  read_valid_for verdict.No nodes read goal same named valid =
      read_valid says.is_no Inductive scripts others names same_scripts nodes read same named goal valid
  read_valid_for verdict.Neither nodes read goal same named valid = absurd valid

  -- it has a valid graph, or no nodes where its outcome is neither yes nor no
  abbrev pub IsGood : PlainClaim → Type 0
  IsGood claim =
      ((nodes : List (Node Goal Outcome)) × (claim.nodes ≡ map plain_node nodes)
      × IsValidFor says (verdict_of claim.outcome) scripts nodes claim.goal)
      ⊎ ((verdict_of claim.outcome ≡ verdict.Neither) × (claim.nodes ≡ []))

  claim_good : (goal : Goal) (came : Came) → ShowsGraph says scripts goal came
      → AllByRecursion IsGood (claims_of goal came)
  claim_good goal (Graph outcome nodes) checked = (inl (nodes.items, refl, checked.is_valid), tt)
  claim_good goal (NoGraph outcome reason) checked = (inr (checked, refl), tt)
  claim_good goal (Unchecked outcome) checked = tt
  claim_good goal (Fault fault) checked = tt

  pub all_good : (asked : List ((ℕ × Goal) × Came)) → All (λ a. IsRightlyShown says scripts a.0 a.1) asked
      → AllByRecursion IsGood (flat_map (λ a. claims_of a.0.1 a.1) asked)
  all_good [] checked = tt
  all_good (a ∷ asked) checked =
      AllByRecursion-append IsGood (claims_of a.0.1 a.1) (flat_map (λ b. claims_of b.0.1 b.1) asked)
      (claim_good a.0.1 a.1 (All-head (λ b. IsRightlyShown says scripts b.0 b.1) a asked checked).graph)
      (all_good asked (All-tail (λ b. IsRightlyShown says scripts b.0 b.1) a asked checked))

  no_nodes : (nodes : List (Node Goal Outcome)) → map plain_node nodes ≡ [] → nodes ≡ []
  no_nodes [] none = refl
  no_nodes (n ∷ nodes) none = absurd cc

  not_refused : (claim : Claim) (told : Said) → IsGood (plain_claim claim) → IsClaim names (plain_claim claim)
      → IsJudged says others claim told → is_not_refused told ≡ true
  not_refused claim told (inl (nodes, same, valid)) named judged =
      ap is_not_refused (judged.accepted.1 (read_valid_for (verdict_of claim.outcome) nodes claim.nodes.items claim.goal
      same (subst (All (IsNode names)) same named.1) valid))
  not_refused claim told (inr (neither, none)) named judged =
      ap is_not_refused (judged.no_graph.1 (neither, no_nodes claim.nodes.items none))

  pub all_not_refused : (judged : List (Claim × Said)) → AllByRecursion IsGood (map plain_claim (map (λ j. j.0) judged))
      → All (IsClaim names) (map plain_claim (map (λ j. j.0) judged)) → All (λ j. IsJudged says others j.0 j.1) judged
      → list_all (λ j. is_not_refused j.1) judged ≡ true
  all_not_refused [] good named right = refl
  all_not_refused (j ∷ judged) good named right =
      let claims = map plain_claim (map (λ k. k.0) judged) in
      ap (λ b. b && list_all (λ k. is_not_refused k.1) judged)
      (not_refused j.0 j.1 good.0 (All-head (IsClaim names) (plain_claim j.0) claims named)
      (All-head (λ k. IsJudged says others k.0 k.1) j judged right))
      ∙ all_not_refused judged good.1 (All-tail (IsClaim names) (plain_claim j.0) claims named)
      (All-tail (λ k. IsJudged says others k.0 k.1) j judged right)

-- ---- the round trip of a whole text

newline_is_utf8 : IsUtf8 (codes "\n")
newline_is_utf8 = IsUtf8-from_ascii (codes "\n") at where
  at : (i : ℕ) → get_or (codes "\n") i 0 < 128
  at zero = omega arith
  at (suc i) = omega arith

module _ {D V P F A T : Type 0} (G : DelegateOf D (Table (Bor Rules)) V P F Goal Outcome A T)
    (X : CxOf (Table (Bor Rules)) Goal Outcome A T) (scripts : (table : Table (Bor Rules))
    → G.script table ≡ (λ goal. script_of (candidates_of table.lender.now goal))) where
  scripts_of_same : (table other : Table (Bor Rules)) → AreSameRules table.lender.now other.lender.now → (goal : Goal)
      → IsNamed (names_of table.lender.now) goal → G.script other goal ≡ G.script table goal
  scripts_of_same table other same goal named =
      ap (λ f. f goal) (scripts other) ∙ same_script (candidates_of table.lender.now goal)
      (candidates_of other.lender.now goal) (same.candidates goal _ named) ∙ sym (ap (λ f. f goal) (scripts table))

  module _ (known old new : Option (List ℕ)) (all_fine : Bool) (shown : ShowsAnswers G X known old new Data all_fine)
      (page : IsWrittenPage shown.table.lender.now shown.claims old new) where
    abbrev rules : Rules
    rules = shown.table.lender.now

    abbrev written : List ℕ
    written = page.text ++ codes "\n"

    written_page : IsPage (tokens written) rules shown.claims
    written_page = subst (λ ts. IsPage ts rules shown.claims) (sym (newline_passed page.text)) page.is_page

    found : (given told : Option (List ℕ)) (none_refused : Bool)
        (checked : IsJudgedPage G X (Some written) given told none_refused)
        → ReadsBack rules shown.claims checked.table.lender.now (map plain_claim checked.claims) none_refused
    found given told none_refused checked =
        let read : List PlainClaim = map plain_claim checked.claims in
        let is_page : IsPage (tokens written) checked.table.lender.now read =
        subst (λ text. IsPage (tokens text) checked.table.lender.now read) checked.is_known checked.is_page in
        let both = page_told (tokens written) (record { rules = rules; claims = shown.claims; is_page = written_page })
        (record { rules = checked.table.lender.now; claims = read; is_page = is_page }) in
        let same = scripts_of_same shown.table checked.table both.0 in
        let claims : shown.claims ≡ map plain_claim (map (λ j. j.0) checked.are_judged.judged) =
        sym both.1 ∙ ap (map plain_claim) (sym checked.are_judged.are_claims) in
        let good = subst (AllByRecursion (IsGood (verdicts X) (G.script shown.table) (G.script checked.table)
        (names_of rules) same)) (sym shown.are_asked.are_claims ∙ claims) (all_good (verdicts X) (G.script shown.table)
        (G.script checked.table) (names_of rules) same shown.are_asked.asked shown.are_asked.are_right) in
        record {
          same_rules = both.0;
          same_claims = both.1;
          accepted = checked.are_judged.fine ∙ all_not_refused (verdicts X) (G.script shown.table)
              (G.script checked.table) (names_of rules) same checked.are_judged.judged good
              (subst (All (IsClaim (names_of rules))) claims page.is_page.named) checked.are_judged.are_right;
        }

    read_back : IsReadBack G X rules shown.claims written
    read_back = record {
      is_page = (
        IsUtf8-append page.text (codes "\n") page.is_utf8 newline_is_utf8,
        record { rules = rules; claims = shown.claims; is_page = written_page },
      );
      finds = found;
    }

  pub shown_is_read_back :
      (known old new : Option (List ℕ)) (all_fine : Bool) (shown : ShowsAnswers G X known old new Data all_fine)
      → (text : List ℕ) × Appends old new text × IsReadBack G X shown.table.lender.now shown.claims text
  shown_is_read_back known old new all_fine shown =
      let page = shown.is_written refl in
      (page.text ++ codes "\n", page.written, read_back known old new all_fine shown page)
