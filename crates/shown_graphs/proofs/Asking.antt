-- What was asked, one question further.
use Rattle.std.proofs.Common.{◌≡◌, ◌∙◌, ◌+◌, ◌<◌, ◌≤◌, ◌&&◌, ℕ, ap, arith, Bool, get_or, length, List, [], ◌∷◌, ◌++◌}
use Rattle.std.proofs.Common.{None, Option, refl, Some, subst, sym, take, true}
use Rattle.std.proofs.KnownBytes.{Keeps-refl, Keeps-trans}
use Rattle.std.proofs.Math.Bool.{and-true}
use Rattle.std.proofs.lemmas.List.{flat_map_more, map-append, take_all, take_more}
use Rattle.std.proofs.lemmas.List.Elements.{All-push}
use Rattle.std.proofs.lemmas.List.Folds.{list_all-append}
use Rattle.std.specs.Io.KnownBytes.{Appends, Keeps}
use Rattle.std.specs.List.{list_all}
use Rattle.shown_graphs.specs.Below.{Goal, Outcome, questions_of, Reply, Request, Rules, Verdicts}
use Rattle.graph_pages.specs.Checked.{IsRightlyShown}
use Rattle.graph_data.specs.Data.{PlainClaim}
use Rattle.graph_pages.specs.Shown.{WereAsked, AreShown, claims_of, HasClaims, is_fine}
use Rattle.graph_data.specs.Page.{WritesPage}
use Rattle.graph_pages.specs.declared.answer.Came.{Came}
use Rattle.graph_pages.specs.declared.page.Page.{Page}

kept_appends : (old mid new : Option (List ℕ)) (bytes : List ℕ) → Keeps old mid
    → Appends mid new bytes → Appends old new bytes
kept_appends None mid new bytes kept more = tt
kept_appends (Some xs) None new bytes kept more = absurd kept
kept_appends (Some xs) (Some ys) None bytes kept more = absurd more
kept_appends (Some xs) (Some ys) (Some zs) bytes kept more = more ∙ ap (λ front. front ++ bytes) kept

-- nothing is written before the page is
kept_page : (rules : Rules) (claims : List PlainClaim) (old mid new : Option (List ℕ)) → Keeps old mid
    → WritesPage rules claims mid new → WritesPage rules claims old new
kept_page rules claims old mid new kept writes named = let page = writes named in record {
  text = page.text;
  is_utf8 = page.is_utf8;
  is_page = page.is_page;
  written = kept_appends old mid new _ kept page.written;
}

module _ (says : Verdicts Outcome) (scripts : Goal → List (Reply Outcome) → Request Goal Outcome) (rules : Rules) where
  -- the questions were asked, and the page waits with the claims of their answers
  pub record AreAskedTo (begun page : Page) (old new : Option (List ℕ))
      (questions : List (ℕ × Goal)) (all_fine : Bool) : Type 0 where
    pub claims : List PlainClaim
    pub are_asked : WereAsked says scripts questions claims all_fine
    pub waits : HasClaims rules begun [] → HasClaims rules page claims × Keeps old new

  pub none_asked : (page : Page) (old : Option (List ℕ)) → AreAskedTo page page old old [] true
  none_asked page old = record {
    claims = [];
    are_asked = record {
      asked = [];
      are_questions = refl;
      are_right = λ k d below. absurd (omega arith);
      are_claims = refl;
      fine = refl;
    };
    waits = λ begun. (begun, Keeps-refl old);
  }

  question_more : (questions : List (ℕ × Goal)) (claims : List PlainClaim) (i : ℕ) (question d : ℕ × Goal) (came : Came)
      (before after : Bool) → i < length questions → WereAsked says scripts (take i questions) claims before →
      question ≡ get_or questions i d → IsRightlyShown says scripts question came → after ≡ (before && is_fine came) →
      WereAsked says scripts (take (i + 1) questions) (claims ++ claims_of question.1 came) after
  question_more questions claims i question d came before after below so_far is right both = record {
    asked = so_far.asked ++ (question, came) ∷ [];
    are_questions =
        map-append (λ a. a.0) so_far.asked ((question, came) ∷ []) ∙ ap (λ qs. qs ++ question ∷ []) so_far.are_questions
        ∙ sym (take_more questions i d below ∙ ap (λ q. take i questions ++ q ∷ []) (sym is));
    are_right =
        All-push (λ a. IsRightlyShown says scripts a.0 a.1) so_far.asked (question, came) so_far.are_right right;
    are_claims = ap (λ cs. cs ++ claims_of question.1 came) so_far.are_claims
        ∙ flat_map_more (λ a. claims_of a.0.1 a.1) [] so_far.asked (question, came);
    fine = both ∙ ap (λ b. b && is_fine came) so_far.fine
        ∙ sym (list_all-append (λ a. is_fine a.1) so_far.asked ((question, came) ∷ [])
        ∙ ap (λ b. list_all (λ a. is_fine a.1) so_far.asked && b) (and-true (is_fine came)));
  }

  -- one question more, whose answer is added to the page
  pub asked_more : (begun page added passed : Page) (old mid new : Option (List ℕ)) (questions : List (ℕ × Goal))
      (i : ℕ) (question d : ℕ × Goal) (came : Came) (before after : Bool) → i < length questions →
      AreAskedTo begun page old mid (take i questions) before → question ≡ get_or questions i d →
      IsRightlyShown says scripts question came → after ≡ (before && is_fine came) →
      ((claims : List PlainClaim) → HasClaims rules page claims →
      HasClaims rules added (claims ++ claims_of question.1 came)) →
      ((table : Rules) (claims : List PlainClaim) → HasClaims table added claims →
      HasClaims table passed claims × Keeps mid new) →
      AreAskedTo begun passed old new (take (i + 1) questions) after
  asked_more begun page added passed old mid new questions i question d came before after below so_far
      is right both adds passes = record {
        claims = so_far.claims ++ claims_of question.1 came;
        are_asked =
            question_more questions so_far.claims i question d came before after below so_far.are_asked is right both;
        waits = λ start.
            let kept = so_far.waits start in
            let next = passes rules (so_far.claims ++ claims_of question.1 came) (adds so_far.claims kept.0) in
            (next.0, Keeps-trans old mid new kept.1 next.1);
      }

  -- the page is written
  pub all_shown :
      (begun page : Page) (old mid new : Option (List ℕ)) (questions : List (ℕ × Goal)) (i : ℕ) (fine : Bool) →
      questions ≡ questions_of rules → length questions ≤ i → AreAskedTo begun page old mid (take i questions) fine →
      ((table : Rules) (claims : List PlainClaim) → HasClaims table page claims → WritesPage table claims mid new) →
      AreShown says scripts rules begun old new fine
  all_shown begun page old mid new questions i fine same end so_far writes = record {
    claims = so_far.claims;
    are_asked =
        subst (λ qs. WereAsked says scripts qs so_far.claims fine) (take_all i questions end ∙ same) so_far.are_asked;
    is_written = λ start. let kept = so_far.waits start in
        kept_page rules so_far.claims old mid new kept.1 (writes rules so_far.claims kept.0);
  }
