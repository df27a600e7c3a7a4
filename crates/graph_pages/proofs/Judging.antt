-- What is told of claims, one claim further.
use Rattle.std.proofs.Common.{◌≡◌, ◌∙◌, ℕ, Bool, true, ◌&&◌, List, [], ◌∷◌, ◌++◌, Option, ap, sym, refl, rules, subst}
use Rattle.std.proofs.Math.Bool.{and-true}
use Rattle.std.proofs.KnownBytes.{Appends-nil, Appends-trans}
use Rattle.std.proofs.lemmas.List.{flat_map_more, map-append}
use Rattle.std.proofs.lemmas.List.Elements.{All-push}
use Rattle.std.proofs.lemmas.List.Folds.{list_all-append}
use Rattle.std.specs.Io.KnownBytes.{Appends}
use Rattle.std.specs.List.{list_all}
use Rattle.graph_pages.specs.Below.{Goal, Outcome, Reply, Request, Rules, Verdicts}
use Rattle.graph_pages.specs.Told.{AreJudged, IsJudged, is_not_refused, line_said}
use Rattle.graph_pages.specs.declared.program.checking.Said.{Said}
use Rattle.graph_data.specs.declared.reading.Claim.{Claim}

module _ (says : Verdicts Outcome) (scripts : Goal → List (Reply Outcome) → Request Goal Outcome) (table : Rules) where
  -- nothing is told yet
  pub none_judged : (claims : List Claim) (known : Option (List ℕ)) → claims ≡ []
      → AreJudged says scripts table claims true known known
  none_judged claims known none =
      record { judged = []; are_claims = sym none; are_right = search rules; written = Appends-nil known; fine = refl }

  -- one claim more
  pub judged_more : (claims : List Claim) (claim : Claim) (said : Said) (old mid new : Option (List ℕ))
      (before after : Bool) → AreJudged says scripts table claims before old mid →
      IsJudged says scripts claim said → Appends mid new (line_said table claim.goal claim.outcome said) →
      after ≡ (before && is_not_refused said) →
      AreJudged says scripts table (claims ++ claim ∷ []) after old new
  judged_more claims claim said old mid new before after so_far right more both = record {
    judged = so_far.judged ++ (claim, said) ∷ [];
    are_claims =
        map-append (λ j. j.0) so_far.judged ((claim, said) ∷ []) ∙ ap (λ cs. cs ++ claim ∷ []) so_far.are_claims;
    are_right = All-push (λ j. IsJudged says scripts j.0 j.1) so_far.judged (claim, said) so_far.are_right right;
    written = subst (λ bytes. Appends old new bytes)
        (flat_map_more (λ j. line_said table j.0.goal j.0.outcome j.1) [] so_far.judged (claim, said))
        (Appends-trans old mid new _ _ so_far.written more);
    fine = both ∙ ap (λ b. b && is_not_refused said) so_far.fine
        ∙ sym (list_all-append (λ j. is_not_refused j.1) so_far.judged ((claim, said) ∷ [])
        ∙ ap (λ b. list_all (λ j. is_not_refused j.1) so_far.judged && b) (and-true (is_not_refused said)));
  }
