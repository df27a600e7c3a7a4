-- Goals that are found.
use Rattle.std.proofs.Common.{◌≡◌, ◌∙◌, ◌++◌, ◌||◌, Bool, true, false, cond, not, Contains, List, [], ◌∷◌}
use Rattle.std.proofs.Common.{ap, inl, inr, refl, slice_get, subst, sym}
use Rattle.std.specs.HashSet.{contains}
use Rattle.std.specs.List.{list_any}
use Rattle.std.specs.Cmp.{IsEquivalence}
use Rattle.std.proofs.lemmas.List.Elements.{Contains-append_left, Contains-push, Contains-push_cases}
use Rattle.std.proofs.lemmas.List.Folds.{list_any-append}
use Rattle.std.proofs.lemmas.Map.Views.{Contains-from_any}
use Rattle.list_lemmas.proofs.Lists.{get_left}
use Rattle.askers.specs.Found.{AreListed, Finds, IsFound}
use Rattle.askers.specs.Told.{IsExact}
use Rattle.askers.specs.declared.found.Found.{Found}
use Rattle.askers.proofs.Members.{at_member, member_at}

or_last : (a b : Bool) → (a || (b || false)) ≡ cond b true a
or_last true true = refl
or_last true false = refl
or_last false true = refl
or_last false false = refl

pub not_false : (a b : Bool) → a ≡ not b → a ≡ false → b ≡ true
not_false a true is never = refl
not_false a false is never = sym never ∙ is

module _ {I : Type 0} (same : I → I → Bool) where
  pub found_still : (IsNew : I → Type 0) (old new : Found I) → Finds same IsNew old new → (goal : I) → IsFound old goal
      → IsFound new goal
  found_still IsNew old new finds goal it =
      at_member new.goals.items it.0 goal (finds.places it.0 goal (member_at old.goals.items goal it))

  -- nothing is found
  pub nothing_found : (found : Found I) (IsNew : I → Type 0) → AreListed same found → ((goal : I) → IsNew goal → ⊥)
      → Finds same IsNew found found
  nothing_found found IsNew listed none = record {
    listed = listed;
    places = λ at goal is. is;
    found = λ goal is. absurd (none goal is);
    only = λ goal it. inl it;
  }

  -- the same goals are found by other words
  pub found_as : (P Q : I → Type 0) (old new : Found I) → ((goal : I) → P goal → Q goal)
      → ((goal : I) → Q goal → P goal)
      → Finds same P old new → Finds same Q old new
  found_as P Q old new there back finds = record {
    listed = finds.listed;
    places = finds.places;
    found = λ goal is. finds.found goal (back goal is);
    only = λ goal it. elim (finds.only goal it) [ inl before ↦ inl before | inr is ↦ inr (there goal is) ];
  }

  -- one more of a list is found, and then all are
  pub finds_one_more : (goals more : List I) (goal : I) (first now new : Found I) → more ≡ goals ++ goal ∷ []
      → Finds same (λ other. Contains goals other) first now → Finds same (λ other. other ≡ goal) now new
      → Finds same (λ other. Contains more other) first new
  finds_one_more goals more goal first now new is so_far finds = record {
    listed = finds.listed;
    places = λ at other was. finds.places at other (so_far.places at other was);
    found = λ other has. elim (Contains-push_cases goals goal other (subst (λ l. Contains l other) is has)) [
      | inl before ↦ found_still (λ x. x ≡ goal) now new finds other (so_far.found other before)
      | inr last ↦ finds.found other (sym last)
    ];
    only = λ other it. elim (finds.only other it) [
      | inl before ↦ elim (so_far.only other before) [
        | inl first_of ↦ inl first_of
        | inr has ↦ inr (subst (λ l. Contains l other) (sym is) (Contains-append_left goals (goal ∷ []) other has))
      ]
      | inr last ↦ inr (subst (λ l. Contains l other) (sym is)
          (subst (Contains (goals ++ goal ∷ [])) (sym last) (Contains-push goals goal)))
    ];
  }

  module _ (laws : IsEquivalence same) (exact : IsExact same) where
    listed_more : (goals : List I) (goal q : I) (is_in : Bool) → is_in ≡ list_any (same q) goals
        → cond (same goal q) true is_in ≡ list_any (same q) (goals ++ goal ∷ [])
    listed_more goals goal q is_in is = ap (cond (same goal q) true) is
        ∙ ap (λ b. cond b true (list_any (same q) goals)) (laws.symm goal q)
        ∙ sym (or_last (list_any (same q) goals) (same q goal))
        ∙ sym (list_any-append (same q) goals (goal ∷ []))

    listed_by : (b has : Bool) → (b ≡ true → has ≡ true) → cond b true has ≡ has
    listed_by true has h = sym (h refl)
    listed_by false has h = refl

    listed_still : (old : Found I) (goal q : I) → AreListed same old → contains same old.all goal ≡ true
        → cond (same goal q) true (contains same old.all q) ≡ list_any (same q) old.goals.items
    listed_still old goal q listed has =
        listed_by (same goal q) (contains same old.all q)
        (λ is. subst (λ x. contains same old.all x ≡ true) (exact goal q is) has) ∙ listed q

    -- it was not found before
    pub noted_first : (old new : Found I) (goal : I) → AreListed same old
        → new.goals.items ≡ old.goals.items ++ goal ∷ []
        → ((q : I) → contains same new.all q ≡ cond (same goal q) true (contains same old.all q))
        → Finds same (λ other. other ≡ goal) old new
    noted_first old new goal listed goals all = record {
      listed = λ q. all q ∙ listed_more old.goals.items goal q (contains same old.all q) (listed q)
          ∙ ap (list_any (same q)) (sym goals);
      places = λ at other is. ap (λ l. slice_get l at) goals ∙ get_left old.goals.items (goal ∷ []) at other is;
      found = λ other is. subst (λ l. Contains l other) (sym goals)
          (subst (Contains (old.goals.items ++ goal ∷ [])) (sym is) (Contains-push old.goals.items goal));
      only = λ other it.
          elim (Contains-push_cases old.goals.items goal other (subst (λ l. Contains l other) goals it)) [
            | inl before ↦ inl before
            | inr now ↦ inr (sym now)
          ];
    }

    -- it was
    pub noted_again : (old new : Found I) (goal : I) → AreListed same old → contains same old.all goal ≡ true
        → new.goals.items ≡ old.goals.items
        → ((q : I) → contains same new.all q ≡ cond (same goal q) true (contains same old.all q))
        → Finds same (λ other. other ≡ goal) old new
    noted_again old new goal listed has goals all = record {
      listed = λ q. all q ∙ listed_still old goal q listed has ∙ ap (list_any (same q)) (sym goals);
      places = λ at other is. ap (λ l. slice_get l at) goals ∙ is;
      found = λ other is. subst (λ l. Contains l other) (sym goals) (subst (Contains old.goals.items) (sym is)
          (Contains-from_any exact goal old.goals.items (sym (listed goal) ∙ has)));
      only = λ other it. inl (subst (λ l. Contains l other) goals it);
    }
