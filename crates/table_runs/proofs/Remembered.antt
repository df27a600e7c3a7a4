-- What is remembered as shown, once more is put there, and once goals are forgotten.
use Rattle.std.proofs.Common.{◌≡◌, ◌∙◌, ap, Bool, cond, Contains, false, get_or, if◌then◌else◌, IsPermutation, IsSome}
use Rattle.std.proofs.Common.{List, [], ◌∷◌, ◌++◌, None, Option, refl, Some, subst, sym, true}
use Rattle.std.proofs.Math.Bool.{◌||◌}
use Rattle.std.proofs.lemmas.Bool.{false≢true}
use Rattle.std.proofs.lemmas.Cmp.{nat_eq_equiv}
use Rattle.std.proofs.lemmas.List.Elements.{All-cons, All-contains, All-contains_itself, All-head, All-tail}
use Rattle.std.proofs.lemmas.List.Folds.{list_any-append}
use Rattle.std.proofs.lemmas.List.Sorted.{All-permutation}
use Rattle.std.proofs.lemmas.Map.Views.{IsSome-lookup_from_Contains}
use Rattle.std.specs.Cmp.{IsEquivalence}
use Rattle.std.specs.List.{All}
use Rattle.std.specs.Map.{lookup, remove_entry, set_value}
use Rattle.std.specs.Option.{MatchOption}
use Rattle.list_lemmas.proofs.Members.{Contains-mapped}
use Rattle.rule_tables.specs.contracts.rules.GoalPartialEq.TheImpl.{eq-value}
use Rattle.table_runs.specs.Below.{CxOf, Goal, HasProof, HasRefutation, is_among, NodeId, Outcome}
use Rattle.table_runs.specs.Right.{AreShown, SomeGraphShows}
use Rattle.table_runs.specs.Shown.{ForgetsGone, shown_of}
use Rattle.table_runs.proofs.Kept.{shows_on}

module _ {K V : Type 0} (P : K × V → Type 0) (test : K → Bool) where
  removed_case : (e : K × V) (es rest : List (K × V)) → P e → All P es → All P rest → (b : Bool)
      → All P (cond b es (e ∷ rest))
  removed_case e es rest here all others true = all
  removed_case e es rest here all others false = All-cons P e rest here others

  All-removed : (es : List (K × V)) → All P es → All P (remove_entry test es)
  All-removed [] all = all
  All-removed (e ∷ es) all =
      removed_case e es (remove_entry test es) (All-head P e es all) (All-tail P e es all)
      (All-removed es (All-tail P e es all)) (test e.0)

  set_case : (e : K × V) (v : V) (es rest : List (K × V)) → P e → All P es → All P rest → (b : Bool)
      → (b ≡ true → P (e.0, v)) → All P (cond b ((e.0, v) ∷ es) (e ∷ rest))
  set_case e v es rest here all others true put = All-cons P (e.0, v) es (put refl) all
  set_case e v es rest here all others false put = All-cons P e rest here others

  All-set : (es : List (K × V)) (v : V) → ((k : K) → test k ≡ true → P (k, v)) → All P es
      → All P (set_value test es v)
  All-set [] v put all = all
  All-set (e ∷ es) v put all =
      set_case e v es (set_value test es v) (All-head P e es all) (All-tail P e es all)
      (All-set es v put (All-tail P e es all)) (test e.0) (put e.0)

  -- an entry that was put among others, or in the place of another one
  pub all_with : (old new : List (K × V)) (k : K) (v : V) (was : Option V)
      → MatchOption was (IsPermutation ((k, v) ∷ old) new) (λ _. new ≡ set_value test old v)
      → P (k, v) → ((other : K) → test other ≡ true → P (other, v)) → All P old → All P new
  all_with old new k v None put here same all =
      All-permutation P ((k, v) ∷ old) new put (All-cons P (k, v) old here all)
  all_with old new k v (Some before) put here same all = subst (All P) (sym put) (All-set old v same all)

forgets_both : {A : Type 0} (before now : Bool) (o : Option A)
    → cond now None (if before then None else o) ≡ (if before || (now || false) then None else o)
forgets_both true true o = refl
forgets_both true false o = refl
forgets_both false true o = refl
forgets_both false false o = refl

-- goals are told apart by their numbers
pub goal_laws : IsEquivalence eq-value.it
goal_laws = record {
  refl = λ x. nat_eq_equiv.refl x.0;
  symm = λ x y. nat_eq_equiv.symm x.0 y.0;
  congr = λ x y z. nat_eq_equiv.congr x.0 y.0 z.0;
}

module _ {same : Goal → Goal → Bool} (laws : IsEquivalence same) where
  pub none_forgotten : (shown : List (Goal × (Outcome × NodeId))) → ForgetsGone same (is_among same []) shown shown
  none_forgotten shown = record { left = λ goal. refl; kept = All-contains_itself shown }

  -- one more goal is forgotten
  pub one_forgotten : (goals : List Goal) (goal : Goal) (old mid new : List (Goal × (Outcome × NodeId)))
      → ForgetsGone same (is_among same goals) old mid
      → ((other : Goal) → lookup (same other) new ≡ cond (same goal other) None (lookup (same other) mid))
      → IsPermutation (remove_entry (same goal) mid) new
      → ForgetsGone same (is_among same (goals ++ goal ∷ [])) old new
  one_forgotten goals goal old mid new before updates entries = record {
    left = λ other.
        updates other ∙ ap (cond (same goal other) None) (before.left other)
        ∙ ap (λ b. cond b None (if is_among same goals other then None else shown_of same old other))
        (laws.symm goal other)
        ∙ forgets_both (is_among same goals other) (same other goal) (shown_of same old other)
        ∙ ap (λ b. if b then None else shown_of same old other)
        (sym (list_any-append (same other) goals (goal ∷ [])));
    kept = All-permutation (Contains old) (remove_entry (same goal) mid) new entries
        (All-removed (Contains old) (same goal) mid before.kept);
  }

  -- what is remembered is of no goal that is gone
  none_is_gone : (is_gone : Goal → Bool) (old new : List (Goal × (Outcome × NodeId)))
      → ForgetsGone same is_gone old new → (key : Goal × (Outcome × NodeId)) → Contains new key → (b : Bool)
      → is_gone key.0 ≡ b → is_gone key.0 ≡ false
  none_is_gone is_gone old new forgets key has false is = is
  none_is_gone is_gone old new forgets key has true is =
      let none : shown_of same new key.0 ≡ None =
      forgets.left key.0 ∙ ap (λ b. if b then None else shown_of same old key.0) is in
      let some : IsSome (shown_of same new key.0) =
      IsSome-lookup_from_Contains laws key.0 new (Contains-mapped (λ e. e.0) new key has) in
      absurd (false≢true (subst (λ (o : Option (Outcome × NodeId)). IsSome o) none some))

  -- what is still remembered is shown by the rules after
  pub remembered_stay : {C A T : Type 0} (X : CxOf C Goal Outcome A T) (before after : C) (is_gone : Goal → Bool)
      → ((goal : Goal) → is_gone goal ≡ false → HasProof (X.proves before) goal → HasProof (X.proves after) goal)
      → ((goal : Goal) → is_gone goal ≡ false
      → HasRefutation (X.refutes before) goal → HasRefutation (X.refutes after) goal)
      → (old new : List (Goal × (Outcome × NodeId))) → ForgetsGone same is_gone old new → AreShown X before old
      → AreShown X after new
  remembered_stay X before after is_gone proof refutation old new forgets shown = λ k d lt.
      let key = get_or new k d in
      let stays = none_is_gone is_gone old new forgets key (All-contains_itself new k d lt) (is_gone key.0) refl in
      shows_on X before after key.0 key.1.0 (proof key.0 stays) (refutation key.0 stays)
      (All-contains (λ e. SomeGraphShows X before e.0 e.1.0) old key shown (forgets.kept k d lt))
