-- What is read of the newest goal, and what the goals are once it was changed.
use Rattle.std.proofs.Common.{◌≡◌, ℕ, ◌-◌, ◌<◌, List, [], ◌∷◌, length, get_or, slice_set, Bool, Option, Some, None}
use Rattle.std.proofs.Common.{IfSome, Result, Ok, Err, OnOk, option_map, sym, ap, ◌∙◌, subst, arith}
use Rattle.open_goals.specs.Below.{change_last, StackEntry, EntryState, PathKind, StackDepth, Heads, NestedPaths, Run}
use Rattle.search_stack.proofs.LastState.{some_element}
use Rattle.goal_changes.specs.Words.{with_depth, with_nested_goals, TakesHeads, AnswersNewest, paired}
use Rattle.goal_changes.specs.Words.{newest, change_newest}
use Rattle.open_goals.proofs.Pairs.{last_pair, LastPair, length_of_view}
use Rattle.goal_changes.specs.OpenGoal.{OpenGoal}

module _ {E F : Type 0} (es : List E) (fs : List F) (view : List (E × F)) (same : length es ≡ length fs)
    (is : paired [] es fs ≡ view) (some : 0 < length view) where
  pub some_entries : 0 < length es
  some_entries = omega (arith, (length_of_view es fs view same is).0, some)

  pub some_runs : 0 < length fs
  some_runs = omega (arith, (length_of_view es fs view same is).1, some)

  last : LastPair [] es fs (length fs - 1) (some_element fs some_runs)
  last = last_pair [] es fs (length fs - 1) (some_element fs some_runs) same (omega (arith, some_runs))

  pub newest_entry : (e : E) → e ≡ get_or es (length es - 1) e → option_map (λ s. s.0) (newest view) ≡ Some e
  newest_entry e e_is =
      let entry_is : last.entry ≡ e = sym (last.entry_is e) ∙ ap (λ n. get_or es (n - 1) e) (sym same) ∙ sym e_is in
      ap (λ v. option_map (λ s. s.0) (newest v)) (sym is ∙ last.is) ∙ ap Some entry_is

  -- the run at the last place is the newest goal's
  pub newest_run : {B : Type 0} (k : F → B) (n : ℕ) (run : F) → n ≡ length fs - 1 → run ≡ get_or fs n run
      → option_map (λ s. k s.1) (newest view) ≡ Some (k run)
  newest_run k n run at run_is =
      let top = last_pair [] es fs n run same (omega (arith, some_runs)) in
      ap (λ v. option_map (λ s. k s.1) (newest v)) (sym is ∙ top.is) ∙ ap (λ r. Some (k r)) (sym run_is)

  -- it was `run`, and is k of that now
  pub run_changed : (n : ℕ) (run x : F) → n ≡ length fs - 1 → run ≡ get_or fs n run → (k : F → F) → x ≡ k run
      → paired [] es (slice_set fs n x) ≡ change_newest (λ s. (s.0, k s.1)) view
  run_changed n run x at run_is k x_is =
      let top = last_pair [] es fs n run same (omega (arith, some_runs)) in
      top.after_set x
      ∙ ap (λ y. (top.entry, y) ∷ top.rest) (x_is ∙ ap k run_is)
      ∙ ap (change_newest (λ s. (s.0, k s.1))) (sym top.is ∙ is)

  -- f changes the last entry as h does
  pub changed_likewise : (f h : E → E) → ((e : E) → ((d : E) → get_or es (length es - 1) d ≡ e) → f e ≡ h e)
      → paired [] (change_last f es) fs ≡ change_newest (λ s. (h s.0, s.1)) view
  changed_likewise f h likewise =
      let run = get_or fs (length fs - 1) (some_element fs some_runs) in
      let there : (d : E) → get_or es (length es - 1) d ≡ last.entry =
      λ d. ap (λ n. get_or es (n - 1) d) same ∙ last.entry_is d in
      last.after_change f
      ∙ ap (λ e. (e, run) ∷ last.rest) (likewise last.entry there)
      ∙ ap (change_newest (λ s. (h s.0, s.1))) (sym last.is ∙ is)

module _ {X I R A T F : Type 0} (es : List (StackEntry X I R A T)) (fs : List F)
    (view : List (StackEntry X I R A T × F)) (same : length es ≡ length fs)
    (is : paired [] es fs ≡ view) (some : 0 < length view) where
  -- the last entry's state was w, and is x now
  pub state_changed : (w x : EntryState X I R A T) (h : StackEntry X I R A T → StackEntry X I R A T)
      → ((d : StackEntry X I R A T) → w ≡ (get_or es (length es - 1) d).state)
      → ((e : StackEntry X I R A T) → w ≡ e.state → record e { state = x } ≡ h e)
      → paired [] (change_last (λ e. record e { state = x }) es) fs ≡ change_newest (λ s. (h s.0, s.1)) view
  state_changed w x h w_is likewise =
      changed_likewise es fs view same is some (λ e. record e { state = x }) h
      (λ e there. likewise e (w_is e ∙ ap (λ (y : StackEntry X I R A T). y.state) (there e)))

module _ {X I R A T F : Type 0} (es : List (StackEntry X I R A T)) (fs : List F)
    (view : List (StackEntry X I R A T × F)) (same : length es ≡ length fs)
    (is : paired [] es fs ≡ view) (some : 0 < length view) where
  -- the last entry's state was w and its run was `run`, and they are x and y now
  pub both_changed :
      (w x : EntryState X I R A T) (n : ℕ) (run y : F) (h : StackEntry X I R A T × F → StackEntry X I R A T × F)
      → ((d : StackEntry X I R A T) → w ≡ (get_or es (length es - 1) d).state) → n ≡ length fs - 1
      → run ≡ get_or fs n run → ((e : StackEntry X I R A T) → e.state ≡ w → (record e { state = x }, y) ≡ h (e, run))
      → paired [] (change_last (λ e. record e { state = x }) es) (slice_set fs n y) ≡ change_newest h view
  both_changed w x n run y h w_is at run_is likewise =
      let some_fs = some_runs es fs view same is some in
      let top = last_pair [] es fs n run same (omega (arith, some_fs)) in
      let there : get_or es (length es - 1) top.entry ≡ top.entry =
      ap (λ m. get_or es m top.entry) (omega (arith, same, at)) ∙ top.entry_is top.entry in
      top.after_both (λ e. record e { state = x }) y
      ∙ ap (λ z. z ∷ top.rest) (likewise top.entry
      (sym (w_is top.entry ∙ ap (λ (z : StackEntry X I R A T). z.state) there)) ∙ ap (λ z. h (top.entry, z)) run_is)
      ∙ ap (change_newest h) (sym top.is ∙ is)

-- heads that are taken over beside other goals below
nested_too : {X I R A T : Type 0} (parent : StackDepth) (step : PathKind) (answer : Heads)
    (old new : EntryState X I R A T) (nested : NestedPaths I) → TakesHeads parent step answer old new
    → TakesHeads parent step answer (with_nested_goals old nested) (with_nested_goals new nested)
nested_too parent step answer old new nested t = record {
  others = ap (λ (s : EntryState _ _ _ _ _). with_nested_goals s nested) t.others;
  usages = t.usages;
  heads = t.heads;
  in_candidate = t.in_candidate;
  in_cycle = t.in_cycle;
}

-- the newest goal, whose state was w and is x now
pub record NewestState {X I R A T F : Type 0} (es : List (StackEntry X I R A T)) (fs : List F)
    (view : List (StackEntry X I R A T × F)) (w x : EntryState X I R A T) : Type 0 where
  pub entry : StackEntry X I R A T
  pub run : F
  pub below : List (StackEntry X I R A T × F)
  pub was : view ≡ (entry, run) ∷ below
  pub is : paired [] (change_last (λ e. record e { state = x }) es) fs ≡ (record entry { state = x }, run) ∷ below
  pub entry_is : (d : StackEntry X I R A T) → get_or es (length es - 1) d ≡ entry
  pub state_is : entry.state ≡ w
  pub depth_is : length es - 1 ≡ length below

module _ {X F I R A T : Type 0} (es : List (StackEntry X I R A T)) (fs : List (Run X F I R A T))
    (view : List (OpenGoal X F I R A T)) (same : length es ≡ length fs)
    (is : paired [] es fs ≡ view) (some : 0 < length view) where
  pub newest_state : (w x : EntryState X I R A T)
      → ((d : StackEntry X I R A T) → w ≡ (get_or es (length es - 1) d).state) → NewestState es fs view w x
  newest_state w x w_is =
      let top = last es fs view same is some in
      let there : (d : StackEntry X I R A T) → get_or es (length es - 1) d ≡ top.entry =
      λ d. ap (λ n. get_or es (n - 1) d) same ∙ top.entry_is d in
      record {
        entry = top.entry;
        run = get_or fs (length fs - 1) (some_element fs (some_runs es fs view same is some));
        below = top.rest;
        was = sym is ∙ top.is;
        is = top.after_change (λ e. record e { state = x });
        entry_is = there;
        state_is = sym (w_is top.entry ∙ ap (λ (y : StackEntry X I R A T). y.state) (there top.entry));
        depth_is = omega (arith, (length_of_view es fs view same is).0, ap length (sym is ∙ top.is));
      }

  -- the newest goal takes an answer over
  module _ (w x : EntryState X I R A T) (w_is : (d : StackEntry X I R A T) → w ≡ (get_or es (length es - 1) d).state)
      (step : PathKind) (required : ℕ) (overflow : Bool) (answer : Heads) (parent : StackDepth)
      (last_place : parent.0 ≡ length es - 1) (between : EntryState X I R A T)
      (noted : between ≡ with_depth w required overflow) where
    answered_at : (taken : EntryState X I R A T) → TakesHeads parent step answer between taken
        → x ≡ with_nested_goals taken x.nested_goals
        → AnswersNewest step required overflow answer view (paired [] (change_last (λ e. record e { state = x }) es) fs)
    answered_at taken takes x_is =
        let n = newest_state w x w_is in
        let place : parent ≡ record { 0 = length n.below } = λ i. record { 0 = (last_place ∙ n.depth_is) i } in
        record {
          entry = n.entry;
          run = n.run;
          below = n.below;
          state = x;
          was = n.was;
          is = n.is;
          takes = subst (λ p. TakesHeads p step answer
              (with_nested_goals (with_depth n.entry.state required overflow) x.nested_goals) x) place
              (subst (λ (s : EntryState X I R A T).
              TakesHeads parent step answer (with_nested_goals s x.nested_goals) x)
              (noted ∙ ap (λ (s : EntryState X I R A T). with_depth s required overflow) (sym n.state_is))
              (subst (TakesHeads parent step answer (with_nested_goals between x.nested_goals)) (sym x_is)
              (nested_too parent step answer between taken x.nested_goals takes)));
        }

    pub newest_answered : {V E : Type 0} (r : Result V E) (taken : EntryState X I R A T)
        → TakesHeads parent step answer between taken → x ≡ with_nested_goals taken x.nested_goals → OnOk r
        (AnswersNewest step required overflow answer view (paired [] (change_last (λ e. record e { state = x }) es) fs))
    newest_answered (Ok v) taken takes x_is = answered_at taken takes x_is
    newest_answered (Err e) taken takes x_is = tt

-- what holds of the newest holds of what is read of it
pub if_newest : {A B : Type 0} (o : Option A) (f : A → B) (P : B → Type 0) (y : B)
    → IfSome o (λ x. P (f x)) → option_map f o ≡ Some y → P y
if_newest None f P y h is = absurd cc
if_newest (Some x) f P y h is = let same : f x ≡ y = cc in subst P same h
