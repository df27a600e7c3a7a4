-- The goals below the newest goal, and a stored result that it takes over.
use Rattle.std.proofs.Common.{◌≡◌, ℕ, ◌-◌, ◌<◌, Bool, true, false, List, [], ◌∷◌, length, get_or, Result, Ok, Err, OnOk}
use Rattle.std.proofs.Common.{sym, ap, ◌∙◌, subst}
use Rattle.std.specs.Option.{option_map}
use Rattle.open_goals.specs.Below.{PathKind, StackDepth, Heads, StackEntry, EntryState, change_last, Hit, NestedPaths}
use Rattle.open_goals.specs.Below.{joined_paths, paths_at, JoinsPaths, extended, path_of_no_step, paths_of, Run}
use Rattle.goal_changes.specs.Words.{with_depth, with_nested_goals, ChangesNested, TakesHeads, TakesHeadGoal}
use Rattle.goal_changes.specs.Words.{TakesNestedGoals, Joined, NotesOverflow, TakesStored, paired}
use Rattle.open_goals.proofs.Changes.{NewestState, newest_state}
use Rattle.goal_changes.specs.OpenGoal.{OpenGoal}

-- the goals of an answer are joined, and then the goal itself
pub goals_joined : {I V E : Type 0} (same : I → I → Bool) (own : I) (step : PathKind)
    (answer old between new : NestedPaths I) (r : Result V E) (none : Bool)
    → none ≡ false → (answer ≡ [] → none ≡ true) → ((input : I) → paths_at same between input
    ≡ joined_paths (paths_at same old input) (option_map (λ paths. extended paths step) (paths_at same answer input)))
    → OnOk r (JoinsPaths same between new own path_of_no_step) → OnOk r (TakesNestedGoals same own step answer old new)
goals_joined same own step answer old between new (Ok v) none some exact takes joins =
    Joined between (λ empty. let e : false ≡ true = sym some ∙ exact empty in cc) takes joins
goals_joined same own step answer old between new (Err e) none some exact takes joins = tt

-- the head of a cycle is joined, and then the goal itself
pub head_joined : {I V E : Type 0} (same : I → I → Bool) (own : I) (step : PathKind) (goal : I)
    (old between new : NestedPaths I) (r : Result V E) → JoinsPaths same old between goal (paths_of step)
    → OnOk r (JoinsPaths same between new own path_of_no_step) → OnOk r (TakesHeadGoal same own step goal old new)
head_joined same own step goal old between new (Ok v) head itself =
    record { between = between; head = head; itself = itself }
head_joined same own step goal old between new (Err e) head itself = tt

module _ {X F I R A T : Type 0} (same : I → I → Bool) (es : List (StackEntry X I R A T)) (fs : List (Run X F I R A T))
    (view : List (OpenGoal X F I R A T)) (long : length es ≡ length fs) (is : paired [] es fs ≡ view)
    (some : 0 < length view) (w x : EntryState X I R A T)
    (w_is : (d : StackEntry X I R A T) → w ≡ (get_or es (length es - 1) d).state) (e : StackEntry X I R A T)
    (e_is : e ≡ get_or es (length es - 1) e) where
  -- the newest goal with its state
  here : NewestState es fs view w x
  here = newest_state es fs view long is some w x w_is

  own_is : here.entry.input ≡ e.input
  own_is = ap (λ (y : StackEntry X I R A T). y.input) (sym (e_is ∙ here.entry_is e))

  -- what becomes of the goals below it
  pub nested_changed : {V E : Type 0} (r : Result V E) (takes : I → NestedPaths I → NestedPaths I → Type 0)
      → OnOk r (takes e.input w.nested_goals x.nested_goals)
      → OnOk r (ChangesNested takes view (paired [] (change_last (λ e. record e { state = x }) es) fs))
  nested_changed (Err f) takes t = tt
  nested_changed (Ok v) takes t =
      subst (λ l. ChangesNested takes l (paired [] (change_last (λ e. record e { state = x }) es) fs)) (sym here.was)
      (subst (λ l. ChangesNested takes ((here.entry, here.run) ∷ here.below) l) (sym here.is)
      (subst (λ own. takes own here.entry.state.nested_goals x.nested_goals) (sym own_is)
      (subst (λ (s : EntryState X I R A T). takes e.input s.nested_goals x.nested_goals) (sym here.state_is) t)))

  -- the same, of a goal that took over the depth and the heads of an answer first, which leave the goals below it
  pub nested_answered :
      {V E : Type 0} (r : Result V E) (takes : I → NestedPaths I → NestedPaths I → Type 0) (parent : StackDepth)
      (step : PathKind) (required : ℕ) (overflow : Bool) (answer : Heads) (between taken : EntryState X I R A T)
      → between ≡ with_depth w required overflow → TakesHeads parent step answer between taken → (own : I)
      → own ≡ e.input → OnOk r (takes own taken.nested_goals x.nested_goals)
      → OnOk r (ChangesNested takes view (paired [] (change_last (λ e. record e { state = x }) es) fs))
  nested_answered r takes parent step required overflow answer between taken noted heads own same_own t =
      let stayed : taken.nested_goals ≡ w.nested_goals = ap (λ (s : EntryState X I R A T). s.nested_goals) heads.others
      ∙ ap (λ (s : EntryState X I R A T). s.nested_goals) noted in
      nested_changed r takes (subst (λ own. OnOk r (takes own w.nested_goals x.nested_goals)) same_own
      (subst (λ before. OnOk r (takes own before x.nested_goals)) stayed t))

  -- a question of it was refused
  pub overflow_noted : {V E : Type 0} (r : Result V E) (nested : NestedPaths I)
      → x ≡ record w { encountered_overflow = true; nested_goals = nested }
      → OnOk r (JoinsPaths same w.nested_goals nested e.input path_of_no_step)
      → OnOk r (NotesOverflow same view (paired [] (change_last (λ e. record e { state = x }) es) fs))
  overflow_noted (Err f) nested x_is joins = tt
  overflow_noted (Ok v) nested x_is joins = record {
    entry = here.entry;
    run = here.run;
    below = here.below;
    nested = nested;
    was = here.was;
    is = here.is ∙ ap (λ (s : EntryState X I R A T). (record here.entry { state = s }, here.run) ∷ here.below)
        (x_is ∙ ap (λ (s : EntryState X I R A T). record s { encountered_overflow = true; nested_goals = nested })
        (sym here.state_is));
    joins = subst (λ own. JoinsPaths same here.entry.state.nested_goals nested own path_of_no_step) (sym own_is)
        (subst (λ (s : EntryState X I R A T). JoinsPaths same s.nested_goals nested e.input path_of_no_step)
        (sym here.state_is) joins);
  }

  -- it takes a stored result over
  pub stored_taken : {V E : Type 0} (r : Result V E) (step : PathKind) (hit : Hit I R T)
      (between : EntryState X I R A T) → between ≡ with_depth w hit.required_depth hit.encountered_overflow
      → x ≡ with_nested_goals between x.nested_goals
      → OnOk r (TakesNestedGoals same e.input step hit.nested_goals between.nested_goals x.nested_goals)
      → OnOk r (TakesStored same step hit view (paired [] (change_last (λ e. record e { state = x }) es) fs))
  stored_taken (Err f) step hit between noted x_is takes = tt
  stored_taken (Ok v) step hit between noted x_is takes =
      let deeper : between ≡ with_depth here.entry.state hit.required_depth hit.encountered_overflow = noted ∙ ap
      (λ (s : EntryState X I R A T). with_depth s hit.required_depth hit.encountered_overflow) (sym here.state_is) in
      record {
        entry = here.entry;
        run = here.run;
        below = here.below;
        nested = x.nested_goals;
        was = here.was;
        is = here.is ∙ ap (λ (s : EntryState X I R A T). (record here.entry { state = s }, here.run) ∷ here.below)
            (x_is ∙ ap (λ (s : EntryState X I R A T). with_nested_goals s x.nested_goals) deeper);
        takes =
            subst (λ own. TakesNestedGoals same own step hit.nested_goals here.entry.state.nested_goals x.nested_goals)
            (sym own_is)
            (subst (λ (s : EntryState X I R A T).
            TakesNestedGoals same e.input step hit.nested_goals s.nested_goals x.nested_goals) deeper takes);
      }
