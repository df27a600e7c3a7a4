-- The provisional entries once the newest goal is popped: its own answer is one, where it rests on goals that are left.
use Rattle.std.proofs.Common.{◌≡◌, ℕ, ◌+◌, ◌<◌, Bool, ◌&&◌, if◌then◌else◌, List, [], ◌∷◌, ◌++◌, length, map, drop}
use Rattle.std.proofs.Common.{reverse, All, Option, None, Some, refl, sym, ap, ◌∙◌, subst}
use Rattle.std.specs.Option.{option_map, IfSome}
use Rattle.std.proofs.lemmas.Grind.{reverse_onto}
use Rattle.std.proofs.lemmas.List.{drop-map, map-append}
use Rattle.search_rules.specs.Below.{StackDepth, CycleHead, PathKind, Heads, highest, greatest_kind, EvaluationResult}
use Rattle.search_rules.specs.Below.{OpenGoal, StackEntry, ProvisionalCacheEntry, path_kind_from, Lists, entries_at}
use Rattle.search_rules.specs.Below.{NodeId, RebaseReason, Next}
use Rattle.provisional_cache.proofs.RebasedHeads.{highest_within}
use Rattle.search_rules.specs.Words.{GivesAnswer, final_answer, entries_for, entry_of, rebased_for}
use Rattle.search_rules.proofs.entries.Ready.{on_stack_many}
use Rattle.search_rules.proofs.rebasing.HeadOrder.{no_highest}

-- without a highest head there is none
pub headless : {X I R A T : Type 0} (answer : EvaluationResult X I R A T) (o : Option StackDepth)
    → o ≡ option_map (λ e. e.0) (highest answer.heads) → o ≡ None → answer.heads ≡ []
headless answer o is none = no_highest answer.heads (at (highest answer.heads) (sym is ∙ none))
  where
    at : (o : Option (StackDepth × CycleHead)) → option_map (λ e. e.0) o ≡ None → o ≡ None
    at None is = refl
    at (Some top) is = absurd cc

-- ---- the goal below has taken over the answer

module _ {X I R A T : Type 0} where
  -- the steps by which the goals were asked
  abbrev steps_of : List (StackEntry X I R A T) → List PathKind
  steps_of stack = map (λ e. e.step_kind_from_parent) stack

  -- the last goal with another state has the same step
  step_stays : (l : List (StackEntry X I R A T)) (e f : StackEntry X I R A T)
      → e.step_kind_from_parent ≡ f.step_kind_from_parent → steps_of (reverse (e ∷ l)) ≡ steps_of (reverse (f ∷ l))
  step_stays l e f same =
      ap steps_of (reverse_onto l e [])
      ∙ map-append (λ (e : StackEntry X I R A T). e.step_kind_from_parent) (reverse l) (e ∷ [])
      ∙ ap (λ kind. steps_of (reverse l) ++ kind ∷ []) same
      ∙ sym (map-append (λ (e : StackEntry X I R A T). e.step_kind_from_parent) (reverse l) (f ∷ []))
      ∙ sym (ap steps_of (reverse_onto l f []))

  module _ (stack other : List (StackEntry X I R A T)) (same_steps : steps_of stack ≡ steps_of other) where
    -- a path depends on the stack by its steps alone
    same_path : (head : ℕ) (step : PathKind) → path_kind_from stack head step ≡ path_kind_from other head step
    same_path head step =
        ap (λ l. greatest_kind (step ∷ l))
        (sym (drop-map (λ (e : StackEntry X I R A T). e.step_kind_from_parent) (head + 1) stack)
        ∙ ap (drop (head + 1)) same_steps
        ∙ drop-map (λ (e : StackEntry X I R A T). e.step_kind_from_parent) (head + 1) other)

    -- and so does the entry for an answer
    same_pushed : (step : PathKind) (answer : EvaluationResult X I R A T)
        → entries_for stack step answer ≡ entries_for other step answer
    same_pushed step answer = at (highest answer.heads)
      where
        at : (o : Option (StackDepth × CycleHead)) → ◌≡◌ {A = List (ProvisionalCacheEntry X I R A T)} (elim o [
          | None ↦ []
          | Some head ↦ entry_of stack head.0.0 step answer ∷ []
        ]) (elim o [ None ↦ [] | Some head ↦ entry_of other head.0.0 step answer ∷ [] ])
        at None = refl
        at (Some top) = ap (λ kind. record (entry_of stack top.0.0 step answer) { path_from_head = kind } ∷ [])
            (same_path top.0.0 step)

module _ {X F I R A T : Type 0} where
  -- the stack of the goals
  abbrev stack_of : List (OpenGoal X F I R A T) → List (StackEntry X I R A T)
  stack_of goals = reverse (map (λ s. s.0) goals)

  module _ (step : PathKind) (answer : EvaluationResult X I R A T) where
    -- the goals that are left have the steps that they had
    steps_stay : (below later : List (OpenGoal X F I R A T)) (next : Next R) → GivesAnswer step answer below next later
        → steps_of (stack_of later) ≡ steps_of (stack_of below)
    steps_stay [] later next given = ap (λ l. steps_of (stack_of l)) given.1
    steps_stay (p ∷ below) later next given =
        let a = given.1 in
        ap (λ l. steps_of (stack_of l)) a.is
        ∙ step_stays (map (λ s. s.0) a.below) (record a.entry { state = a.state }) a.entry refl
        ∙ sym (ap (λ l. steps_of (stack_of l)) a.was)

    -- and are as many
    as_many : (below later : List (OpenGoal X F I R A T)) (next : Next R)
        → GivesAnswer step answer below next later → length later ≡ length below
    as_many [] later next given = ap length given.1
    as_many (p ∷ below) later next given = let a = given.1 in ap length a.is ∙ sym (ap length a.was)

    -- the highest of heads that were on the stack is there still
    pub highest_stays : (below later : List (OpenGoal X F I R A T)) (next : Next R)
        → GivesAnswer step answer below next later → (heads : Heads)
        → All (λ (head : StackDepth × CycleHead). head.0.0 < length (reverse (map (λ s. s.0) below))) heads
        → IfSome (highest heads) (λ head. head.0.0 < length (reverse (map (λ s. s.0) later)))
    highest_stays below later next given heads on_stack =
        subst (λ n. IfSome (highest heads) (λ head. head.0.0 < n))
        (on_stack_many below ∙ sym (as_many below later next given) ∙ sym (on_stack_many later))
        (highest_within (length (stack_of below)) heads on_stack)

-- The entries were rebased for the reason once the goal was popped, and the answer was put last once it was given.
module _ {C X F I R A T : Type 0} (same : I → I → Bool) (enabled : Bool) (propagated : C → I → A → R)
    (overflow : C → I → R) (used cx : C) (same_context : used ≡ cx) (reason : Option (RebaseReason X I R A T)) (r : R)
    (target : Option NodeId) (s : OpenGoal X F I R A T) (below later : List (OpenGoal X F I R A T)) (next : Next R)
    (stack after : List (StackEntry X I R A T)) (stack_is : stack ≡ reverse (map (λ s. s.0) below))
    (after_is : after ≡ reverse (map (λ s. s.0) later)) (step : PathKind) (step_is : step ≡ s.0.step_kind_from_parent)
    (input : I) (input_is : input ≡ s.0.input) (answer : EvaluationResult X I R A T)
    (answer_is : answer ≡ final_answer s r target) (given : GivesAnswer step answer below next later)
    (old middle new : Lists I (ProvisionalCacheEntry X I R A T)) (changed : (goal : I) → entries_at same middle goal
    ≡ rebased_for (propagated used goal) (overflow used goal) reason stack s.0 (entries_at same old goal))
    (put : (goal : I) → entries_at same new goal
    ≡ entries_at same middle goal ++ (if enabled && same input goal then entries_for after step answer else [])) where
  -- the old entries, rebased
  abbrev rebased_by : C → List (StackEntry X I R A T) → I → List (ProvisionalCacheEntry X I R A T)
  rebased_by x l goal = rebased_for (propagated x goal) (overflow x goal) reason l s.0 (entries_at same old goal)

  -- what is put for the goal, where such entries may be used
  abbrev put_by : I → List (ProvisionalCacheEntry X I R A T) → I → List (ProvisionalCacheEntry X I R A T)
  put_by i l goal = if enabled && same i goal then l else []

  -- so the entries of each goal are the old ones, rebased, and the answer over the stack that was left
  pub entries_rebased : (goal : I) → entries_at same new goal
      ≡ rebased_for (propagated cx goal) (overflow cx goal) reason
      (reverse (map (λ s. s.0) below)) s.0 (entries_at same old goal)
      ++ (if enabled && same s.0.input goal
      then entries_for (reverse (map (λ s. s.0) below)) s.0.step_kind_from_parent (final_answer s r target) else [])
  entries_rebased goal =
      put goal
      ∙ ap (λ l. l ++ put_by input (entries_for after step answer) goal)
      (changed goal ∙ ap (λ x. rebased_by x stack goal) same_context ∙ ap (λ l. rebased_by cx l goal) stack_is)
      ∙ ap (λ l. rebased_by cx (stack_of below) goal ++ l)
      (ap (λ i. put_by i (entries_for after step answer) goal) input_is
      ∙ ap (λ l. put_by s.0.input l goal)
      (ap (λ l. entries_for l step answer) after_is
      ∙ same_pushed (stack_of later) (stack_of below) (steps_stay step answer below later next given) step answer
      ∙ ap (λ k. entries_for (stack_of below) k answer) step_is
      ∙ ap (entries_for (stack_of below) s.0.step_kind_from_parent) answer_is))
