-- Scopes are held as goals begin, and let go as they are popped.
use Rattle.std.proofs.Common.{◌≡◌, ◌<◌, ◌∙◌, Bool, List, [], ◌∷◌, length, None, Option, Some, is_some, option_map, sym}
use Rattle.std.proofs.Common.{subst, ap, arith}
use Rattle.between_moves.specs.Below.{Next, OpenGoal}
use Rattle.between_moves.specs.Scopes.{HoldScopes, HoldsNewest, HoldsOwn}
use Rattle.goal_changes.specs.declared.Next.TheVariants.{Finished, Step}
use Rattle.goal_changes.specs.Newest.{newest}
use Rattle.run_records.specs.declared.runs.Fate.{Fate}
use Rattle.run_records.specs.declared.runs.Fate.TheVariants as becomes
use Rattle.run_records.specs.declared.runs.Run.{Run}
use Rattle.search_rules.proofs.moves.Fates.{fates_left}
use Rattle.search_rules.specs.Fates.{Fated, fates_of, is_compared}
use Rattle.search_rules.specs.Moves.{NewestLeaves}
use Rattle.search_state.specs.Scopes.{held_over}

module _ {R V : Type 0} where
  -- a scope that there is just where the result is to be compared is the goal's own
  pub holds_own : (fate : Fate R) (scope : Option V) (below held : List V) → is_some scope ≡ is_compared fate
      → held ≡ held_over scope below → HoldsOwn fate below held
  holds_own (becomes.Compared r) (Some scope) below held there is = (scope, is)
  holds_own (becomes.Compared r) None below held there is = absurd cc
  holds_own becomes.Stored (Some scope) below held there is = absurd cc
  holds_own becomes.Stored None below held there is = is
  holds_own becomes.NotStored (Some scope) below held there is = absurd cc
  holds_own becomes.NotStored None below held there is = is

  -- what is left without it is one list
  own_leaves : (fate : Fate R) (below left held : List V) → HoldsOwn fate below held
      → HoldsOwn fate left held → below ≡ left
  own_leaves (becomes.Compared r) below left held one two =
      let both : one.0 ∷ below ≡ two.0 ∷ left = sym one.1 ∙ two.1 in cc
  own_leaves becomes.Stored below left held one two = sym one ∙ two
  own_leaves becomes.NotStored below left held one two = sym one ∙ two

-- the newest goal is gone, with its own scope
pub scopes_left : {I R V : Type 0} (s : Fated I R) (goals : List (Fated I R)) (left held : List V)
    → HoldScopes (s ∷ goals) held → HoldsOwn s.fate left held → HoldScopes goals left
scopes_left s goals left held h own = subst (HoldScopes goals) (own_leaves s.fate h.0 left held h.1 own) h.2

-- ---- which goals hold scopes after a move

-- once the call has its answer, none does
abbrev pub HoldScopesNext : {X F I R A T V : Type 0} → Next R → List (OpenGoal X F I R A T) → List V → Type 0
HoldScopesNext (Step given) goals held = HoldScopes (fates_of goals) held
HoldScopesNext (Finished answer) goals held = held ≡ []

module _ {X F I R A T V : Type 0} where
  next_holds : (r : R) (old new : List (OpenGoal X F I R A T)) (next : Next R) (left : List V)
      → NewestLeaves r old next new → HoldScopes (fates_of new) left → HoldScopesNext next new left
  next_holds r [] new next left l h = absurd l
  next_holds r (s ∷ []) new next left l h =
      subst (λ n. HoldScopesNext n new left) (sym l.1) (subst (λ gs. HoldScopes (fates_of gs) left) l.2 h)
  next_holds r (s ∷ p ∷ below) new next left l h = subst (λ n. HoldScopesNext n new left) (sym l.1) h

  -- the newest goal was popped
  pub popped_holds : (r : R) (old new : List (OpenGoal X F I R A T)) (next : Next R) (left held : List V)
      → NewestLeaves r old next new → HoldsNewest (fates_of old) left held
      → HoldScopes (fates_of old) held → HoldScopesNext next new left
  popped_holds r old new next left held l own h =
      let fates = fates_left r old new next l in
      next_holds r old new next left l
      (scopes_left fates.0 (fates_of new) left held (subst (λ fs. HoldScopes fs held) fates.1 h)
      (subst (λ fs. HoldsNewest fs left held) fates.1 own))
