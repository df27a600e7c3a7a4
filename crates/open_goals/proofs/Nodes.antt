-- Nodes that are in a list stay in it while it grows.
use Rattle.std.proofs.Common.{◌≡◌, ℕ, ◌<◌, ◌+◌, List, [], ◌∷◌, ◌++◌, length, take, get_or, All, Contains, Option, Some}
use Rattle.std.proofs.Common.{None, Result, Ok, Err, OnOk, sym, subst}
use Rattle.std.proofs.lemmas.List.Elements.{All-nil, All-cons, All-head, All-tail, All-weaker}
use Rattle.std.specs.Option.{IfSome}
use Rattle.open_goals.specs.Below.{NodeId, StackEntry, Run, HasRunNodes}
use Rattle.goal_changes.specs.Words.{paired}
use Rattle.open_goals.specs.Nodes.{HasCycleNode, HasNodes}
use Rattle.goal_changes.specs.OpenGoal.{OpenGoal}
use Rattle.run_records.proofs.Nodes.{Kept, kept_by_push, has_pushed, all_more_kept}

if_some_kept : (few many : List NodeId) → Kept few many → (node : Option NodeId)
    → IfSome node (Contains few) → IfSome node (Contains many)
if_some_kept few many kept None has = tt
if_some_kept few many kept (Some node) has = kept node has

pub keeps_cycle_node : {X I R A T : Type 0} (few many : List NodeId) → Kept few many → (e : StackEntry X I R A T)
    → HasCycleNode few e → HasCycleNode many e
keeps_cycle_node few many kept e has = if_some_kept few many kept e.state.node has

module _ {X I R A T : Type 0} (few many : List NodeId) (es : List (StackEntry X I R A T)) (place : ℕ)
    (e : StackEntry X I R A T) (below : place < length es) (at : e ≡ get_or es place e)
    (so_far : All (HasCycleNode few) (take place es)) where
  -- the node of one entry more is pushed
  pub cycle_pushed : (node : NodeId) → e.state.node ≡ Some node → many ≡ few ++ node ∷ []
      → Kept few many × All (HasCycleNode many) (take (place + 1) es)
  cycle_pushed node is pushed =
      let kept = kept_by_push few many node pushed in (
        kept,
        all_more_kept HasCycleNode keeps_cycle_node few many es place e below at kept so_far
            (subst (λ o. IfSome o (Contains many)) (sym is) (has_pushed few many node pushed)),
      )

  -- or it has none
  pub cycle_passed : e.state.node ≡ None → many ≡ few → Kept few many × All (HasCycleNode many) (take (place + 1) es)
  cycle_passed is same =
      let kept : Kept few many = subst (Kept few) (sym same) (λ n within. within) in (
        kept,
        all_more_kept HasCycleNode keeps_cycle_node few many es place e below at kept so_far
            (subst (λ o. IfSome o (Contains many)) (sym is) tt),
      )

module _ {X F I R A T : Type 0} (nodes : List NodeId) where
  both : (e : StackEntry X I R A T) (run : Run X F I R A T) → HasCycleNode nodes e
      → HasRunNodes nodes run → HasNodes nodes (e, run)
  both e run cycle own = record { own = own.own; cycles = cycle; answers = own.answers }

  pub all_paired : (below : List (OpenGoal X F I R A T))
      (es : List (StackEntry X I R A T)) (runs : List (Run X F I R A T))
      → All (HasNodes nodes) below → All (HasCycleNode nodes) es → All (HasRunNodes nodes) runs
      → All (HasNodes nodes) (paired below es runs)
  all_paired below [] runs had cycles own = had
  all_paired below (e ∷ es) [] had cycles own = had
  all_paired below (e ∷ es) (run ∷ runs) had cycles own =
      all_paired ((e, run) ∷ below) es runs
      (All-cons (HasNodes nodes) (e, run) below
      (both e run (All-head (HasCycleNode nodes) e es cycles) (All-head (HasRunNodes nodes) run runs own)) had)
      (All-tail (HasCycleNode nodes) e es cycles)
      (All-tail (HasRunNodes nodes) run runs own)

-- the goals have their nodes where their entries had theirs before the runs' were appended
pub goals_on_ok : {X F I R A T U E : Type 0} (es : List (StackEntry X I R A T)) (runs : List (Run X F I R A T))
    (view : List (OpenGoal X F I R A T)) → paired [] es runs ≡ view
    → (few many : List NodeId) → Kept few many → All (HasCycleNode few) es → (r : Result U E)
    → OnOk r (All (HasRunNodes many) runs) → OnOk r (All (HasNodes many) view)
goals_on_ok es runs view is few many kept cycles (Ok u) own =
    subst (All (HasNodes many)) is (all_paired many [] es runs (All-nil (HasNodes many))
    (All-weaker (HasCycleNode few) (HasCycleNode many) (keeps_cycle_node few many kept) es cycles) own)
goals_on_ok es runs view is few many kept cycles (Err e) own = tt
