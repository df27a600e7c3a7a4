-- What a turn of the loop comes to, which is a move after which nodes may be let go.
use Rattle.std.specs.Prelude.{◌≡◌, ◌≤◌, Bool, length, List, []}
use Rattle.graph_nodes.specs.Collected.{StayBefore}
use Rattle.search_graph.specs.Below.{AreFrom, Cache, ChangesNewest, CxOf, DelegateOf, fates_of, Finished}
use Rattle.search_graph.specs.Below.{IsJustifiedNext, IsNew, IsRightFor, KeepsFirst, KeepsResults, Next, Step}
use Rattle.search_graph.specs.Below.{OpenGoal, verdicts}
use Rattle.search_state.specs.Drafts.{AreNotedNodes, HasNoDrafts}
use Rattle.search_state.specs.declared.evaluation.Evaluation.{Evaluation}

module _ {D C V P F I R A T : Type 0} (same : I → I → Bool) where
  -- The call's nodes begin at a place of the list, and no node before it leads to one of them; those of the goals' runs
  -- are among them; and the nodes of the results that it stored are noted.
  pub record HasDrafts (cache : Cache C I R T) (e : Evaluation D C V P F I R A T) : Type 0 where
    pub there : e.drafts.first ≤ length cache.nodes
    pub before : StayBefore e.drafts.first cache.nodes
    pub from : AreFrom e.drafts.first e.goals
    pub noted_are : AreNotedNodes same cache e.drafts

  -- this stays so as long as the call goes on
  abbrev pub HasDraftsNext : Next R → Cache C I R T → Evaluation D C V P F I R A T → Type 0
  HasDraftsNext (Step given) cache e = HasDrafts cache e
  HasDraftsNext (Finished answer) cache e = Unit {0}

  pub record KeepsDrafts (before : Evaluation D C V P F I R A T) (next : Next R) (cache : Cache C I R T)
      (after : Evaluation D C V P F I R A T) : Type 0 where
    pub first : after.drafts.first ≡ before.drafts.first
    pub has : HasDraftsNext next cache after

  -- What a turn keeps of the cache: the context, stored results or equal ones, of which none changes but those of the
  -- newest goal, and all nodes that were there when the call began.
  pub record TurnsCache (e : Evaluation D C V P F I R A T) (old new : Cache C I R T) : Type 0 where
    pub context : new.cx ≡ old.cx
    pub results : KeepsResults same old.results new.results
    pub nodes : KeepsFirst e.drafts.first old.nodes new.nodes
    pub changes : ChangesNewest same (fates_of e.goals) old.results new.results

-- Nothing was done yet: the evaluation is new, and the call has written no node.
pub record IsAtOutset {D C V P F I R A T : Type 0} (cache : Cache C I R T)
    (e : Evaluation D C V P F I R A T) : Type 0 where
  pub new : IsNew e
  pub no_drafts : HasNoDrafts cache.nodes e.drafts

-- what comes next is right: the reply for the goals, or the answer of the only goal
abbrev pub IsRightTurn : {D C V P F I R A T : Type 0} → DelegateOf D C V P F I R A T → CxOf C I R A T → (I → I → Bool)
    → C → List (OpenGoal C F I R A T) → Next R → Cache C I R T → Evaluation D C V P F I R A T → Type 0
IsRightTurn G X same cx goals (Step given) cache e = IsRightFor G X same cx given cache e
IsRightTurn G X same cx goals (Finished answer) cache e =
    IsJustifiedNext (verdicts X) cache.nodes goals [] (Finished answer)
