-- What a question comes to, by the rules as they stand.
use Rattle.std.specs.Prelude.{◌≡◌, ℕ, Bool, IfOk, List, Result, Some}
use Rattle.std.specs.Borrow.{Bor}
use Rattle.conversations.specs.Below.{AnyOf, Cache, Change, ContextOf, CxOf, DelegateOf}
use Rattle.conversations.specs.Below.{EachGraph, Fault, Goal, IsAnswered}
use Rattle.conversations.specs.Below.{IsOpenTableOf, IsRightlyTold, IsSoundCache, name_of, OpenRules, Outcome, Table}
use Rattle.conversations.specs.Below.{Told, verdicts}

-- what lends a table as a context
abbrev pub Lending : Type 0
Lending = ContextOf (AnyOf (OpenRules (Bor Table)))

-- the table that is lent
abbrev pub lent_by : Lending → Table
lent_by cx = cx.0.0.lender.now

module _ {D V P F A T : Type 0} (G : DelegateOf D Lending V P F Goal Outcome A T) (X : CxOf Lending Goal Outcome A T)
    (same : Goal → Goal → Bool) (same_result : Outcome → Outcome → Bool) where
  -- The goal of this name was asked at this depth, over a table that has these changes, and this is what it came to.
  pub record IsAnswer (changes : List Change) (depth : ℕ) (name : List ℕ) (came : Result Told (Fault Goal Outcome)) :
      Type 0 where
    pub cx : Lending
    pub is_table : IsOpenTableOf changes (lent_by cx)
    pub goal : Goal
    pub is_goal : name_of (lent_by cx) goal ≡ Some name
    -- By these rules alone it is right, and told as checked only if a graph shows it.
    pub right : IfOk came (IsRightlyTold X cx goal)
    -- It is as each answer of a search is by these rules, whatever was found out by rules of before.
    pub before : Cache Lending Goal Outcome T
    pub after : Cache Lending Goal Outcome T
    pub is_context : before.cx ≡ cx
    pub is_sound : IsSoundCache same (verdicts X) G.script before
    pub answered : IsAnswered G X same same_result EachGraph before
        (record { question = (depth, goal); came = came }) after
