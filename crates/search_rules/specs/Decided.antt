-- Goals under evaluation whose answers are all yes or no so far.
use Rattle.std.specs.Prelude.{◌≡◌, Bool, true, false, List, [], ◌∷◌, reverse}
use Rattle.std.specs.Option.{IfSome}
use Rattle.search_rules.specs.Below.{Request, Reply, OpenGoal, IsDecidedKind, AreDecided, IsDecisive}
use Rattle.search_rules.specs.Below.{IsDefinite, Verdicts}

module _ {X F I R A T : Type 0} (says : Verdicts R) where
  -- the replies of the goal's run and its provisional result are decided
  pub record IsDecided (s : OpenGoal X F I R A T) : Type 0 where
    pub replies : AreDecided says (reverse s.1.progress.replies)
    pub provisional : IfSome s.0.state.provisional_result (IsDefinite says)

  -- the same of all goals, each of which but the first was asked for by a decided step
  abbrev pub AllDecided : List (OpenGoal X F I R A T) → Type 0
  AllDecided [] = Unit {0}
  AllDecided (s ∷ []) = IsDecided s
  AllDecided (s ∷ p ∷ below) = IsDecided s × IsDecidedKind s.0.step_kind_from_parent × AllDecided (p ∷ below)

-- if the scripts are decisive, no result was stored before that isn't yes or no, and no limit was met
abbrev pub WhereDecisive : {I R : Type 0} → Verdicts R → (I → List (Reply R) → Request I R)
    → (all_definite met : Bool) → Type 0 → Type 0
WhereDecisive says scripts all_definite met P = IsDecisive says scripts × (all_definite ≡ true) → met ≡ false → P
