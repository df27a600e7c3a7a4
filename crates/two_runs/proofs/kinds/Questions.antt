-- Walks of questions and their kinds.
use Rattle.std.proofs.Common.{◌≡◌, List, sym, ap₂, ◌∙◌, subst, arith}
use Rattle.path_kinds.proofs.PathRanks.{greater_rank, same_kind}
use Rattle.search_graph.proofs.called.Reaching.{asked_reached, reaches_on}
use Rattle.search_graph.specs.Reaching.{here, MayAsk, MayReach, on}
use Rattle.two_runs.specs.Below.{greater_kind, Inductive, PathKind, Reply, Request}
use Rattle.two_runs.specs.OneKind.{AsksByOneKind, first, last, MayLeadTo}
use Rattle.two_runs.specs.Kinds.{AskedByKind}

-- ---- the greater of kinds

pub greater_swapped : (k l : PathKind) → greater_kind k l ≡ greater_kind l k
greater_swapped k l = same_kind _ _ (omega (arith, greater_rank k l, greater_rank l k))

greater_turned : (j k l : PathKind) → greater_kind j (greater_kind k l) ≡ greater_kind k (greater_kind j l)
greater_turned j k l = same_kind _ _ (omega
    (arith, greater_rank j (greater_kind k l), greater_rank k l, greater_rank k (greater_kind j l), greater_rank j l))

pub greater_least : (k : PathKind) → greater_kind k Inductive ≡ k
greater_least k = same_kind _ _ (omega (arith, greater_rank k Inductive))

greater_self : (k : PathKind) → greater_kind k k ≡ k
greater_self k = same_kind _ _ (omega (arith, greater_rank k k))

pub greater_same : (k l kind : PathKind) → k ≡ kind → l ≡ kind → greater_kind k l ≡ kind
greater_same k l kind one other = ap₂ greater_kind one other ∙ greater_self kind

module _ {I R : Type 0} (scripts : I → List (Reply R) → Request I R) where
  -- ---- walks

  pub leads_reaches : {x y : I} {kind : PathKind} → MayLeadTo scripts x kind y → MayReach scripts x y
  leads_reaches (last asks) = on asks here
  leads_reaches (first asks rest) = on asks (leads_reaches rest)

  -- one more question at the end
  pub leads_on : {x y z : I} {kind step : PathKind} → MayLeadTo scripts x kind y → MayAsk scripts y step z
      → MayLeadTo scripts x (greater_kind step kind) z
  leads_on {x} {y} {z} {step = step} (last {kind = kind} asks) then =
      subst (λ k. MayLeadTo scripts x k z) (greater_swapped kind step) (first asks (last then))
  leads_on {x} {y} {z} {step = step} (first {kind = kind} {rest = more} asks rest) then =
      subst (λ k. MayLeadTo scripts x k z) (greater_turned kind step more) (first asks (leads_on rest then))

  -- a walk that is part of a closed one over a goal has the kind that is known of that
  pub kind_of_goal : {x y : I} {kind : PathKind} (goal : I) (known : PathKind) → AskedByKind scripts goal known
      → MayLeadTo scripts x kind y → MayReach scripts y goal → MayReach scripts goal x → kind ≡ known
  kind_of_goal goal known by (last {kind = kind} asks) there back = by _ kind _ asks there back
  kind_of_goal goal known by (first {goal = x} {kind = kind} {asked = between} {rest = more} asks rest) there back =
      let here_is : kind ≡ known = by x kind between asks (reaches_on scripts (leads_reaches rest) there) back in
      greater_same kind more known here_is
      (kind_of_goal goal known by rest there (reaches_on scripts back (asked_reached scripts asks)))

  -- ---- where goals that reach each other ask by one kind

  module _ (one : AsksByOneKind scripts) where
    -- a walk that is part of a closed one has the kind of each question on that
    pub kind_of_walk : {x y : I} {kind : PathKind} → MayLeadTo scripts x kind y
        → (other : I) (step : PathKind) (asked : I) → MayAsk scripts other step asked → MayReach scripts asked x
        → MayReach scripts y other → kind ≡ step
    kind_of_walk {x} {y} (last {kind = kind} asks) other step asked question back there =
        one x kind y other step asked asks there question back
    kind_of_walk {x} {y} (first {kind = kind} {asked = between} {rest = more} asks rest)
        other step asked question back there =
        greater_same kind more step
        (one x kind between other step asked asks (reaches_on scripts (leads_reaches rest) there) question back)
        (kind_of_walk rest other step asked question (reaches_on scripts back (asked_reached scripts asks)) there)

    -- and if it is closed over a goal, all closed walks over that have its kind
    pub asked_by_kind_of : {x y : I} {kind : PathKind} (goal : I) → MayLeadTo scripts x kind y → MayReach scripts y goal
        → MayReach scripts goal x → AskedByKind scripts goal kind
    asked_by_kind_of goal walk there back = λ other other_kind asked asks comes goes. sym
        (kind_of_walk walk other other_kind asked asks (reaches_on scripts comes back) (reaches_on scripts there goes))
