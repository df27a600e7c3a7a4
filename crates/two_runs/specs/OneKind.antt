-- Scripts whose goals ask by one kind where they reach each other.
use Rattle.std.specs.Prelude.{◌≡◌, List}
use Rattle.search_graph.specs.Reaching.{MayAsk, MayReach}
use Rattle.two_runs.specs.Below.{greater_kind, PathKind, Reply, Request}

module _ {I R : Type 0} (scripts : I → List (Reply R) → Request I R) where
  -- a walk of one question or more, and the greatest kind of its questions
  pub data MayLeadTo : I → PathKind → I → Type 0 where
    last : {goal : I} {kind : PathKind} {asked : I} → MayAsk scripts goal kind asked → MayLeadTo goal kind asked
    first : {goal : I} {kind : PathKind} {asked : I} {rest : PathKind} {other : I} → MayAsk scripts goal kind asked
        → MayLeadTo asked rest other → MayLeadTo goal (greater_kind kind rest) other

  -- any two questions on one closed walk of questions are of one kind
  abbrev pub AsksByOneKind : Type 0
  AsksByOneKind =
      (goal : I) (kind : PathKind) (asked other : I) (other_kind : PathKind) (other_asked : I)
      → MayAsk scripts goal kind asked → MayReach scripts asked other → MayAsk scripts other other_kind other_asked
      → MayReach scripts other_asked goal → kind ≡ other_kind
