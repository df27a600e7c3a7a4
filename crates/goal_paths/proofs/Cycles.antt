-- The greatest kind of the steps of a cycle, where one step is added.
use Rattle.std.proofs.Common.{◌≡◌, List, [], ◌∷◌, ◌++◌, sym, ap, ◌∙◌, arith}
use Rattle.goal_paths.specs.Below.{PathKind, greater_kind, greatest_kind}
use Rattle.path_kinds.proofs.PathRanks.{same_kind, greater_rank}

-- the greater of three kinds in either grouping
greater-assoc : (j k l : PathKind) → greater_kind (greater_kind j k) l ≡ greater_kind j (greater_kind k l)
greater-assoc j k l = same_kind _ _ (omega
    (arith, greater_rank (greater_kind j k) l, greater_rank j k, greater_rank j (greater_kind k l), greater_rank k l))

-- the least kind changes nothing
greater-least : (k : PathKind) → greater_kind k (greatest_kind []) ≡ k
greater-least k = same_kind _ _ (omega (arith, greater_rank k (greatest_kind [])))

pub least-greater : (k : PathKind) → greater_kind (greatest_kind []) k ≡ k
least-greater k = same_kind _ _ (omega (arith, greater_rank (greatest_kind []) k))

-- one more kind at the end
pub greatest-push : (kinds : List PathKind) (k : PathKind)
    → greatest_kind (kinds ++ k ∷ []) ≡ greater_kind (greatest_kind kinds) k
greatest-push [] k = greater-least k ∙ sym (least-greater k)
greatest-push (l ∷ kinds) k =
    ap (greater_kind l) (greatest-push kinds k) ∙ sym (greater-assoc l (greatest_kind kinds) k)
