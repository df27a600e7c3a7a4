-- Kinds of paths: the kind of a path is that of its greatest step.
use Rattle.std.specs.Prelude.{ℕ, nat_lt, nat_eq, Bool, if◌then◌else◌, List, [], ◌∷◌}
use Rattle.path_kinds.specs.declared.path.PathKind.{PathKind}
use Rattle.path_kinds.specs.declared.path.PathKind.TheVariants.{Inductive, Unknown, Coinductive, ForcedAmbiguity}

-- the place of a kind in their order
abbrev pub rank_of : PathKind → ℕ
rank_of Inductive = 0
rank_of Unknown = 1
rank_of Coinductive = 2
rank_of ForcedAmbiguity = 3

-- the greater of two kinds
abbrev pub greater_kind : PathKind → PathKind → PathKind
greater_kind k l = if nat_lt (rank_of k) (rank_of l) then l else k

-- the greatest of some kinds, and the least kind for none
abbrev pub greatest_kind : List PathKind → PathKind
greatest_kind [] = Inductive
greatest_kind (k ∷ ks) = greater_kind k (greatest_kind ks)

-- the kind is inductive
abbrev pub is_inductive : PathKind → Bool
is_inductive k = nat_eq (rank_of k) 0

-- the kind is coinductive
abbrev pub is_coinductive : PathKind → Bool
is_coinductive k = nat_eq (rank_of k) 2
