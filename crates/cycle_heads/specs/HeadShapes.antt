-- The heads of an answer as the theory of open graphs sees them: by depth, with the kinds of paths and
-- cycles as their ranks.
use Rattle.std.specs.Prelude.{ℕ, zero, suc, Bool, false, Option, None, Some}
use Rattle.open_graphs.specs.Use as theory
use Rattle.path_kinds.specs.declared.path.PathKind.TheVariants.{Inductive, Unknown, Coinductive, ForcedAmbiguity}
use Rattle.path_kinds.specs.declared.path.PathsToNested.{PathsToNested}
use Rattle.cycle_heads.specs.declared.heads.CycleHead.{CycleHead}
use Rattle.cycle_heads.specs.declared.usages.HeadUsages.{HeadUsages}
use Rattle.cycle_heads.specs.Heads.{Heads, at_depth}
use Rattle.path_kinds.specs.Paths.{has_kind}
use Rattle.cycle_heads.specs.Usages.{count_of}

-- whether paths of the kind with this rank are in the set
abbrev pub has_rank : PathsToNested → ℕ → Bool
has_rank paths zero = has_kind paths Inductive
has_rank paths (suc zero) = has_kind paths Unknown
has_rank paths (suc (suc zero)) = has_kind paths Coinductive
has_rank paths (suc (suc (suc zero))) = has_kind paths ForcedAmbiguity
has_rank paths (suc (suc (suc (suc n)))) = false

-- the count of usages by cycles of the kind with this rank
abbrev pub count_at : HeadUsages → ℕ → ℕ
count_at usages zero = count_of usages Inductive
count_at usages (suc zero) = count_of usages Unknown
count_at usages (suc (suc zero)) = count_of usages Coinductive
count_at usages (suc (suc (suc zero))) = count_of usages ForcedAmbiguity
count_at usages (suc (suc (suc (suc n)))) = 0

-- what is recorded of a head, if it is one
abbrev pub head_shape : Option CycleHead → theory.Head
head_shape None = record { paths = λ path. false; usages = λ cycle. 0 }
head_shape (Some head) = record { paths = has_rank head.paths_to_head; usages = count_at head.usages }

-- the heads by depth
abbrev pub heads_shape : Heads → theory.Heads
heads_shape heads depth = head_shape (at_depth heads (record { 0 = depth }))
