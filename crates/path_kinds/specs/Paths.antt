-- Sets of paths from a goal to a nested goal: a flag for each kind of path, and one for the path of no step.
use Rattle.std.specs.Prelude.{◌/◌, ◌*◌, ◌==◌, Bool, if◌then◌else◌, List, [], ◌∷◌, ◌++◌, map, filter, fold}
use Rattle.std.specs.Int.RustNames.{bit_and, bit_or}
use Rattle.path_kinds.specs.declared.path.PathKind.{PathKind}
use Rattle.path_kinds.specs.declared.path.PathKind.TheVariants.{Inductive, Unknown, Coinductive, ForcedAmbiguity}
use Rattle.path_kinds.specs.declared.path.PathsToNested.{PathsToNested}
use Rattle.path_kinds.specs.Path.{greater_kind}

abbrev pub no_paths : PathsToNested
no_paths = record { 0 = 0 }

-- the set that has the path of no step alone
abbrev pub path_of_no_step : PathsToNested
path_of_no_step = record { 0 = 1 }

-- the paths of one kind
abbrev pub paths_of : PathKind → PathsToNested
paths_of Inductive = record { 0 = 2 }
paths_of Unknown = record { 0 = 4 }
paths_of Coinductive = record { 0 = 8 }
paths_of ForcedAmbiguity = record { 0 = 16 }

-- whether the path of no step is in the set
abbrev pub has_empty : PathsToNested → Bool
has_empty paths = bit_and paths.0 1 == 1

-- whether paths of the kind are in the set
abbrev pub has_kind : PathsToNested → PathKind → Bool
has_kind paths kind = bit_and paths.0 (paths_of kind).0 == (paths_of kind).0

-- the kinds of the paths in the set, rising; the path of no step has none
abbrev pub kinds_in : PathsToNested → List PathKind
kinds_in paths = filter (has_kind paths) (Inductive ∷ Unknown ∷ Coinductive ∷ ForcedAmbiguity ∷ [])

-- the bits that no flag has
abbrev pub unnamed_in : PathsToNested → PathsToNested
unnamed_in paths = record { 0 = paths.0 / 32 * 32 }

abbrev pub union : PathsToNested → PathsToNested → PathsToNested
union some more = record { 0 = bit_or some.0 more.0 }

-- the union of all
abbrev pub union_of : List PathsToNested → PathsToNested
union_of sets = fold union no_paths sets

-- the kinds that the paths have after one more step; the path of no step takes the kind of the step
abbrev pub kinds_after : PathsToNested → PathKind → List PathKind
kinds_after paths step = map (greater_kind step) ((if has_empty paths then Inductive ∷ [] else []) ++ kinds_in paths)

-- the set of the paths after one more step, with the bits that no flag has
unfoldable pub extended : PathsToNested → PathKind → PathsToNested
extended paths step = union (union_of (map paths_of (kinds_after paths step))) (unnamed_in paths)

-- the union of the sets after one more path of each kind in `more`
abbrev pub extended_by_each : PathsToNested → PathsToNested → PathsToNested
extended_by_each paths more = union_of (map (extended paths) (kinds_in more))
