-- The words of this crate, from one place.
pub use Rattle.path_kinds.specs.Path.{greater_kind, rank_of}
pub use Rattle.path_kinds.specs.Paths.{extended_by_each, has_empty, has_kind, kinds_after, kinds_in, no_paths, paths_of}
pub use Rattle.path_kinds.specs.Paths.{union, union_of, unnamed_in}
unfoldable pub use Rattle.path_kinds.specs.Paths.{extended}
pub use Rattle.path_kinds.specs.declared.path.PathKind.{PathKind}
pub use Rattle.path_kinds.specs.declared.path.PathKind.TheVariants.{Coinductive, ForcedAmbiguity, Inductive, Unknown}
pub use Rattle.path_kinds.specs.declared.path.PathsToNested.{PathsToNested}
