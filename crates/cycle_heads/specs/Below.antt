-- What the crates below have, from one place.
pub use Rattle.path_kinds.specs.Path.{greater_kind, rank_of}
pub use Rattle.path_kinds.specs.Paths.{has_kind}
unfoldable pub use Rattle.path_kinds.specs.Paths.{extended}
pub use Rattle.path_kinds.specs.declared.path.PathKind.{PathKind}
pub use Rattle.path_kinds.specs.declared.path.PathKind.TheVariants.{Coinductive, ForcedAmbiguity, Inductive, Unknown}
pub use Rattle.path_kinds.specs.declared.path.PathsToNested.{PathsToNested}
