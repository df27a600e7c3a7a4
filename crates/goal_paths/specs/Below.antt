-- What the crates below have, from one place.
pub use Rattle.path_kinds.specs.Path.{greater_kind, greatest_kind}
pub use Rattle.path_kinds.specs.Paths.{path_of_no_step, union}
unfoldable pub use Rattle.path_kinds.specs.Paths.{extended}
pub use Rattle.path_kinds.specs.declared.path.PathKind.{PathKind}
pub use Rattle.path_kinds.specs.declared.path.PathKind.TheVariants.{Inductive, Unknown, Coinductive, ForcedAmbiguity}
pub use Rattle.path_kinds.specs.declared.path.PathsToNested.{PathsToNested}
