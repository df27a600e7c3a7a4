-- What the crates below have, from one place.
pub use Rattle.path_kinds.specs.Path.{greater_kind, greatest_kind}
unfoldable pub use Rattle.path_kinds.specs.Paths.{extended}
pub use Rattle.path_kinds.specs.declared.path.PathKind.{PathKind}
