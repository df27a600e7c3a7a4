-- What the crates below have, from one place.
pub use Rattle.path_kinds.specs.Path.{greater_kind, greatest_kind, is_coinductive, is_inductive}
pub use Rattle.path_kinds.specs.declared.path.PathKind.{PathKind}
pub use Rattle.path_kinds.specs.declared.path.PathKind.TheVariants.{Coinductive, ForcedAmbiguity, Inductive, Unknown}
