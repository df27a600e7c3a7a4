-- The words of this crate, from one place.
pub use Rattle.search_graph.specs.Graph.{Graph}
pub use Rattle.search_graph.specs.Lists.{frames_for, HadCause, HasAnswer}
