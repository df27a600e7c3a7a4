-- The words of this crate, from one place.
pub use Rattle.test_delegates.specs.Frames.{loop_script}
pub use Rattle.test_delegates.specs.Loops.{loop_run}
