-- The words of this crate, from one place.
pub use Rattle.search_stack.specs.Cycle.{step_kinds_above}
pub use Rattle.search_stack.specs.Lent.{change_last}
pub use Rattle.search_stack.specs.Stack.{allowed_depth, depth_below, position_of}
pub use Rattle.search_stack.specs.declared.stack.StackEntry.{StackEntry}
