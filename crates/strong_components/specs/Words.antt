-- The words of this crate, from one place.
pub use Rattle.strong_components.specs.Components.{AreComponents, go, HasStep, Reaches, stay}
pub use Rattle.strong_components.specs.Components.{StaysInside, StepsWithinClose}
pub use Rattle.strong_components.specs.Components.{successor_lists}
pub use Rattle.strong_components.specs.Search.{AreLeft, AreOpened, closed_from, ClosesFrom, HasLast}
pub use Rattle.strong_components.specs.Search.{is_new, IsFromStart}
pub use Rattle.strong_components.specs.Search.{IsOngoing, IsPath, IsIncreasing, IsSearch, Leaves, LooksAt}
pub use Rattle.strong_components.specs.Search.{MayStep, number_of}
pub use Rattle.strong_components.specs.Search.{Opens, PopsAbove, state_at, StaySeen, work_of}
pub use Rattle.strong_components.specs.declared.search.Search.{Search}
pub use Rattle.strong_components.specs.declared.search.State.{State}
pub use Rattle.strong_components.specs.declared.search.State.TheVariants.{Closed, New, Open}
