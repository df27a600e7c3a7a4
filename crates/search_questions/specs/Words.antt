-- The words of this crate, from one place.
pub use Rattle.search_questions.specs.Asked.{AskingFails, AskingLeadsTo, Asks, asking, ByEntry, ByStored, entry_for}
pub use Rattle.search_questions.specs.Asked.{OverCycle, Pushed}
pub use Rattle.search_questions.specs.Asked.{IsAnsweredAtLimit, IsAnsweredByEntry, IsAnsweredByHit}
pub use Rattle.search_questions.specs.Asked.{NotAnsweredAt, NotRefused, question_depth, Refused, SeesStart}
pub use Rattle.search_questions.specs.Collecting.{HasRoots, LetsGo, LetsGoAtEnd}
