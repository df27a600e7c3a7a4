-- The words of this crate, from one place.
pub use Rattle.global_cache.specs.Cache.{Cache}
pub use Rattle.global_cache.specs.Changed.{ForgetsSuccesses, is_among, KeepsOtherNodes, KeepsOtherResults}
pub use Rattle.global_cache.specs.Changed.{KeepsOthers}
pub use Rattle.global_cache.specs.Findings.{AreSoundFindings, Findings}
pub use Rattle.global_cache.specs.Hits.{first_accepted, hit_at, overflows, successes, usable}
pub use Rattle.search_stack.specs.Hit.{Hit, hit_of}
pub use Rattle.global_cache.specs.Rooted.{AreRooted}
pub use Rattle.global_cache.specs.Sound.{found_by, IsSoundCache}
pub use Rattle.global_cache.specs.Store.{AnswersStoring, is_of_overflow, KeepsResults, place_of, Puts, same_key}
pub use Rattle.global_cache.specs.Store.{same_place, Store}
pub use Rattle.global_cache.specs.Store.{stored_at, stored_from, TellsOverflow}
pub use Rattle.global_cache.specs.Stored.{AreSoundResults, IsPlainAt, IsSoundResult}
pub use Rattle.search_stack.specs.declared.result.CacheData.{CacheData}
pub use Rattle.global_cache.specs.declared.results.Place.{Place}
pub use Rattle.global_cache.specs.declared.results.Place.TheVariants.{Success, WithOverflow}
pub use Rattle.global_cache.specs.declared.results.StoredResult.{StoredResult}
