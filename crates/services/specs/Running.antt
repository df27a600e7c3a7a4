-- When a service can run. A service is told by its number, its place in the list.
use Rattle.std.specs.Prelude.{◌≡◌, ℕ, true, false, List, slice_get, Contains, Some}
pub use Rattle.services.specs.declared.service.Need.{Need}
pub use Rattle.services.specs.declared.service.Service.{Service}

-- The service starts while these run: what has to be up before starts so, too, and it needs nothing beside it but what
-- is among these. A tree that ends.
pub data Starts (services : List Service) (running : List ℕ) : ℕ → Type 0 where
  start : {number : ℕ} (service : Service) → slice_get services number ≡ Some service →
      ((need : Need) → Contains service.needs.items need → need.comes_first ≡ true →
      Starts services running need.service) →
      ((need : Need) → Contains service.needs.items need → need.comes_first ≡ false → Contains running need.service) →
      Starts services running number

-- The service can run: it starts while some services run, each of which starts while these run.
pub record CanRun (services : List Service) (number : ℕ) : Type 0 where
  pub running : List ℕ
  pub all_start : (other : ℕ) → Contains running other → Starts services running other
  pub starts : Starts services running number
