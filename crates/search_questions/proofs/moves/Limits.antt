-- One limit more, or none.
use Rattle.std.proofs.Common.{◌≡◌, ◌||◌, Bool, true, false, refl}

pub met_or : (met : Bool) → (met || false) ≡ met
met_or true = refl
met_or false = refl

pub met_so : (met : Bool) → (met || true) ≡ true
met_so true = refl
met_so false = refl
