-- What a program told is handed out.
use Rattle.std.proofs.Common.{rules, ◌≡◌, ◌==◌, ◌≤◌, ℕ, Bool, List}
use Rattle.mirfodwel.specs.Handed.{IsHandedOut, IsToldAs}
use Rattle.mirfodwel.specs.Texts.{IsWorkedThrough}

module _ {Told : List ℕ → Bool → Type 0} {IsBad : Type 0} {status : ℕ} {lines : List ℕ} where
  pub worked_through : status ≤ 4 → (status ≤ 1 → Told lines (status == 0)) → (status ≡ 2 → IsBad)
      → {old new : List ℕ} {used result : ℕ}
      → IsHandedOut (IsToldAs status lines) old new used result
      → IsHandedOut (IsWorkedThrough Told IsBad) old new used result
  worked_through small told bad h = search rules
