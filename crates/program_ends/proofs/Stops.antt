-- What a program's exit status says of what it came to.
use Rattle.std.proofs.Common.{◌≡◌, ◌≤◌, ◌<◌, ◌==◌, ℕ, Bool, true, false, Result, Ok, Err, arith, refl}
use Rattle.std.specs.Prelude.{IfOk, OnErr, OnOk}
use Rattle.program_ends.specs.Stop.{status_after, status_of}
use Rattle.program_ends.specs.declared.stop.Stop.{Stop}
use Rattle.program_ends.specs.declared.stop.Stop.TheVariants.{InputOrOutput, Memory, Text}

module _ {F : Type 0} where
  -- an early end has a status of its own
  early : (stop : Stop F) → (2 ≤ status_of stop) × (status_of stop ≤ 4)
  early (Text fault) = (omega arith, omega arith)
  early InputOrOutput = (omega arith, omega arith)
  early Memory = (omega arith, omega arith)

  pub status_in_range : (came : Result Bool (Stop F)) (status : ℕ) → status ≡ status_after came → status ≤ 4
  status_in_range (Ok true) status is = omega arith
  status_in_range (Ok false) status is = omega arith
  status_in_range (Err stop) status is = let e = (early stop).1 in omega (arith, is, e)

  -- 0 and 1 tell that it came to its end
  pub told_by_status : (P : Bool → Type 0) (came : Result Bool (Stop F)) (status : ℕ) → status ≡ status_after came
      → IfOk came P → status ≤ 1 → P (status == 0)
  told_by_status P (Ok true) status is told low = rw is told
  told_by_status P (Ok false) status is told low = rw is told
  told_by_status P (Err stop) status is told low = let e = (early stop).0 in absurd (omega (arith, is, low, e))

  module _ (P : Type 0) where
    pub done_by_status : (came : Result Bool (Stop F)) (status : ℕ) → status ≡ status_after came → OnOk came P
        → status ≤ 1 → P
    done_by_status (Ok all_fine) status is done low = done
    done_by_status (Err stop) status is done low = let e = (early stop).0 in absurd (omega (arith, is, low, e))

    -- past 1 it came to none
    pub broken_by_status : (came : Result Bool (Stop F)) (status : ℕ) → status ≡ status_after came → OnErr came P
        → 1 < status → P
    broken_by_status (Ok true) status is broken high = absurd (omega arith)
    broken_by_status (Ok false) status is broken high = absurd (omega arith)
    broken_by_status (Err stop) status is broken high = broken

    -- 2 tells that the text has a fault
    pub fault_by_status : (came : Result Bool (Stop F)) (status : ℕ) → status ≡ status_after came
        → ((fault : F) → came ≡ Err (Text fault) → P) → status ≡ 2 → P
    fault_by_status (Ok true) status is by_fault two = absurd (omega arith)
    fault_by_status (Ok false) status is by_fault two = absurd (omega arith)
    fault_by_status (Err (Text fault)) status is by_fault two = by_fault fault refl
    fault_by_status (Err InputOrOutput) status is by_fault two = absurd (omega arith)
    fault_by_status (Err Memory) status is by_fault two = absurd (omega arith)
