-- Why a question was answered neither yes nor no.
use Rattle.std.specs.Prelude.{◌≡◌, ℕ, nat_eq, Bool, false, not, true}
use Rattle.delegate_parts.specs.Builder.{started_in}
use Rattle.delegate_parts.specs.declared.builder.Builder.{Builder}
use Rattle.delegate_parts.specs.declared.outcome.Outcome.{Outcome}
use Rattle.delegate_parts.specs.declared.outcome.Outcome.TheVariants.{Maybe, Overflow}
use Rattle.watched_runs.specs.declared.watch.Cause.{Cause}
use Rattle.watched_runs.specs.declared.watch.Cause.TheVariants as cause
use Rattle.watched_runs.specs.declared.watch.Reason.{Reason}
use Rattle.watched_runs.specs.declared.watch.Reason.TheVariants.{Cut, Known, Runs, Unnoted}

-- the builder counted a frame since it had counted so many
abbrev pub was_run : ℕ → Builder → Bool
was_run before builder = not (nat_eq (started_in builder) before)

-- the cause is a limit that the same call met
abbrev pub is_limit : Cause → Bool
is_limit (cause.Depth or_runs) = not or_runs
is_limit cause.Runs = true
is_limit (cause.Cycle kind) = false
is_limit cause.Known = false

-- This may be told of a call that came to the outcome, where `is_run` says that it started a frame, and
-- `is_limited` that it met a limit.
abbrev pub IsReason : {I : Type 0} → Bool → Bool → Outcome → Reason I → Type 0
IsReason is_run is_limited outcome Known = is_run ≡ false
IsReason is_run is_limited outcome Runs = (is_run ≡ true) × (is_limited ≡ true) × (outcome ≡ Overflow)
IsReason is_run is_limited outcome (Cut cut) =
    (is_run ≡ true) × (is_limit cut.cause ≡ true → is_limited ≡ true) × (outcome ≡ Maybe)
IsReason is_run is_limited outcome Unnoted = (is_run ≡ true) × (is_limited ≡ true → outcome ≡ Overflow → ⊥)
