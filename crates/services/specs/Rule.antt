-- The rule of a service, as a list of questions.
use Rattle.std.specs.Prelude.{ℕ, Bool, if◌then◌else◌, List, [], map, length, sum_by, slice_get}
use Rattle.std.specs.Option.{option_map_or}
use Rattle.services.specs.Below.{All, Any, Coinductive, Inductive, Needs, PathKind, Question}
use Rattle.services.specs.Running.{Need, Service}

-- what a service needs
abbrev pub needs_at : List Service → ℕ → List Need
needs_at services number = option_map_or (λ s. s.needs.items) (slice_get services number) []

-- a service needs all of it, and what is no service any of nothing, so it can't run
abbrev pub needs_of : List Service → ℕ → Needs
needs_of services number = option_map_or (λ _. All) (slice_get services number) Any

-- what has to be up before is asked inductively, and what has to run beside it coinductively
abbrev pub kind_by : (comes_first : Bool) → PathKind
kind_by comes_first = if comes_first then Inductive else Coinductive

abbrev pub asks : Need → Question ℕ
asks need = record { kind = kind_by need.comes_first; goal = need.service }

abbrev pub questions_of : List Service → ℕ → List (Question ℕ)
questions_of services number = map asks (needs_at services number)

-- no service needs more than all have needs together
abbrev pub most_needs : List Service → ℕ
most_needs services = sum_by (λ s. length s.needs.items) services
