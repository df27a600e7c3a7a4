-- What a builder has recorded.
use Rattle.std.specs.Prelude.{ℕ, Bool}
use Rattle.delegate_parts.specs.declared.builder.Builder.{Builder}

-- the frames that it has seen start
abbrev pub started_in : Builder → ℕ
started_in builder = builder.started

-- a search may use its cache in full
abbrev pub is_noop_of : Builder → Bool
is_noop_of builder = builder.is_noop
