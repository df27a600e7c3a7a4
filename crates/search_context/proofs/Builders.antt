-- What calls keep of a builder.
use Rattle.std.proofs.Common.{ℕ, Bool, refl, ◌∙◌, arith}
use Rattle.search_context.specs.Delegate.{KeepsBuilder}

module _ {P : Type 0} (starts : P → ℕ) (noop : P → Bool) where
  -- nothing changed
  pub builder_stays : (old : P) → KeepsBuilder starts noop old old
  builder_stays old = record { at_least = omega arith; same_noop = refl }

  -- one call after another
  pub builder_goes_on : (old mid new : P) → KeepsBuilder starts noop old mid
      → KeepsBuilder starts noop mid new → KeepsBuilder starts noop old new
  builder_goes_on old mid new first second = record {
    at_least = let one = first.at_least in let two = second.at_least in omega (arith, one, two);
    same_noop = second.same_noop ∙ first.same_noop;
  }
