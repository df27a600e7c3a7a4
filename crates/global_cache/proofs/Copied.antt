-- An answer that is a copy where all that is reached is finished, and nothing where it isn't.
use Rattle.std.proofs.Common.{Option, None, Some, refl}
use Rattle.std.specs.Prelude.{Result, Ok, Err, IfOk, IfSome, MatchOption}
use Rattle.std.specs.Option.{IsSome, IsSomeAnd}

module _ {G E : Type 0} (Whole : Type 0) (IsCopy : G → Type 0) where
  pub is_copy : (r : Result (Option G) E)
      → IfOk r (λ o. MatchOption o (Whole → ⊥) IsCopy) → IfOk r (λ o. IfSome o IsCopy)
  is_copy (Ok None) h = tt
  is_copy (Ok (Some g)) h = h
  is_copy (Err e) h = tt

  pub whole_is_there : (r : Result (Option G) E)
      → IfOk r (λ o. MatchOption o (Whole → ⊥) IsCopy) → Whole → IfOk r (λ o. IsSome o)
  whole_is_there (Ok None) h w = absurd (h w)
  whole_is_there (Ok (Some g)) h w = refl
  whole_is_there (Err e) h w = tt

  pub there_is_whole : ((g : G) → IsCopy g → Whole) → (r : Result (Option G) E)
      → IfOk r (λ o. MatchOption o (Whole → ⊥) IsCopy) → IfOk r (λ o. IsSome o → Whole)
  there_is_whole of (Ok None) h = λ s. absurd cc
  there_is_whole of (Ok (Some g)) h = λ s. of g h
  there_is_whole of (Err e) h = tt

  -- what holds of each copy holds of that of a whole graph
  pub whole_is_good : (Good : G → Type 0) → ((g : G) → IsCopy g → Good g) → (r : Result (Option G) E)
      → IfOk r (λ o. MatchOption o (Whole → ⊥) IsCopy) → Whole → IfOk r (λ o. IsSomeAnd o Good)
  whole_is_good Good of (Ok None) h w = absurd (h w)
  whole_is_good Good of (Ok (Some g)) h w = of g h
  whole_is_good Good of (Err e) h w = tt
