-- What the exit status says of a conversation.
use Rattle.std.proofs.Common.{◌≡◌, ◌≢◌, ◌⊎◌, ℕ, Bool, true, false, Result, Ok, Err, arith, inl, inr}
use Rattle.std.specs.Prelude.{IfErr}
use Rattle.program_ends.specs.Stop.{status_after}
use Rattle.program_ends.specs.declared.stop.Stop.{Stop}
use Rattle.program_ends.specs.declared.stop.Stop.TheVariants.{InputOrOutput, Memory, Text}
use Rattle.rule_tables.specs.declared.stop.BadLine.{BadLine}

-- no line is one for which it ends
pub never_two : (came : Result Bool (Stop BadLine)) (status : ℕ) → status ≡ status_after came
    → IfErr came (λ stop. (stop ≡ InputOrOutput) ⊎ (stop ≡ Memory)) → status ≢ 2
never_two (Ok true) status is fault = omega arith
never_two (Ok false) status is fault = omega arith
never_two (Err (Text bad)) status is (inl same) = absurd cc
never_two (Err (Text bad)) status is (inr same) = absurd cc
never_two (Err InputOrOutput) status is fault = omega arith
never_two (Err Memory) status is fault = omega arith
