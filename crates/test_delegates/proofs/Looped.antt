-- The run of a goal that asks itself: its edge asks what the run asked.
use Rattle.std.proofs.Common.{◌≡◌, ℕ, zero, suc, ◌∷◌, [], reverse, Some, refl, slice_get, subst, arith}
use Rattle.graph_nodes.specs.Nodes.{WasAsked}
use Rattle.search_context.specs.Graph.{question_of}
use Rattle.search_context.specs.Run.{progress_after}
use Rattle.search_context.specs.declared.context.Edge.{Edge}
use Rattle.test_delegates.specs.Below.{Answer, Begin, Outcome, PathKind}
use Rattle.test_delegates.specs.Frames.{loop_script}
use Rattle.test_delegates.specs.Loops.{loop_run}

pub loop_asks : (goal : PathKind) (target : ℕ) (outcome : Outcome) (i : ℕ) (e : Edge PathKind)
    → slice_get (loop_run goal target outcome).edges i ≡ Some e
    → WasAsked (progress_after (loop_script goal) (reverse (Begin ∷ Answer outcome ∷ []))) (question_of e)
loop_asks goal target outcome zero e is =
    let same : record { kind = goal; input = goal; target = target } ≡ e = cc in
    subst (λ x. WasAsked (progress_after (loop_script goal) (reverse (Begin ∷ Answer outcome ∷ []))) (question_of x))
    same (zero, omega arith, refl)
loop_asks goal target outcome (suc i) e is = absurd cc
