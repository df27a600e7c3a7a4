use Rattle.std.proofs.Common.{◌≡◌, take}
use Rattle.std.specs.List.{flat_map}
use Rattle.trait_goals.specs.declared.asked.Candidate.{Candidate}
use Rattle.trait_goals.proofs.deciding.questions_of.Given as goal

abbrev pub invariant-loop-candidate : goal.invariant-loop-candidate
invariant-loop-candidate l = l.questions.items
    ≡ flat_map (λ (c : Candidate). c.questions.items) (take l.candidate-index l.candidate-items)
