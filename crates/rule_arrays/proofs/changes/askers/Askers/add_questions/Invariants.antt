use Rattle.std.proofs.Common.{◌≡◌, take}
use Rattle.rule_arrays.specs.Askers.{AddsAskers}
use Rattle.rule_arrays.specs.Changes.{IsAskedIn}
use Rattle.rule_arrays.proofs.changes.askers.Askers.add_questions.Given as goal

abbrev pub invariant-loop-question : goal.invariant-loop-question
invariant-loop-question l = AddsAskers
    (λ asked asker. (asker ≡ l.goal) × IsAskedIn (take l.question-index l.questions) asked) l.fn.self l.self
