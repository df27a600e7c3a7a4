use Rattle.std.proofs.Common.{◌≡◌, get_or, subst, sym, take}
use Rattle.std.proofs.lemmas.List.{take_more}
use Rattle.rule_arrays.specs.Askers.{AddsAskers}
use Rattle.rule_arrays.specs.Changes.{IsAskedIn}
use Rattle.rule_arrays.proofs.Asking.{question_added}
use Rattle.rule_arrays.proofs.changes.askers.Askers.add_questions.Goals as goal

pub loop-question-preserved : goal.loop-question-preserved
loop-question-preserved c =
    let qs = c.args.questions.now in
    let at = c.loop-question.question-index in
    subst (λ asked_now. AddsAskers (λ asked asker. (asker ≡ c.args.goal) × IsAskedIn asked_now asked)
    c.args.self.now c.add.new.self)
    (sym (take_more qs at (record { kind = 0; goal = 0 }) c.loop-question-test.true))
    (question_added (take at qs) (get_or qs at (record { kind = 0; goal = 0 })) c.args.goal c.args.self.now
    c.loop-question.self c.add.new.self c.loop-question.invariant c.in_ok-add.ensures)
