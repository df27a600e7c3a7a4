use Rattle.std.proofs.Common.{◌∙◌, ◌&&◌, [], ap, arith, refl}
use Rattle.std.proofs.KnownBytes.{Appends-kept}
use Rattle.std.specs.Option.{unwrap_or}
use Rattle.delegate_parts.specs.contracts.outcome.OutcomePartialEq.TheImpl.{eq-value as eq-result}
use Rattle.rule_tables.specs.contracts.rules.GoalPartialEq.TheImpl.{eq-value}
use Rattle.line_texts.proofs.Questions.{all_told, first_told, line_waits, none_begun, none_waits, told_on}
use Rattle.line_texts.proofs.Written.{copied_or, on_err, whole_begins}
use Rattle.table_runs.specs.Answers.{AreInTurn}
use Rattle.answer_lines.specs.Goals.{line_told}
use Rattle.table_runs.specs.Told.{is_fine, line_of}
use Rattle.table_runs.proofs.Answered.{HaveLed, all_in_turn, led_on, none_in_turn, none_led}
use Rattle.table_runs.proofs.program.questions.answer_questions.Goals as goal

pub returns-in_err-waiting-clause-beginning : goal.returns-in_err-waiting-clause-beginning
returns-in_err-waiting-clause-beginning g c = λ starts.
    on_err _ (none_begun (line_of c.args.rules.now) is_fine
    (AreInTurn g.D.Delegate g.X.Cx eq-value.it eq-result.it c.args.checks c.args.cx)
    (none_in_turn g.D.Delegate g.X.Cx eq-value.it eq-result.it c.args.checks c.args.cx) _ _)

pub loop-question-init : goal.loop-question-init
loop-question-init g c = λ starts.
    none_waits (line_of c.args.rules.now) is_fine
    (HaveLed g.D.Delegate g.X.Cx eq-value.it eq-result.it c.args.checks c.args.cx _ _)
    (none_led g.D.Delegate g.X.Cx eq-value.it eq-result.it c.args.checks c.args.cx _ _
    c.new-cache.ensures c.new-shown.ensures)
    _ _ c.in_ok-waiting.ensures.items

pub returns-in_err-tell-clause-beginning : goal.returns-in_err-tell-clause-beginning
returns-in_err-tell-clause-beginning g c = λ starts.
    let ask = c.ask-came.ensures in
    let line = ap (λ name. line_told name c.ask-came.result)
    (ap (λ b. b.now) c.unwrap_or.ensures ∙ copied_or c.name.result _ ∙ ap (λ o. unwrap_or o []) c.name.ensures) in
    let fine = ap (λ b. c.loop-question.all_fine && b) c.came_fine-all_fine.ensures in
    on_err _ (first_told (line_of c.args.rules.now) is_fine _ _ _ _ _ _
    (AreInTurn g.D.Delegate g.X.Cx eq-value.it eq-result.it c.args.checks c.args.cx)
    (all_in_turn g.D.Delegate g.X.Cx eq-value.it eq-result.it c.args.checks c.args.cx _ _) _ _ _
    c.questions-questions.ensures
    (line_waits (line_of c.args.rules.now) is_fine _
    (HaveLed g.D.Delegate g.X.Cx eq-value.it eq-result.it c.args.checks c.args.cx _ _) _
    (led_on g.D.Delegate g.X.Cx eq-value.it eq-result.it c.args.checks c.args.cx _ _ _ _ _ (ask.answered starts)
    c.is_sound.ensures ask.right ask.shown ask.remembered)
    _ _ _ c.loop-question-test.true refl _ _ fine _ _ _ _ (c.loop-question.invariant starts) line)
    c.in_err-tell.ensures.beginning)

pub loop-question-preserved : goal.loop-question-preserved
loop-question-preserved g c = λ starts.
    let ask = c.ask-came.ensures in
    let line = ap (λ name. line_told name c.ask-came.result)
    (ap (λ b. b.now) c.unwrap_or.ensures ∙ copied_or c.name.result _ ∙ ap (λ o. unwrap_or o []) c.name.ensures) in
    let fine = ap (λ b. c.loop-question.all_fine && b) c.came_fine-all_fine.ensures in
    told_on (line_of c.args.rules.now) is_fine _ _ _ _ _ _ _ _
    (line_waits (line_of c.args.rules.now) is_fine _
    (HaveLed g.D.Delegate g.X.Cx eq-value.it eq-result.it c.args.checks c.args.cx _ _) _
    (led_on g.D.Delegate g.X.Cx eq-value.it eq-result.it c.args.checks c.args.cx _ _ _ _ _ (ask.answered starts)
    c.is_sound.ensures ask.right ask.shown ask.remembered)
    _ _ _ c.loop-question-test.true refl _ _ fine _ _ _ _ (c.loop-question.invariant starts) line)
    c.in_ok-tell.ensures.passed

pub returns-in_err-write_bytes-clause-beginning : goal.returns-in_err-write_bytes-clause-beginning
returns-in_err-write_bytes-clause-beginning g c = λ starts.
    let begun = rw c.as_slice.ensures.value at c.write_bytes.ensures.beginning in
    on_err _ (first_told (line_of c.args.rules.now) is_fine _ _ _ _ _ _
    (AreInTurn g.D.Delegate g.X.Cx eq-value.it eq-result.it c.args.checks c.args.cx)
    (all_in_turn g.D.Delegate g.X.Cx eq-value.it eq-result.it c.args.checks c.args.cx _ _) _ _ _
    c.questions-questions.ensures
    (c.loop-question.invariant starts) begun)

pub returns-in_err-flush_all-clause-beginning : goal.returns-in_err-flush_all-clause-beginning
returns-in_err-flush_all-clause-beginning g c = λ starts.
    let written = rw c.as_slice.ensures.value at c.in_ok-write_bytes.ensures.all in
    on_err _ (first_told (line_of c.args.rules.now) is_fine _ _ _ _ _ _
    (AreInTurn g.D.Delegate g.X.Cx eq-value.it eq-result.it c.args.checks c.args.cx)
    (all_in_turn g.D.Delegate g.X.Cx eq-value.it eq-result.it c.args.checks c.args.cx _ _) _ _ _
    c.questions-questions.ensures
    (c.loop-question.invariant starts)
    (whole_begins _ _ _ (Appends-kept _ _ _ _ written c.flush_all.ensures.bytes)))

pub returns-clause-told : goal.returns-clause-told
returns-clause-told g c = λ starts.
    let written = rw c.as_slice.ensures.value at c.in_ok-write_bytes.ensures.all in
    all_told (line_of c.args.rules.now) is_fine _ _ _ _ _ _
    (AreInTurn g.D.Delegate g.X.Cx eq-value.it eq-result.it c.args.checks c.args.cx)
    (all_in_turn g.D.Delegate g.X.Cx eq-value.it eq-result.it c.args.checks c.args.cx _ _) _ _ _
    c.questions-questions.ensures
    (c.loop-question.invariant starts) (omega arith)
    (Appends-kept _ _ _ _ written c.flush_all.ensures.bytes)
