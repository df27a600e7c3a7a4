use Rattle.std.proofs.Common.{◌&&◌, [], ap, arith, refl}
use Rattle.std.proofs.KnownBytes.{Appends-kept, Appends-nil}
use Rattle.delegate_parts.specs.contracts.outcome.OutcomePartialEq.TheImpl.{eq-value as eq-result}
use Rattle.rule_tables.specs.contracts.rules.GoalPartialEq.TheImpl.{eq-value}
use Rattle.line_texts.proofs.Questions.{all_told, first_told, line_waits, none_waits, told_on}
use Rattle.line_texts.proofs.Written.{on_err, whole_begins}
use Rattle.trees.specs.Shown.{AreWorkedOut, is_fine, words_shown}
use Rattle.trees.proofs.Trees.{all_passed, none_worked_out, one_worked_out}
use Rattle.trees.proofs.program.shown.show_questions.Goals as goal

pub loop-question-init : goal.loop-question-init
loop-question-init g c =
    let Hold = AreWorkedOut g.D.Delegate g.X.Cx eq-value.it eq-result.it c.args.cx in
    none_waits (words_shown c.args.rules.now) is_fine Hold
    (none_worked_out g.D.Delegate g.X.Cx eq-value.it eq-result.it c.args.cx) _ [] refl

pub returns-in_err-is_fine-clause-beginning : goal.returns-in_err-is_fine-clause-beginning
returns-in_err-is_fine-clause-beginning g c =
    let Hold = AreWorkedOut g.D.Delegate g.X.Cx eq-value.it eq-result.it c.args.cx in
    on_err _ (first_told (words_shown c.args.rules.now) is_fine _ _ _ _ _ _ Hold (λ all h. h) _ _ _
    c.questions-questions.ensures c.loop-question.invariant
    (whole_begins _ _ _ (Appends-nil _)))

pub loop-question-preserved : goal.loop-question-preserved
loop-question-preserved g c =
    let Hold = AreWorkedOut g.D.Delegate g.X.Cx eq-value.it eq-result.it c.args.cx in
    let shown = c.in_ok-is_fine.ensures.shown in
    let written = rw c.as_slice.ensures.value at c.in_ok-write_bytes.ensures.all in
    told_on (words_shown c.args.rules.now) is_fine _ _ _ _ _ _ _ _
    (line_waits (words_shown c.args.rules.now) is_fine _ Hold _
    (one_worked_out g.D.Delegate g.X.Cx eq-value.it eq-result.it c.args.cx _ shown.worked_out) _ _ _
    c.loop-question-test.true refl _ _ (ap (λ b. c.loop-question.all_fine && b) shown.met_none) _ _ _ _
    c.loop-question.invariant shown.is_text)
    (all_passed _ _ _ written)

pub returns-in_err-write_bytes-clause-beginning : goal.returns-in_err-write_bytes-clause-beginning
returns-in_err-write_bytes-clause-beginning g c =
    let Hold = AreWorkedOut g.D.Delegate g.X.Cx eq-value.it eq-result.it c.args.cx in
    let shown = c.in_ok-is_fine.ensures.shown in
    let begun = rw c.as_slice.ensures.value at c.write_bytes.ensures.beginning in
    on_err _ (first_told (words_shown c.args.rules.now) is_fine _ _ _ _ _ _ Hold
    (λ all h. h) _ _ _ c.questions-questions.ensures
    (line_waits (words_shown c.args.rules.now) is_fine _ Hold _
    (one_worked_out g.D.Delegate g.X.Cx eq-value.it eq-result.it c.args.cx _ shown.worked_out) _ _ _
    c.loop-question-test.true refl _ _ (ap (λ b. c.loop-question.all_fine && b) shown.met_none) _ _ _ _
    c.loop-question.invariant shown.is_text)
    begun)

pub returns-in_err-flush_all-clause-beginning : goal.returns-in_err-flush_all-clause-beginning
returns-in_err-flush_all-clause-beginning g c =
    let Hold = AreWorkedOut g.D.Delegate g.X.Cx eq-value.it eq-result.it c.args.cx in
    on_err _ (first_told (words_shown c.args.rules.now) is_fine _ _ _ _ _ _ Hold (λ all h. h) _ _ _
    c.questions-questions.ensures c.loop-question.invariant
    (whole_begins _ _ _ (Appends-kept _ _ _ _ (Appends-nil _) c.flush_all.ensures.bytes)))

pub returns-clause-told : goal.returns-clause-told
returns-clause-told g c =
    let Hold = AreWorkedOut g.D.Delegate g.X.Cx eq-value.it eq-result.it c.args.cx in
    all_told (words_shown c.args.rules.now) is_fine _ _ _ _ _ _ Hold (λ all h. h) _ _ _ c.questions-questions.ensures
    c.loop-question.invariant (omega arith)
    (Appends-kept _ _ _ _ (Appends-nil _) c.flush_all.ensures.bytes)
