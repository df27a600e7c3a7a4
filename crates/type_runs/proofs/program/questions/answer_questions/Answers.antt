use Rattle.std.proofs.Common.{◌∙◌, ◌&&◌, ap, arith, refl}
use Rattle.std.proofs.KnownBytes.{Appends-kept}
use Rattle.std.specs.Prelude.{is_ok}
use Rattle.line_texts.proofs.Questions.{all_told, first_told, line_waits, none_begun, none_waits, told_on}
use Rattle.line_texts.proofs.Written.{on_err, whole_begins}
use Rattle.type_runs.specs.Answers.{AreRight, line_of}
use Rattle.type_runs.proofs.Telling.{none_right, one_more_right}
use Rattle.type_runs.proofs.program.questions.answer_questions.Goals as goal

pub returns-in_err-waiting-clause-beginning : goal.returns-in_err-waiting-clause-beginning
returns-in_err-waiting-clause-beginning g c =
    on_err _ (none_begun (line_of c.args.table.now) is_ok (AreRight c.args.table.now) (none_right c.args.table.now) _ _)

pub loop-question-init : goal.loop-question-init
loop-question-init g c = (
  c.new-subtyping.ensures.types ∙ c.requires.same_types,
  none_waits (line_of c.args.table.now) is_ok (AreRight c.args.table.now)
      (none_right c.args.table.now) _ _ c.in_ok-waiting.ensures.items,
)

pub returns-in_err-tell-clause-beginning : goal.returns-in_err-tell-clause-beginning
returns-in_err-tell-clause-beginning g c =
    let so_far = c.loop-question.invariant in
    let right = AreRight c.args.table.now in
    let more = one_more_right c.args.table.now _ _ c.ask-came.ensures.told in
    let fine = ap (λ b. c.loop-question.all_fine && b) c.is_ok-all_fine.ensures.value in
    on_err _ (first_told (line_of c.args.table.now) is_ok right _ _ _ _ _ right
    (λ all h. h) _ _ _ c.questions-questions.ensures
    (line_waits (line_of c.args.table.now) is_ok right right _ more _ _ _ c.loop-question-test.true
    refl _ _ fine _ _ _ _ so_far.1 refl)
    c.in_err-tell.ensures.beginning)

pub loop-question-preserved : goal.loop-question-preserved
loop-question-preserved g c =
    let so_far = c.loop-question.invariant in
    let right = AreRight c.args.table.now in
    let more = one_more_right c.args.table.now _ _ c.ask-came.ensures.told in
    let fine = ap (λ b. c.loop-question.all_fine && b) c.is_ok-all_fine.ensures.value in (
      c.ask-came.ensures.same_types ∙ so_far.0,
      told_on (line_of c.args.table.now) is_ok right _ _ _ _ _ _ _
          (line_waits (line_of c.args.table.now) is_ok right right _ more _ _ _ c.loop-question-test.true
          refl _ _ fine _ _ _ _ so_far.1 refl)
          c.in_ok-tell.ensures.passed,
    )

pub returns-in_err-write_bytes-clause-beginning : goal.returns-in_err-write_bytes-clause-beginning
returns-in_err-write_bytes-clause-beginning g c =
    let begun = rw c.as_slice.ensures.value at c.write_bytes.ensures.beginning in
    let right = AreRight c.args.table.now in
    on_err _ (first_told (line_of c.args.table.now) is_ok right _ _ _ _ _ right (λ all h. h) _ _ _
    c.questions-questions.ensures c.loop-question.invariant.1 begun)

pub returns-in_err-flush_all-clause-beginning : goal.returns-in_err-flush_all-clause-beginning
returns-in_err-flush_all-clause-beginning g c =
    let written = rw c.as_slice.ensures.value at c.in_ok-write_bytes.ensures.all in
    let right = AreRight c.args.table.now in
    on_err _ (first_told (line_of c.args.table.now) is_ok right _ _ _ _ _ right (λ all h. h) _ _ _
    c.questions-questions.ensures c.loop-question.invariant.1
    (whole_begins _ _ _ (Appends-kept _ _ _ _ written c.flush_all.ensures.bytes)))

pub returns-clause-told : goal.returns-clause-told
returns-clause-told g c =
    let written = rw c.as_slice.ensures.value at c.in_ok-write_bytes.ensures.all in
    let right = AreRight c.args.table.now in
    all_told (line_of c.args.table.now) is_ok right _ _ _ _ _ right (λ all h. h) _ _ _ c.questions-questions.ensures
    c.loop-question.invariant.1 (omega arith)
    (Appends-kept _ _ _ _ written c.flush_all.ensures.bytes)
