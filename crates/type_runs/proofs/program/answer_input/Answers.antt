use Rattle.std.proofs.Common.{Err, ap, subst}
use Rattle.type_runs.specs.Program.{IsRefused}
use Rattle.line_texts.proofs.Questions.{begun_of_text, told_of_text}
use Rattle.type_runs.proofs.Refused.{known_refused, refused_text}
use Rattle.type_runs.proofs.program.answer_input.Goals as goal
use Rattle.type_texts.specs.Text.{Reads}

pub returns-clause-refused : goal.returns-clause-refused
returns-clause-refused g c = λ status.
    let told = c.in-Err.ensures in
    let refused = refused_text c.as_slice.result.now c.in-Err.fault (λ n e. told.bad_line n (ap Err e))
    (λ n e. told.twice n (ap Err e)) (λ n e. told.undeclared n (ap Err e))
    (λ n e. told.unguarded n (ap Err e)) (rw c.stop_of.ensures at status) in
    known_refused _ _ c.in_ok-text.ensures (subst IsRefused c.as_slice.ensures.value refused)

pub returns-in-Ok-clause-told : goal.returns-in-Ok-clause-told
returns-in-Ok-clause-told g c =
    let reads = subst (λ text. Reads text c.in-Ok.table) c.as_slice.ensures.value c.in-Ok.ensures.read in
    told_of_text Reads _ _ c.in-Ok.table c.in_ok-text.ensures reads _ _ c.answer_questions.ensures.told

pub returns-in-Ok-clause-beginning : goal.returns-in-Ok-clause-beginning
returns-in-Ok-clause-beginning g c =
    let reads = subst (λ text. Reads text c.in-Ok.table) c.as_slice.ensures.value c.in-Ok.ensures.read in
    begun_of_text Reads _ _ c.in-Ok.table c.in_ok-text.ensures reads _ _ _ c.answer_questions.ensures.beginning
