use Rattle.std.proofs.Common.{◌≡◌, take}
use Rattle.structural_types.specs.Asked.{declared_in}
use Rattle.std.specs.Prelude.{is_ok}
use Rattle.line_texts.proofs.Questions.{AreToldTo}
use Rattle.type_runs.specs.Answers.{AreRight, line_of}
use Rattle.type_runs.proofs.program.questions.answer_questions.Given as goal
use Rattle.type_texts.specs.Table.{forms_in}

-- the first questions are told
abbrev pub invariant-loop-question : goal.invariant-loop-question
invariant-loop-question g l =
    let contents = g.W.Write.contents in
    (declared_in g.T.Lends.lent_by l.subtyping ≡ forms_in l.table)
    × AreToldTo (line_of l.table) is_ok (AreRight l.table) (take l.question-index l.questions) (contents l.fn.out)
    (contents l.out) l.waiting.items l.all_fine
