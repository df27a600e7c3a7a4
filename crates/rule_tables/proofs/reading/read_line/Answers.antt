use Rattle.rule_tables.specs.Words.{Nothing}
use Rattle.rule_tables.proofs.Adding.{adds_nothing}
use Rattle.rule_tables.proofs.Lines.{short_names}
use Rattle.rule_tables.proofs.reading.read_line.Goals as goal

pub returns-in-PassedOver-clause-ok : goal.returns-in-PassedOver-clause-ok
returns-in-PassedOver-clause-ok c = (Nothing, rw c.in-PassedOver.is at c.in_ok-said_by.ensures.ok, adds_nothing _)

pub add_rule-requires-clause-questions : goal.add_rule-requires-clause-questions
add_rule-requires-clause-questions c =
    let said = rw c.in-Rule.is at c.in_ok-said_by.ensures.ok in
    rw c.as_slice.ensures (short_names said.asked c.said_by.new.questions.items said.are_questions)
