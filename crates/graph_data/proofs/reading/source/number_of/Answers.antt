use Rattle.graph_data.proofs.Numerals.{read_no_number, read_number}
use Rattle.graph_data.proofs.reading.source.number_of.Goals as goal

pub returns-clause-some : goal.returns-clause-some
returns-clause-some c =
    read_number c.args.text.now c.parse.result c.ok.result c.requires c.parse.ensures.value.0 c.ok.ensures.value

pub returns-clause-none : goal.returns-clause-none
returns-clause-none c =
    read_no_number c.args.text.now c.parse.result c.ok.result c.parse.ensures.value.0 c.ok.ensures.value
