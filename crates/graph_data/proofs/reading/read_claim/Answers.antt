use Rattle.graph_data.specs.Below.{names_of}
use Rattle.graph_data.specs.Data.{left_in}
use Rattle.graph_data.proofs.Spelling.{same_claim}
use Rattle.graph_data.proofs.reading.read_claim.Goals as goal

pub returns-clause-same : goal.returns-clause-same
returns-clause-same c = same_claim (names_of c.args.rules.now) c.args.source.now (left_in c.read_members.new.source)
    c.read_members.result c.read_members.ensures.spelled c.read_members.ensures.named
