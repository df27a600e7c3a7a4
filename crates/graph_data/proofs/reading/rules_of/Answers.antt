use Rattle.std.proofs.Common.{Err, ap}
use Rattle.graph_data.proofs.Pages.{reads_well}
use Rattle.graph_data.proofs.Stops.{stops_bad}
use Rattle.graph_data.proofs.reading.rules_of.Goals as goal

pub returns-in-Err-BadLine-clause-refused : goal.returns-in-Err-BadLine-clause-refused
returns-in-Err-BadLine-clause-refused c =
    stops_bad _ c.fault.result c.fault.ensures (λ some. reads_well c.args.text.now some.0 c.in-Err-BadLine.field-0-0
    some.1 (c.in-Err-BadLine.ensures.bad_line _ (ap Err c.in-Err-BadLine.field-0-is)))
