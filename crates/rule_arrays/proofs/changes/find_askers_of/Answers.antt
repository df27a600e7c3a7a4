use Rattle.rule_arrays.specs.Compared.{table_in}
use Rattle.rule_arrays.proofs.Concerning.{askers_found}
use Rattle.rule_arrays.proofs.changes.find_askers_of.Goals as goal

pub returns : goal.returns
returns c = askers_found (table_in c.args.rows) c.args.count c.requires.enough c.args.first c.in_ok-askers.askers
    c.in_ok-askers.ensures c.args.found.now c.follow_all.new.self c.in_ok-follow_all.ensures
