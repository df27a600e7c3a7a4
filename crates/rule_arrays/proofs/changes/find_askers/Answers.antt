use Rattle.std.proofs.Common.{arith}
use Rattle.rule_arrays.specs.Compared.{table_in}
use Rattle.rule_arrays.proofs.Concerning.{all_near, then_all}
use Rattle.rule_arrays.proofs.changes.find_askers.Goals as goal

pub returns-then-last-near : goal.returns-then-last-near
returns-then-last-near c = all_near (table_in c.args.rows) c.args.count c.requires.enough c.near-near.result
    c.args.found.now
    c.find_askers_of.new.found c.in_ok-find_askers_of.ensures
    (λ goal it. let most = c.last-2.ensures goal it in omega (arith, most, c.if-last-near.true))

pub returns : goal.returns
returns c = then_all (table_in c.args.rows) c.args.count c.requires.enough c.near-near.result c.args.found.now
    c.find_askers_of.new.found c.find_askers_of-2.new.found c.in_ok-find_askers_of.ensures
    c.in_ok-find_askers_of-2.ensures
