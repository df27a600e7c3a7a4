use Rattle.std.proofs.Common.{refl}
use Rattle.open_tables.proofs.Changing.{rule_added}
use Rattle.open_tables.proofs.table.OpenTable.add_rule.Goals as goal

pub returns-clause-ok : goal.returns-clause-ok
returns-clause-ok c = λ name is changes made.
    rule_added c.name_all.new.self c.add.new.self c.args.goal _ name _ c.in_ok-add.ensures.ok
    (record { is_marked = refl; questions = c.in_ok-name_all.ensures.asked })
    (c.name_all.ensures.names c.args.goal name is) changes (c.name_all.ensures.made changes made)
