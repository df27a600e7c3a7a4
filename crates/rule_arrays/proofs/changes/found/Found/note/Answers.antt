use Rattle.std.proofs.Common.{nat_eq, refl}
use Rattle.std.specs.HashSet.{contains}
use Rattle.rule_arrays.proofs.Finding.{not_false, noted_again, noted_first}
use Rattle.rule_arrays.proofs.changes.found.Found.note.Goals as goal

pub returns-in_ok-push : goal.returns-in_ok-push
returns-in_ok-push c = noted_first c.args.self.now _ c.args.goal c.requires.listed c.in_ok-push.ensures.items
    c.in_ok-insert.ensures.updates.0

pub returns-else-branch : goal.returns-else-branch
returns-else-branch c = noted_again c.args.self.now _ c.args.goal c.requires.listed
    (not_false c.in_ok-insert.field-0 (contains nat_eq c.args.self.now.all c.args.goal) c.in_ok-insert.ensures.added
    c.if-branch.false) refl c.in_ok-insert.ensures.updates.0
