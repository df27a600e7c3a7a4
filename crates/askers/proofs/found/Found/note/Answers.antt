use Rattle.std.proofs.Common.{refl}
use Rattle.std.specs.HashSet.{contains}
use Rattle.askers.proofs.Finding.{not_false, noted_again, noted_first}
use Rattle.askers.proofs.found.Found.note.Goals as goal

pub returns-in_ok-push : goal.returns-in_ok-push
returns-in_ok-push g c = noted_first g.I.PartialEq.eq g.met.I.Eq.laws c.requires.exact c.args.self.now _ c.args.goal
    c.requires.listed c.in_ok-push.ensures.items c.in_ok-insert.ensures.updates.0

pub returns-else-branch : goal.returns-else-branch
returns-else-branch g c = noted_again g.I.PartialEq.eq g.met.I.Eq.laws c.requires.exact c.args.self.now _ c.args.goal
    c.requires.listed
    (not_false c.in_ok-insert.field-0 (contains g.I.PartialEq.eq c.args.self.now.all c.args.goal)
    c.in_ok-insert.ensures.added c.if-branch.false) refl c.in_ok-insert.ensures.updates.0
