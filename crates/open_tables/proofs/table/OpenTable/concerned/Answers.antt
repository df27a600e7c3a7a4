use Rattle.std.proofs.Common.{subst}
use Rattle.open_tables.specs.Table.{IsKept}
use Rattle.open_tables.proofs.Reaching.{exactly, keeps_others}
use Rattle.open_tables.proofs.table.OpenTable.concerned.Goals as goal

pub returns-clause-exact : goal.returns-clause-exact
returns-clause-exact c = exactly _ c.concerned.result c.args.self.now c.self.inside.askers c.args.changed.now
    (subst (λ table. IsKept table c.self.inside.askers) c.self.view_is c.self.invariant) c.concerned.ensures

pub returns-clause-keeps : goal.returns-clause-keeps
returns-clause-keeps c = keeps_others _ c.concerned.result c.args.self.now c.self.inside.askers c.args.changed.now
    (subst (λ table. IsKept table c.self.inside.askers) c.self.view_is c.self.invariant) c.concerned.ensures
