use Rattle.std.proofs.Common.{◌≡◌, map, refl, rules, subst, true}
use Rattle.rule_tables.specs.contracts.rules.GoalPartialEq.TheImpl.{eq-value}
use Rattle.rule_tables.specs.declared.rules.Goal.{Goal}
use Rattle.open_tables.specs.Kept.{ClearsCandidates}
use Rattle.open_tables.specs.Table.{Table, candidates_in}
use Rattle.open_tables.proofs.Changing.{rules_cleared}
use Rattle.open_tables.proofs.Keeping.{kept_cleared}
use Rattle.open_tables.proofs.Places.{clears_by}
use Rattle.open_tables.proofs.table.OpenTable.clear.Goals as goal

pub invariant_of-self : goal.invariant_of-self
invariant_of-self c =
    let old : Table = record { names = c.self.inside.names; candidates = map candidates_in c.self.inside.ways.items } in
    let new : Table =
    record { names = c.self.inside.names; candidates = map candidates_in c.clear_at.new.ways.items } in
    let exact : (x y : Goal) → eq-value.it x y ≡ true → x ≡ y = search rules in
    let own : (x : Goal) → eq-value.it x x ≡ true = search rules in
    kept_cleared eq-value.it exact own old new c.args.goal c.self.inside.askers c.clear.new.self c.self.invariant
    (clears_by old new c.args.goal c.number.result c.number.ensures refl c.clear_at.ensures) c.clear_at.ensures.as_many
    c.clear.ensures

pub returns-clause-clears : goal.returns-clause-clears
returns-clause-clears c =
    let old : Table = record { names = c.self.inside.names; candidates = map candidates_in c.self.inside.ways.items } in
    let new : Table =
    record { names = c.self.inside.names; candidates = map candidates_in c.clear_at.new.ways.items } in
    subst (λ table. ClearsCandidates c.args.goal table new) c.self.view_is
    (clears_by old new c.args.goal c.number.result c.number.ensures refl c.clear_at.ensures)

pub returns-clause-made : goal.returns-clause-made
returns-clause-made c = λ name is.
    let old : Table = record { names = c.self.inside.names; candidates = map candidates_in c.self.inside.ways.items } in
    let new : Table =
    record { names = c.self.inside.names; candidates = map candidates_in c.clear_at.new.ways.items } in
    rules_cleared c.args.self.now new c.args.goal name
    (subst (λ table. ClearsCandidates c.args.goal table new) c.self.view_is
    (clears_by old new c.args.goal c.number.result c.number.ensures refl c.clear_at.ensures)) is
