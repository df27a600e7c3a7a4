use Rattle.std.proofs.Common.{arith, ap, length, subst}
use Rattle.std.proofs.lemmas.List.{length_push}
use Rattle.open_tables.specs.Table.{IsKept}
use Rattle.open_tables.proofs.Keeping.{kept_as}
use Rattle.open_tables.proofs.Naming.{as_many_still, candidates_kept, grown_by, names_kept, no_change}
use Rattle.open_tables.proofs.table.OpenTable.goal_named.Goals as goal

pub invariant_of-self-2 : goal.invariant_of-self-2
invariant_of-self-2 c =
    let old = c.args.self.now in
    let kept = subst (λ table. IsKept table c.self.inside.askers) c.self.view_is c.self.invariant in
    let grown = grown_by old c.goal.result c.args.name.now c.self.inside.names c.intern.new.self
    c.self.inside.ways.items c.reserve.new.self.items c.push_reserved.new.self.items c.new.result c.self.view_is
    kept.as_many c.goal.ensures c.in_default.is c.in_ok-number.ensures.names c.reserve.ensures.items
    c.push_reserved.ensures.items c.new.ensures.items in
    let counted = ap length (ap (λ t. t.names) c.self.view_is) in
    kept_as old _ c.self.inside.askers kept
    (omega (
      arith,
      ap length grown.names,
      length_push old.names c.args.name.now,
      c.count.ensures,
      c.if-count.false,
      counted,
    ))
    (as_many_still old _ c.args.name.now grown) (candidates_kept old _ c.args.name.now grown)

pub returns-clause-names : goal.returns-clause-names
returns-clause-names c =
    let old = c.args.self.now in
    let kept = subst (λ table. IsKept table c.self.inside.askers) c.self.view_is c.self.invariant in
    names_kept old _ c.args.name.now
    (grown_by old c.goal.result c.args.name.now c.self.inside.names c.intern.new.self
    c.self.inside.ways.items c.reserve.new.self.items c.push_reserved.new.self.items c.new.result c.self.view_is
    kept.as_many c.goal.ensures c.in_default.is c.in_ok-number.ensures.names c.reserve.ensures.items
    c.push_reserved.ensures.items c.new.ensures.items)

pub returns-clause-candidates : goal.returns-clause-candidates
returns-clause-candidates c =
    let old = c.args.self.now in
    let kept = subst (λ table. IsKept table c.self.inside.askers) c.self.view_is c.self.invariant in
    candidates_kept old _ c.args.name.now
    (grown_by old c.goal.result c.args.name.now c.self.inside.names c.intern.new.self
    c.self.inside.ways.items c.reserve.new.self.items c.push_reserved.new.self.items c.new.result c.self.view_is
    kept.as_many c.goal.ensures c.in_default.is c.in_ok-number.ensures.names c.reserve.ensures.items
    c.push_reserved.ensures.items c.new.ensures.items)

pub returns-clause-made : goal.returns-clause-made
returns-clause-made c =
    let old = c.args.self.now in
    let kept = subst (λ table. IsKept table c.self.inside.askers) c.self.view_is c.self.invariant in
    no_change old _ c.args.name.now
    (grown_by old c.goal.result c.args.name.now c.self.inside.names c.intern.new.self
    c.self.inside.ways.items c.reserve.new.self.items c.push_reserved.new.self.items c.new.result c.self.view_is
    kept.as_many c.goal.ensures c.in_default.is c.in_ok-number.ensures.names c.reserve.ensures.items
    c.push_reserved.ensures.items c.new.ensures.items)
