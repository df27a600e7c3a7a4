use Rattle.std.proofs.Common.{◌≤◌, ◌^◌, ap, arith, length}
use Rattle.std.proofs.lemmas.Option.{slice_get_within}
use Rattle.rule_tables.proofs.TableLemmas.{known_more, names_grown, with_name-length}
use Rattle.rule_tables.proofs.draft.Draft.goal_named.Goals as goal

pub invariant_of-self : goal.invariant_of-self
invariant_of-self c =
    let old = c.args.self.now in
    let grown = names_grown c.intern.result old.names c.intern.new.self c.args.name.now
    c.intern.ensures.names c.intern.ensures.err in
    let counted = c.count.ensures in
    let tested = c.if-count.false in
    let room : length c.intern.new.self ≤ 2 ^ 32 = omega (arith, grown.1, counted, tested) in
    record {
      countable = room;
      few = old.few;
      known = known_more old.rules.items (length old.names) (length c.intern.new.self) grown.0 old.known;
      within = old.within;
    }

pub overflow_cast-result : goal.overflow_cast-result
overflow_cast-result c =
    let l = slice_get_within c.intern.new.self c.in_ok-number.number c.args.name.now c.in_ok-number.ensures.number in
    let grown = with_name-length c.args.self.now.names c.args.name.now in
    let same = ap length c.in_ok-number.ensures.names in
    omega (arith, l, grown.1, same, c.count.ensures, c.if-count.false)
