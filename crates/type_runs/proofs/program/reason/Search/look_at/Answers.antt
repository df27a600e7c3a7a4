use Rattle.std.proofs.Common.{ap₂, sym, ◌∙◌, subst}
use Rattle.std.proofs.lemmas.Bool.{and_parts, eqb-true}
use Rattle.type_order.specs.Rule.{pair}
use Rattle.type_order.specs.Subtypes.{IsBelow}
use Rattle.type_order.specs.declared.delegate.Pair.{Pair}
use Rattle.type_runs.specs.Search.{count_in}
use Rattle.type_runs.proofs.Searching.{covered_below, covered_found, seen_found}
use Rattle.type_runs.proofs.program.reason.Search.look_at.Goals as goal

pub returns-then-contains-clause-covered : goal.returns-then-contains-clause-covered
returns-then-contains-clause-covered g c =
    covered_found _ c.args.pair (seen_found c.args.self.now c.args.pair _
    (λ other equal.
    let parts = and_parts _ _ equal in ap₂ {C = Pair} pair (eqb-true _ _ parts.0) (eqb-true _ _ parts.1))
    c.args.self.now.seen.keys (sym c.contains.ensures ∙ c.if-contains.true) c.requires.ongoing.seen)

pub returns-in_ok-note-clause-covered : goal.returns-in_ok-note-clause-covered
returns-in_ok-note-clause-covered g c =
    covered_found _ c.args.pair (count_in c.args.self.now, c.in_ok-note.ensures.noted)

pub returns-else-not-branch-clause-covered : goal.returns-else-not-branch-clause-covered
returns-else-not-branch-clause-covered g c =
    covered_below _ c.args.pair
    (subst (λ forms. IsBelow forms c.args.pair.left c.args.pair.right) c.requires.of_these
    (c.in_ok-is_below.ensures.exact.0 c.if-not-branch.false))
