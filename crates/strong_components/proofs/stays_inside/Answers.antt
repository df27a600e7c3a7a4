use Rattle.std.proofs.Common.{ℕ, ◌<◌, List, length, refl, sym, subst, below_more}
use Rattle.std.specs.List.{All}
use Rattle.std.proofs.lemmas.Bool.{false≢true, iff_false}
use Rattle.strong_components.proofs.Rows.{inside_from_rows, row_from_inside, row_is}
use Rattle.strong_components.proofs.stays_inside.Goals as goal

pub returns-then-not-all_below : goal.returns-then-not-all_below
returns-then-not-all_below c = (
  λ no. absurd (false≢true no),
  λ inside.
      let row = row_from_inside c.args.graph.now _ c.successors-item.result
      c.loop-successors-test.true c.successors-item.is inside in
      absurd (iff_false c.all_below.ensures c.if-not-all_below.true
      (subst (All (λ b. b < length c.args.graph.now)) (sym c.deref.ensures.value) row)),
)

pub loop-successors-preserved : goal.loop-successors-preserved
loop-successors-preserved c =
    let P : List ℕ → Type 0 = All (λ b. b < length c.args.graph.now) in
    below_more _ _ c.loop-successors.invariant
    (subst P (sym (row_is c.args.graph.now _ c.successors-item.result c.loop-successors-test.true c.successors-item.is))
    (subst P c.deref.ensures.value (c.all_below.ensures.0 c.if-not-all_below.false)))

pub returns : goal.returns
returns c = (
  λ yes. inside_from_rows c.args.graph.now _ c.loop-successors-test.false c.loop-successors.invariant,
  λ inside. refl,
)
