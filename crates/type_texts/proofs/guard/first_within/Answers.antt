use Rattle.std.proofs.Common.{◌≡◌, ℕ, slice_index, sym, ap, ◌∙◌, subst, arith, inl, inr}
use Rattle.std.specs.Prelude.{Contains}
use Rattle.std.proofs.lemmas.Bool.{cases_lt}
use Rattle.strong_components.proofs.Rows.{row_is}
use Rattle.type_texts.specs.Words.{HasStep, successor_lists}
use Rattle.type_texts.proofs.Lists.{any_found, any_none}
use Rattle.type_texts.proofs.Unions.{within_of_step}
use Rattle.type_texts.proofs.guard.first_within.Goals as goal

pub loop-place-init : goal.loop-place-init
loop-place-init c = λ a b lt has same. omega arith

pub returns-then-has_number-clause-some : goal.returns-then-has_number-clause-some
returns-then-has_number-clause-some c = λ a e.
    let numbers = c.args.numbers.now in
    let same : c.loop-place.place ≡ a = cc in
    let w = any_found (slice_index numbers) c.number_of.result c.as_slice.result.now
    (sym c.has_number.ensures ∙ c.if-has_number.true) in
    let row = row_is c.args.graph.now c.loop-place.place c.index-graph-place.result
    c.loop-place-test.true c.index-graph-place.is in
    subst (λ k. (b : ℕ) × HasStep (successor_lists c.args.graph.now) k b
    × (slice_index numbers b ≡ slice_index numbers k)) same
    (w.0, subst (λ xs. Contains xs w.0) (c.as_slice.ensures.value ∙ sym row) w.1, w.2 ∙ c.number_of.ensures)

pub loop-place-preserved : goal.loop-place-preserved
loop-place-preserved c = λ a b lt has same.
    let numbers = c.args.numbers.now in
    let row = row_is c.args.graph.now c.loop-place.place c.index-graph-place.result
    c.loop-place-test.true c.index-graph-place.is in
    elim (cases_lt a c.loop-place.place) [
      | inl below ↦ c.loop-place.invariant a b below has same
      | inr above ↦
          let here : a ≡ c.loop-place.place = omega arith in
          any_none (slice_index numbers) c.number_of.result c.as_slice.result.now
          (sym c.has_number.ensures ∙ c.if-has_number.false) b
          (subst (λ xs. Contains xs b) (row ∙ sym c.as_slice.ensures.value)
          (subst (λ k. HasStep (successor_lists c.args.graph.now) k b) here has))
          (same ∙ ap (slice_index numbers) here ∙ sym c.number_of.ensures)
    ]

pub returns-clause-none : goal.returns-clause-none
returns-clause-none c = λ e a b has same.
    let l = within_of_step c.args.graph.now a b has in
    c.loop-place.invariant a b (omega arith) has same
