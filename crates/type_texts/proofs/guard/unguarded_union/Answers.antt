use Rattle.std.proofs.Common.{◌≡◌, ◌∙◌, ap, sym, subst, None, Some}
use Rattle.type_order.specs.Subtypes.{forms_of}
use Rattle.type_texts.specs.Words.{AreComponents, HasStep, StaysInside, successor_lists}
use Rattle.type_texts.proofs.Unions.{contractive, leads_back, stays_inside}
use Rattle.type_texts.proofs.guard.unguarded_union.Goals as goal

pub components-requires : goal.components-requires
components-requires c = record {
  inside = subst StaysInside (sym (ap successor_lists c.as_slice.ensures.value ∙ c.in_ok-graph.ensures))
      (stays_inside (forms_of c.args.types.now) c.requires.declared);
}

pub returns-clause-none : goal.returns-clause-none
returns-clause-none c = λ e.
    let lists = ap successor_lists c.as_slice.ensures.value ∙ c.in_ok-graph.ensures in
    let again = ap successor_lists c.as_slice-2.ensures.value ∙ c.in_ok-graph.ensures in
    let are = subst (λ ls. AreComponents ls c.in_ok-numbers.numbers.items) lists c.in_ok-numbers.ensures in
    let is : c.first_within.result ≡ None = cc in
    contractive (forms_of c.args.types.now) c.in_ok-numbers.numbers.items are
    (λ a b step same. c.first_within.ensures.none is a b (subst (λ ls. HasStep ls a b) (sym again) step)
    (rw c.as_slice-3.ensures.value same))

pub returns-clause-some : goal.returns-clause-some
returns-clause-some c = λ n e.
    let lists = ap successor_lists c.as_slice.ensures.value ∙ c.in_ok-graph.ensures in
    let again = ap successor_lists c.as_slice-2.ensures.value ∙ c.in_ok-graph.ensures in
    let are = subst (λ ls. AreComponents ls c.in_ok-numbers.numbers.items) lists c.in_ok-numbers.ensures in
    let is : c.first_within.result ≡ Some n = cc in
    let w = c.first_within.ensures.some n is in
    leads_back (forms_of c.args.types.now) c.in_ok-numbers.numbers.items c.requires.declared are n w.0
    (subst (λ ls. HasStep ls n w.0) again w.1) (rw c.as_slice-3.ensures.value at w.2)
