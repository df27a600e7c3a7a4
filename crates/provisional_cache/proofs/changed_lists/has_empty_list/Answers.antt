use Rattle.std.proofs.Common.{◌≢◌, [], All, arith, length, ap, sym, ◌∙◌, subst}
use Rattle.std.proofs.lemmas.List.Elements.{All-cons, All-nil}
use Rattle.provisional_cache.proofs.RebasedLists.{has_element}
use Rattle.provisional_cache.proofs.changed_lists.has_empty_list.Goals as goal

pub loop-items-init : goal.loop-items-init
loop-items-init g c = λ all. all

pub returns-then-is_empty : goal.returns-then-is_empty
returns-then-is_empty g c = λ is k d lt none. cc

pub loop-items-smaller : goal.loop-items-smaller
loop-items-smaller g c = omega (arith, ap length c.in-Some.ensures.steps)

pub loop-items-preserved : goal.loop-items-preserved
loop-items-preserved g c = λ rest.
    c.loop-items.invariant
    (subst (All (λ e. e.1.items ≢ [])) (sym c.in-Some.ensures.steps)
    (All-cons (λ e. e.1.items ≢ []) (c.in-Some.field-0-0.now, c.in-Some.items.now) c.next.new.self
    (has_element c.in-Some.items.now c.if-is_empty.ensures) rest))

pub returns : goal.returns
returns g c = λ _.
    subst (All (λ e. e.1.items ≢ []))
    (c.into_iter-items-iterator.ensures.into_iter_gives ∙ c.iter-items-items.ensures.rest)
    (c.loop-items.invariant (subst (All (λ e. e.1.items ≢ []))
    (sym c.in-None.ensures.steps.0) (All-nil (λ e. e.1.items ≢ []))))
