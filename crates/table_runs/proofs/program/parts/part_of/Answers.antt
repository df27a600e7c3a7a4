use Rattle.std.proofs.Common.{◌≡◌, ◌∙◌, ap, arith, length, length-append, [], ◌∷◌, ◌++◌, slice_get, Some, subst, sym}
use Rattle.table_runs.proofs.Parts.{known_push}
use Rattle.table_runs.specs.Parts.{IsOfSort, KnownAreShown}
use Rattle.table_runs.specs.Right.{AreShown, SomeGraphShows}
use Rattle.table_runs.proofs.program.parts.part_of.Goals as goal

pub loop-place-init : goal.loop-place-init
loop-place-init g c = record {
  each = ap length c.new-known.ensures.items ∙ sym (ap length c.new-nodes.ensures.items);
  known = λ shown at n there marked.
      absurd (let none : slice_get [] at ≡ Some n =
      subst (λ xs. slice_get xs at ≡ Some n) c.new-nodes.ensures.items there in cc);
}

pub loop-place-preserved : goal.loop-place-preserved
loop-place-preserved g c =
    let cx = c.args.cache.now.cx in
    let known = c.loop-place.known.items in
    let nodes = c.loop-place.nodes.items in
    let copy = c.in_ok-copied.field-0 in
    let mark = c.was_shown-is_known.result in
    record {
      each = omega (
        arith,
        ap length c.in_ok-push-2.ensures.items,
        length-append known (mark ∷ []),
        ap length c.in_ok-push.ensures.items,
        length-append nodes (copy ∷ []),
        c.loop-place.invariant.each,
      );
      known = λ shown.
          subst (λ ks. KnownAreShown g.X.Cx cx c.args.sort ks c.push.new.self.items) (sym c.in_ok-push-2.ensures.items)
          (subst (KnownAreShown g.X.Cx cx c.args.sort (known ++ mark ∷ [])) (sym c.in_ok-push.ensures.items)
          (known_push g.X.Cx cx c.args.sort known nodes mark copy c.loop-place.invariant.each
          (λ is.
          subst (λ outcome. IsOfSort g.X.Cx c.args.sort outcome × SomeGraphShows g.X.Cx cx copy.input outcome)
          (sym c.in_ok-copied.ensures.outcome) (
            c.was_shown-is_known.ensures.of_sort is,
            subst (λ input. SomeGraphShows g.X.Cx cx input c.in-Some-node.node.now.result)
                (sym c.in_ok-copied.ensures.input)
                (subst (λ k. SomeGraphShows g.X.Cx k c.in-Some-node.node.now.input c.in-Some-node.node.now.result)
                c.cx.ensures
                (c.was_shown-is_known.ensures.shown
                (subst (λ k. AreShown g.X.Cx k c.args.shown.now.entries) (sym c.cx.ensures) shown) is)),
          ))
          (c.loop-place.invariant.known shown)));
    }

pub returns-clause-each : goal.returns-clause-each
returns-clause-each g c = c.loop-place.invariant.each

pub returns-clause-known : goal.returns-clause-known
returns-clause-known g c = c.loop-place.invariant.known
