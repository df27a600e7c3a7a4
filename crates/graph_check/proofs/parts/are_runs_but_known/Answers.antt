use Rattle.std.proofs.Common.{◌≡◌, ◌∙◌, arith, false, inl, inr, slice_get, Some, subst}
use Rattle.graph_check.specs.Below.{IsRunOfSort, Node, verdicts}
use Rattle.graph_check.specs.Words.{has_sort}
use Rattle.std.proofs.lemmas.Bool.Decides.{eqb_tells}
use Rattle.std.proofs.lemmas.Option.{get_or_from_slice_get, slice_get_within}
use Rattle.graph_check.proofs.parts.are_runs_but_known.Goals as goal

pub loop-place-preserved : goal.loop-place-preserved
loop-place-preserved g c =
    let place = c.loop-place.place in
    record {
      runs = λ at n lt there is. elim (eqb_tells at place) [
        | inl here ↦
            let item : c.index-nodes-place.result ≡ n = c.index-nodes-place.is
            ∙ get_or_from_slice_get c.args.nodes.now place n _
            (subst (λ i. slice_get c.args.nodes.now i ≡ Some n) here.1 there) in
            subst (λ (m : Node _ _). IsRunOfSort (has_sort (verdicts g.D.Cx.Cx) c.args.sort)
            (g.D.Delegate.script c.args.cx m.input) m) item
            (c.in_ok-is_run_unless.ensures.run c.if-not-branch.false
            (get_or_from_slice_get c.args.known.now place false false
            (subst (λ i. slice_get c.args.known.now i ≡ Some false) here.1 is)))
        | inr other ↦ c.loop-place.invariant.runs at n (omega (arith, lt, other.1)) there is
      ];
      frames = omega (arith, c.loop-place.invariant.frames, c.is_run_unless.ensures.frames);
      same_noop = c.is_run_unless.ensures.same_noop ∙ c.loop-place.invariant.same_noop;
    }

pub returns-clause-runs : goal.returns-clause-runs
returns-clause-runs g c = λ _ at n there is.
    c.loop-place.invariant.runs at n
    (omega (arith, slice_get_within c.args.nodes.now at n there, c.loop-place-test.false)) there is
