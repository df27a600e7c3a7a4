use Rattle.std.proofs.Common.{◌↔◌, IsTrue, IfOk, sym, ◌∙◌, subst, refl}
use Rattle.std.proofs.lemmas.Bool.{false≢true}
use Rattle.std.proofs.lemmas.Result.{IfOk-weaker}
use Rattle.graph_check.specs.Below.{HasGoal, AreClosed, CyclesHaveKind, IsValid, IsValidFor, goal_nodes_of, verdicts}
use Rattle.graph_check.specs.Words.{has_sort, AreRunsOfSort}
use Rattle.graph_check.proofs.ValidGraphs.{IsKindOf, runs_decide, valid_is_proof, valid_is_refutation, valid_by_sort}
use Rattle.graph_check.proofs.check_graph.Goals as goal
use Rattle.graph_check.proofs.check_graph.Goals.{in-Yes, in-No, then-not-is_rooted-via-then-not-is_rooted}
use Rattle.graph_check.proofs.check_graph.Goals.{then-not-is_rooted-via-else-not-is_rooted+then-not-are_closed}
use Rattle.graph_check.proofs.check_graph.Goals.{
  then-not-is_rooted-via-else-not-is_rooted+else-not-are_closed+in_ok-cycles_have_kind+then-not-branch,
}

pub returns-then-not-is_rooted-clause-exact : goal.returns-then-not-is_rooted-clause-exact
returns-then-not-is_rooted-clause-exact g c =
    let script = g.D.Delegate.script c.args.cx in
    let nodes = c.as_slice-nodes.result.now in
    let kind = c.match-sort.kind in
    let is_kind : IsKindOf c.args.sort kind = elim c.match-sort.branch [
      | in-Yes w ↦ subst (λ s. IsKindOf s kind) (sym w.in-Yes.is) w.kind-is
      | in-No w ↦ subst (λ s. IsKindOf s kind) (sym w.in-No.is) w.kind-is
    ] in (
      λ h. absurd (false≢true h),
      λ valid.
          let v = subst (λ nodes. IsValid (has_sort (verdicts g.D.Cx.Cx) c.args.sort) kind script nodes c.args.input)
          (sym c.as_slice-nodes.ensures.value)
          ((valid_by_sort (verdicts g.D.Cx.Cx) script c.args.input kind c.args.sort
          c.args.graph.now.nodes.items is_kind).0 valid) in
          elim c.then-not-is_rooted.branch [
            | then-not-is_rooted-via-then-not-is_rooted w ↦
                absurd (false≢true (sym w.if-not-is_rooted.true ∙ c.is_rooted.ensures.1 v.rooted))
            | then-not-is_rooted-via-else-not-is_rooted+then-not-are_closed w ↦
                absurd (false≢true (sym w.if-not-are_closed.true ∙ w.are_closed.ensures.1 v.closed))
            | then-not-is_rooted-via-else-not-is_rooted+else-not-are_closed+in_ok-cycles_have_kind+then-not-branch w ↦
                absurd (false≢true (sym w.if-not-branch.true ∙ w.in_ok-cycles_have_kind.ensures.1 v.cycles))
          ],
    )

pub returns-clause-exact : goal.returns-clause-exact
returns-clause-exact g c =
    let script = g.D.Delegate.script c.args.cx in
    let kind = c.match-sort.kind in
    let is_kind : IsKindOf c.args.sort kind = elim c.match-sort.branch [
      | in-Yes w ↦ subst (λ s. IsKindOf s kind) (sym w.in-Yes.is) w.kind-is
      | in-No w ↦ subst (λ s. IsKindOf s kind) (sym w.in-No.is) w.kind-is
    ] in
    let same = c.as_slice-nodes.ensures.value in
    let nodes = c.args.graph.now.nodes.items in
    IfOk-weaker c.are_runs.result _ _
    (runs_decide (verdicts g.D.Cx.Cx) script c.args.input kind c.args.sort nodes is_kind
    (subst (λ nodes. HasGoal (goal_nodes_of nodes) 0 c.args.input) same
    (c.is_rooted.ensures.0 c.if-not-is_rooted.false))
    (subst (λ nodes. AreClosed (goal_nodes_of nodes)) same (c.are_closed.ensures.0 c.if-not-are_closed.false))
    (subst (λ nodes. CyclesHaveKind kind (goal_nodes_of nodes)) same
    (c.in_ok-cycles_have_kind.ensures.0 c.if-not-branch.false)))
    (subst (λ nodes. IfOk c.are_runs.result
    (λ accepted. IsTrue accepted ↔ AreRunsOfSort (has_sort (verdicts g.D.Cx.Cx) c.args.sort) script nodes))
    same c.are_runs.ensures.exact)

pub returns-clause-proof : goal.returns-clause-proof
returns-clause-proof g c = λ ok yes.
    let script = g.D.Delegate.script c.args.cx in
    let nodes = c.args.graph.now.nodes.items in
    let exact = subst
    (λ r. IfOk r (λ accepted. IsTrue accepted ↔ IsValidFor (verdicts g.D.Cx.Cx) c.args.sort script nodes c.args.input))
    ok (returns-clause-exact g c) in
    valid_is_proof (verdicts g.D.Cx.Cx) script c.args.input c.args.sort nodes (g.D.Cx.Cx.proves c.args.cx)
    (g.met.D.Delegate.yes_is_proved c.args.cx) (exact.0 refl) yes

pub returns-clause-refutation : goal.returns-clause-refutation
returns-clause-refutation g c = λ ok no.
    let script = g.D.Delegate.script c.args.cx in
    let nodes = c.args.graph.now.nodes.items in
    let exact = subst
    (λ r. IfOk r (λ accepted. IsTrue accepted ↔ IsValidFor (verdicts g.D.Cx.Cx) c.args.sort script nodes c.args.input))
    ok (returns-clause-exact g c) in
    valid_is_refutation (verdicts g.D.Cx.Cx) script c.args.input c.args.sort nodes (g.D.Cx.Cx.refutes c.args.cx)
    (g.met.D.Delegate.no_is_refuted c.args.cx) (exact.0 refl) no
