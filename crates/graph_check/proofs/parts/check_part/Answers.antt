use Rattle.std.proofs.Common.{IfOk, IsTrue, subst, sym}
use Rattle.graph_check.specs.Below.{AreClosed, CyclesHaveKind, goal_nodes_of, verdicts}
use Rattle.graph_check.specs.Parts.{AreRunsButKnown}
use Rattle.graph_check.specs.Words.{has_sort}
use Rattle.graph_check.proofs.PartGraphs.{if_accepted, proofs_of_part, refutations_of_part, sorted_part}
use Rattle.graph_check.proofs.ValidGraphs.{IsKindOf}
use Rattle.graph_check.proofs.parts.check_part.Goals as goal
use Rattle.graph_check.proofs.parts.check_part.Goals.{in-Yes, in-No}

pub returns-clause-proof : goal.returns-clause-proof
returns-clause-proof g c = λ ok is are_known.
    let says = verdicts g.D.Cx.Cx in
    let script = g.D.Delegate.script c.args.cx in
    let nodes = c.args.part.now.nodes.items in
    let kind = c.match-sort.kind in
    let is_kind : IsKindOf c.args.sort kind = elim c.match-sort.branch [
      | in-Yes w ↦ subst (λ s. IsKindOf s kind) (sym w.in-Yes.is) w.kind-is
      | in-No w ↦ subst (λ s. IsKindOf s kind) (sym w.in-No.is) w.kind-is
    ] in
    let are = c.as_slice-nodes.ensures.value in
    if_accepted c.are_runs_but_known.result (subst (λ nodes. IfOk c.are_runs_but_known.result (λ b. IsTrue b →
    AreRunsButKnown (has_sort says c.args.sort) script c.args.known.now nodes)) are c.are_runs_but_known.ensures.runs)
    (λ runs. proofs_of_part says script c.args.known.now nodes c.args.sort kind is_kind c.requires.each
    (subst (λ nodes. AreClosed (goal_nodes_of nodes)) are (c.are_closed.ensures.0 c.if-not-are_closed.false))
    (subst (λ nodes. CyclesHaveKind kind (goal_nodes_of nodes)) are
    (c.in_ok-cycles_have_kind.ensures.0 c.if-not-branch.false)) runs (g.D.Cx.Cx.proves c.args.cx)
    (g.met.D.Delegate.yes_is_proved c.args.cx) is are_known) ok

pub returns-clause-refutation : goal.returns-clause-refutation
returns-clause-refutation g c = λ ok is are_known.
    let says = verdicts g.D.Cx.Cx in
    let script = g.D.Delegate.script c.args.cx in
    let nodes = c.args.part.now.nodes.items in
    let kind = c.match-sort.kind in
    let is_kind : IsKindOf c.args.sort kind = elim c.match-sort.branch [
      | in-Yes w ↦ subst (λ s. IsKindOf s kind) (sym w.in-Yes.is) w.kind-is
      | in-No w ↦ subst (λ s. IsKindOf s kind) (sym w.in-No.is) w.kind-is
    ] in
    let are = c.as_slice-nodes.ensures.value in
    if_accepted c.are_runs_but_known.result (subst (λ nodes. IfOk c.are_runs_but_known.result (λ b. IsTrue b →
    AreRunsButKnown (has_sort says c.args.sort) script c.args.known.now nodes)) are c.are_runs_but_known.ensures.runs)
    (λ runs. refutations_of_part says script c.args.known.now nodes c.args.sort kind is_kind c.requires.each
    (subst (λ nodes. AreClosed (goal_nodes_of nodes)) are (c.are_closed.ensures.0 c.if-not-are_closed.false))
    (subst (λ nodes. CyclesHaveKind kind (goal_nodes_of nodes)) are
    (c.in_ok-cycles_have_kind.ensures.0 c.if-not-branch.false)) runs (g.D.Cx.Cx.refutes c.args.cx)
    (g.met.D.Delegate.no_is_refuted c.args.cx) is are_known) ok

pub returns-clause-sorted : goal.returns-clause-sorted
returns-clause-sorted g c = λ ok.
    let says = verdicts g.D.Cx.Cx in
    let script = g.D.Delegate.script c.args.cx in
    let nodes = c.args.part.now.nodes.items in
    let kind = c.match-sort.kind in
    let is_kind : IsKindOf c.args.sort kind = elim c.match-sort.branch [
      | in-Yes w ↦ subst (λ s. IsKindOf s kind) (sym w.in-Yes.is) w.kind-is
      | in-No w ↦ subst (λ s. IsKindOf s kind) (sym w.in-No.is) w.kind-is
    ] in
    let are = c.as_slice-nodes.ensures.value in
    if_accepted c.are_runs_but_known.result (subst (λ nodes. IfOk c.are_runs_but_known.result (λ b. IsTrue b →
    AreRunsButKnown (has_sort says c.args.sort) script c.args.known.now nodes)) are c.are_runs_but_known.ensures.runs)
    (λ runs. sorted_part says script c.args.known.now nodes c.args.sort kind is_kind c.requires.each
    (subst (λ nodes. AreClosed (goal_nodes_of nodes)) are (c.are_closed.ensures.0 c.if-not-are_closed.false))
    (subst (λ nodes. CyclesHaveKind kind (goal_nodes_of nodes)) are
    (c.in_ok-cycles_have_kind.ensures.0 c.if-not-branch.false)) runs) ok
