use Rattle.std.proofs.Common.{refl, sym, ◌∙◌, subst, arith}
use Rattle.std.proofs.lemmas.Bool.{false≢true}
use Rattle.std.proofs.lemmas.List.{take_all}
use Rattle.std.proofs.lemmas.List.Elements.{All-more}
use Rattle.graph_check.specs.Below.{Node, IsRunOfSort, verdicts}
use Rattle.graph_check.specs.Words.{has_sort, AreRunsOfSort}
use Rattle.graph_check.proofs.are_runs.Goals as goal

pub returns-then-not-branch-clause-exact : goal.returns-then-not-branch-clause-exact
returns-then-not-branch-clause-exact g c =
    let IsRun = λ (n : Node _ _).
    IsRunOfSort (has_sort (verdicts g.D.Cx.Cx) c.args.sort) (g.D.Delegate.script c.args.cx n.input) n in (
      λ h. absurd (false≢true h),
      λ all. absurd (false≢true (sym c.if-not-branch.true ∙ c.in_ok-is_run.ensures.exact.1
          (subst IsRun (sym c.node-item.is) (all c.loop-node.node-index c.node-item.result c.loop-node-test.true)))),
    )

pub loop-node-preserved : goal.loop-node-preserved
loop-node-preserved g c =
    let IsRun = λ (n : Node _ _).
    IsRunOfSort (has_sort (verdicts g.D.Cx.Cx) c.args.sort) (g.D.Delegate.script c.args.cx n.input) n in
    let here = subst IsRun c.node-item.is (c.in_ok-is_run.ensures.exact.0 c.if-not-branch.false) in
    record {
      runs = All-more IsRun c.args.nodes.now c.loop-node.node-index c.node-item.result
          c.loop-node-test.true c.loop-node.invariant.runs here;
      frames = omega (arith, c.loop-node.invariant.frames, c.is_run.ensures.frames);
      same_noop = c.is_run.ensures.same_noop ∙ c.loop-node.invariant.same_noop;
    }

pub returns-clause-exact : goal.returns-clause-exact
returns-clause-exact g c = (
  λ _. subst (AreRunsOfSort (has_sort (verdicts g.D.Cx.Cx) c.args.sort) (g.D.Delegate.script c.args.cx))
      (take_all c.loop-node.node-index c.args.nodes.now c.loop-node-test.false) c.loop-node.invariant.runs,
  λ _. refl,
)
