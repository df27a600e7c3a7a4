use Rattle.std.proofs.Common.{drop, ◌+◌, sym, ap, subst, ◌∙◌, arith}
use Rattle.std.proofs.Math.ListN.{drop_of_length-le}
use Rattle.cycle_heads.specs.Words.{merged, at_depth, IsRising}
use Rattle.cycle_heads.proofs.MergedUsages.{merged-next, merged-comm, merged-None}
use Rattle.cycle_heads.proofs.candidates.CandidateHeadUsages.merge_usages.Goals as goal

pub loop-head-preserved : goal.loop-head-preserved
loop-head-preserved c =
    let items = c.as_slice-head-items.result.now in
    let rising = subst IsRising (sym c.as_slice-head-items.ensures.usages) c.as_slice-head-items.ensures.rising in
    λ depth. ap (λ sums. merged (at_depth sums depth) (at_depth (drop (c.loop-head.head-index + 1) items) depth))
    c.in_ok-add.ensures.ok
    ∙ merged-next c.loop-head.sums items c.loop-head.head-index _ rising c.loop-head-test.true depth
    ∙ c.loop-head.invariant depth

pub returns-clause-ok : goal.returns-clause-ok
returns-clause-ok c = λ head.
    let items = c.as_slice-head-items.result.now in
    let sum = at_depth c.loop-head.sums head in
    let none = drop_of_length-le items {i = c.loop-head.head-index} (omega (arith, c.loop-head-test.false)) in
    sym (merged-None sum)
    ∙ ap (λ rest. merged sum (at_depth rest head)) (sym none)
    ∙ c.loop-head.invariant head
    ∙ ap (λ usages. merged (at_depth c.args.other head) (at_depth usages head)) c.as_slice-head-items.ensures.usages
    ∙ merged-comm (at_depth c.args.other head) (at_depth c.args.self.now head)
