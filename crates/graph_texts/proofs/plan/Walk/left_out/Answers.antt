use Rattle.std.proofs.Common.{◌≡◌, ◌∙◌, ◌+◌, ap, arith, get_or, if◌then◌else◌, Some, slice_get, subst, sym}
use Rattle.std.proofs.lemmas.Option.{slice_get-get_or}
use Rattle.graph_texts.proofs.Plans.{left_out_more}
use Rattle.graph_texts.specs.Plan.{left_out}
use Rattle.graph_texts.specs.declared.plan.Mark.TheVariants.{Unseen}
use Rattle.graph_texts.proofs.plan.Walk.left_out.Goals as goal
use Rattle.graph_texts.proofs.plan.Walk.left_out.Goals.{then-is_unseen, else-is_unseen}

pub loop-mark-preserved : goal.loop-mark-preserved
loop-mark-preserved c =
    let marks = c.deref-mark-items.result.now in
    let at = c.loop-mark.mark-index in
    let lines = c.args.self.now.lines.items in
    let mark = get_or marks at Unseen in
    let there = subst (λ ms. slice_get ms at ≡ Some mark) c.deref-mark-items.ensures.value
    (slice_get-get_or marks at Unseen c.loop-mark-test.true) in
    let more = left_out_more lines c.args.self.now.marks.items at mark c.requires there
    ∙ ap (λ b. left_out at lines + (if b then 1 else 0)) (sym c.is_unseen.ensures) in
    let within = c.loop-mark.invariant.within in
    elim c.if-is_unseen.branch [
      | then-is_unseen w ↦
          let one = more ∙ ap (λ b. left_out at lines + (if b then 1 else 0)) w.if-is_unseen.true in
          record {
            count = omega (arith, w.left-is, one, c.loop-mark.invariant.count);
            within = omega (arith, w.left-is, within);
          }
      | else-is_unseen w ↦
          let none = more ∙ ap (λ b. left_out at lines + (if b then 1 else 0)) w.if-is_unseen.false in
          record {
            count = omega (arith, w.left-is, none, c.loop-mark.invariant.count);
            within = omega (arith, w.left-is, within);
          }
    ]
