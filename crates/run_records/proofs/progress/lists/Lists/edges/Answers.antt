use Rattle.std.proofs.Common.{◌≡◌, ◌∙◌, ap}
use Rattle.run_records.specs.Words.{rests_on}
use Rattle.run_records.proofs.Edges.{passed, failed, all_tested}
use Rattle.run_records.proofs.progress.lists.Lists.edges.Goals.{then-is_rested_on+in_ok-push, else-is_rested_on}
use Rattle.run_records.proofs.progress.lists.Lists.edges.Goals as goal

pub loop-packed-preserved : goal.loop-packed-preserved
loop-packed-preserved g c =
    let all = c.args.self.now.answers in
    let items = c.deref-packed-items.result.now in
    let test = rests_on c.args.self.now.ignored c.args.verdict in
    let same : items ≡ all = c.deref-packed-items.ensures.value ∙ ap (λ s. s.answers) c.self.view_is in
    elim c.if-is_rested_on.branch [
      | then-is_rested_on+in_ok-push w ↦
          passed (λ d. d.edge) test all items same c.loop-packed.packed-index c.packed-item.result
          c.loop-packed-test.true c.packed-item.is c.loop-packed.edges.items c.if-is_rested_on.edges.items
          c.loop-packed.invariant c.unpacked-answer.result c.unpacked-answer.ensures
          c.is_rested_on.result c.is_rested_on.ensures
          w.if-is_rested_on.true w.push.new.self.items (ap (λ edges. edges.items) w.edges-is) w.in_ok-push.ensures.items
      | else-is_rested_on w ↦
          failed (λ d. d.edge) test all items same c.loop-packed.packed-index c.packed-item.result
          c.loop-packed-test.true c.packed-item.is c.loop-packed.edges.items c.if-is_rested_on.edges.items
          c.loop-packed.invariant c.unpacked-answer.result c.unpacked-answer.ensures
          c.is_rested_on.result c.is_rested_on.ensures
          w.if-is_rested_on.false (ap (λ edges. edges.items) w.edges-is)
    ]

pub returns : goal.returns
returns g c =
    let all = c.args.self.now.answers in
    let items = c.deref-packed-items.result.now in
    let same : items ≡ all = c.deref-packed-items.ensures.value ∙ ap (λ s. s.answers) c.self.view_is in
    all_tested (λ d. d.edge) (rests_on c.args.self.now.ignored c.args.verdict) all items same c.loop-packed.packed-index
    c.loop-packed.edges.items c.loop-packed.invariant c.loop-packed-test.false
