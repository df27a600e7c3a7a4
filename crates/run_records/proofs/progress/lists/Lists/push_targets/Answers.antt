use Rattle.std.proofs.Common.{◌<◌, ◌≤◌, ◌∙◌, ap, get_or, length, subst}
use Rattle.run_records.specs.Below.{NodeId}
use Rattle.run_records.specs.Words.{HasTarget}
use Rattle.run_records.proofs.Nodes.{all_more_kept, all_passed, has_pushed, keeps_target, kept_by_push}
use Rattle.run_records.proofs.Nodes.{kept_by_same, kept_through}
use Rattle.run_records.proofs.progress.lists.Lists.push_targets.Goals as goal

pub returns-in_err-push-clause-kept : goal.returns-in_err-push-clause-kept
returns-in_err-push-clause-kept g c = kept_by_same c.args.nodes.now.items c.loop-packed.nodes.items
    c.push.new.self.items c.loop-packed.invariant.kept c.in_err-push.ensures.items

pub loop-packed-preserved : goal.loop-packed-preserved
loop-packed-preserved g c =
    let few = c.loop-packed.nodes.items in
    let many = c.push.new.self.items in
    let index = c.loop-packed.packed-index in
    let answer = c.packed-item.result in
    let node : NodeId = record { 0 = answer.edge.target } in
    let answers_are = c.deref-packed-items.ensures.value ∙ ap (λ r. r.answers) c.self.view_is in
    let pushed = rw c.unpacked-answer.ensures at c.in_ok-push.ensures.items in
    let kept = kept_by_push few many node pushed in
    let below = subst (λ answers. index < length answers) answers_are c.loop-packed-test.true in
    let at = c.packed-item.is ∙ ap (λ answers. get_or answers index answer) answers_are in
    record {
      kept = kept_through c.args.nodes.now.items few many c.loop-packed.invariant.kept kept;
      so_far = all_more_kept HasTarget keeps_target few many c.args.self.now.answers index answer below at kept
          c.loop-packed.invariant.so_far (has_pushed few many node pushed);
    }

pub returns-clause-answers : goal.returns-clause-answers
returns-clause-answers g c =
    let answers_are = c.deref-packed-items.ensures.value ∙ ap (λ r. r.answers) c.self.view_is in
    let past = subst (λ answers. length answers ≤ c.loop-packed.packed-index) answers_are c.loop-packed-test.false in
    all_passed (HasTarget c.loop-packed.nodes.items) c.args.self.now.answers
    c.loop-packed.packed-index past c.loop-packed.invariant.so_far
