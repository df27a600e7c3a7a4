use Rattle.std.proofs.Common.{arith, ◌+◌, ◌∙◌, ap, get_or, take, All}
use Rattle.open_goals.specs.Nodes.{HasCycleNode}
use Rattle.run_records.proofs.Nodes.{all_passed, Kept, kept_by_same, kept_through}
use Rattle.open_goals.proofs.Nodes.{cycle_passed, cycle_pushed}
use Rattle.open_goals.proofs.goals.nodes.push_cycle_nodes.Goals as goal
use Rattle.open_goals.proofs.goals.nodes.push_cycle_nodes.Goals.{in-Some+in_ok-push, in_default}

pub returns-in_err-push-clause-kept : goal.returns-in_err-push-clause-kept
returns-in_err-push-clause-kept g c = kept_by_same c.args.nodes.now.items c.loop-place.nodes.items c.push.new.self.items
    c.loop-place.invariant.kept c.in_err-push.ensures.items

pub loop-place-preserved : goal.loop-place-preserved
loop-place-preserved g c =
    let few = c.loop-place.nodes.items in
    let many = c.match-index.nodes.items in
    let stack = c.args.stack.now in
    let place = c.loop-place.place in
    let entry = c.index.result.now in
    let at = c.index.ensures ∙ ap (λ i. get_or stack i entry) c.new.ensures in
    let more : Kept few many × All (HasCycleNode many) (take (place + 1) stack) = elim c.match-index.branch [
      | in-Some+in_ok-push w ↦ cycle_pushed few many stack place entry (omega arith) at c.loop-place.invariant.so_far
          w.in-Some.node w.in-Some.is (ap (λ v. v.items) w.nodes-is ∙ w.in_ok-push.ensures.items)
      | in_default w ↦ cycle_passed few many stack place entry (omega arith) at c.loop-place.invariant.so_far
          w.in_default.is (ap (λ v. v.items) w.nodes-is)
    ] in
    record { kept = kept_through c.args.nodes.now.items few many c.loop-place.invariant.kept more.0; so_far = more.1 }

pub returns-clause-cycles : goal.returns-clause-cycles
returns-clause-cycles g c = all_passed (HasCycleNode c.loop-place.nodes.items) c.args.stack.now c.loop-place.place
    (omega arith) c.loop-place.invariant.so_far
