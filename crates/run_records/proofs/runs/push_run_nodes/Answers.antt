use Rattle.std.proofs.Common.{arith}
use Rattle.run_records.specs.Words.{HasRunNodes}
use Rattle.run_records.proofs.Nodes.{all_more_kept, all_passed, has_pushed, keeps_run_nodes, kept_by_push}
use Rattle.run_records.proofs.Nodes.{kept_by_same, kept_through}
use Rattle.run_records.proofs.runs.push_run_nodes.Goals as goal

pub returns-in_err-push-clause-kept : goal.returns-in_err-push-clause-kept
returns-in_err-push-clause-kept g c = kept_by_same c.args.nodes.now.items c.loop-run.nodes.items c.push.new.self.items
    c.loop-run.invariant.kept c.in_err-push.ensures.items

pub returns-in_err-push_targets-clause-kept : goal.returns-in_err-push_targets-clause-kept
returns-in_err-push_targets-clause-kept g c =
    let few = c.loop-run.nodes.items in
    let own = c.push.new.self.items in
    let many = c.push_targets.new.nodes.items in
    let kept = kept_by_push few own c.run-item.result.node c.in_ok-push.ensures.items in
    kept_through c.args.nodes.now.items few many c.loop-run.invariant.kept
    (kept_through few own many kept c.push_targets.ensures.kept)

pub loop-run-preserved : goal.loop-run-preserved
loop-run-preserved g c =
    let few = c.loop-run.nodes.items in
    let own = c.push.new.self.items in
    let many = c.push_targets.new.nodes.items in
    let node = c.run-item.result.node in
    let kept =
    kept_through few own many (kept_by_push few own node c.in_ok-push.ensures.items) c.push_targets.ensures.kept in
    record {
      kept = kept_through c.args.nodes.now.items few many c.loop-run.invariant.kept kept;
      so_far =
          all_more_kept HasRunNodes keeps_run_nodes few many c.args.runs.now c.loop-run.run-index c.run-item.result
          (omega arith) c.run-item.is kept c.loop-run.invariant.so_far (record {
            own = c.push_targets.ensures.kept node (has_pushed few own node c.in_ok-push.ensures.items);
            answers = c.in_ok-push_targets.ensures.answers;
          });
    }

pub returns-clause-runs : goal.returns-clause-runs
returns-clause-runs g c = all_passed (HasRunNodes c.loop-run.nodes.items) c.args.runs.now c.loop-run.run-index
    (omega arith) c.loop-run.invariant.so_far
