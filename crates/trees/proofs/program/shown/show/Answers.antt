use Rattle.std.proofs.Common.{◌∙◌, ap}
use Rattle.trees.specs.Below.{started_in}
use Rattle.trees.specs.Shown.{IsFresh, Tree}
use Rattle.trees.proofs.Trees.{came_recorded, came_whole, emptied}
use Rattle.trees.proofs.program.shown.show.Goals as goal

pub returns-in-Ok-clause-shown : goal.returns-in-Ok-clause-shown
returns-in-Ok-clause-shown g c =
    let call = c.evaluate_root_goal_for_proof_tree-came.ensures in
    let tree : Tree = record {
      recorder = c.evaluate_root_goal_for_proof_tree-came.new.inspect;
      came = c.evaluate_root_goal_for_proof_tree-came.result;
    } in
    let is_fresh : IsFresh c.new-recorder.result = record {
      recording = c.new-recorder.ensures.records;
      no_entries = c.new-recorder.ensures.empty;
      at_root = c.new-recorder.ensures.next;
      no_frames = ap started_in c.new-recorder.ensures.inner ∙ c.new-builder.ensures.started;
    } in
    let recorded =
    came_recorded g.D.Delegate.sees c.requires.sees c.args.goal c.new-recorder.result tree.recorder is_fresh tree.came
    call.seen in
    record {
      tree = tree;
      worked_out = record {
        fresh = c.new-recorder.result;
        is_fresh = is_fresh;
        recorded = recorded;
        whole = came_whole c.args.goal tree.recorder tree.came recorded;
        records = call.builder.same_noop;
        before = c.new-cache.result;
        is_empty = c.new-cache.ensures;
        after = c.evaluate_root_goal_for_proof_tree-came.new.cache;
        same_context = call.keeps.context;
        proof = call.yes;
        refutation = call.no;
        plain = call.plain;
        plain_faults = call.plain_faults;
        faults = call.faults;
        frames = call.frames;
        left = call.ran.0;
        ran = call.ran.1;
      };
      is_text = emptied _ _ _ c.clear.ensures.items c.in-Ok.ensures;
      met_none = c.is_ok.ensures.value;
    }
