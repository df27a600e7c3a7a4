use Rattle.std.proofs.Common.{arith, ◌-◌, length, ◌++◌, ◌∷◌, [], ◌≤◌, Some, refl, sym, ap, subst, ◌∙◌}
use Rattle.search_ends.specs.Below.{open_node, rerun_with, change_newest, verdicts, AreFree, AreJustified}
use Rattle.search_ends.specs.Below.{runs_of, AreReady}
use Rattle.search_context.specs.Delegate.{without_newest}
use Rattle.goal_changes.specs.Frames.{frames_of}
use Rattle.graph_nodes.proofs.Finished.{KeepsFinished-nodes, KeepsFinished-then}
use Rattle.search_rules.proofs.entries.Reruns.{cleared_at, rerun_ready}
use Rattle.search_rules.proofs.moves.FinishedRuns.{earlier_taken, taken_from, taken_ends, taken_open, taken_placed}
use Rattle.search_rules.proofs.moves.FinishedRuns.{reran, reran_with_node, rerun_free, rerun_justified}
use Rattle.search_rules.proofs.moves.Frames.{reran_frames}
use Rattle.search_rules.proofs.records.EarlierNodes.{earlier_of_nodes, earlier_then, first_there, rerun_stays}
use Rattle.search_ends.proofs.rerun.run_again.Goals as goal

pub result_node-requires-clause-of_goal : goal.result_node-requires-clause-of_goal
result_node-requires-clause-of_goal g c =
    taken_open (verdicts g.D.Cx.Cx) c.args.cache.now.nodes c.args.evaluation.now.goals c.last_entry-entry.result.now
    c.last_run.result.now c.take_progress-progress.result
    (taken_from c.args.evaluation.now.goals c.take_progress-progress.new.self c.last_entry-entry.result.now
    c.last_run.result.now c.take_progress-progress.result c.take_progress-progress.ensures.left
    c.take_progress-progress.ensures.taken c.last_entry-entry.ensures c.last_run.ensures) c.requires.right.justified
    ∙ ap Some (sym c.input-input.ensures)

pub result_node-requires-clause-ends : goal.result_node-requires-clause-ends
result_node-requires-clause-ends g c = λ definite.
    taken_ends (verdicts g.D.Cx.Cx) (g.D.Delegate.script c.args.cache.now.cx) c.args.cache.now.nodes
    c.args.evaluation.now.goals c.last_entry-entry.result.now c.last_run.result.now
    c.take_progress-progress.result c.args.outcome
    (taken_from c.args.evaluation.now.goals c.take_progress-progress.new.self c.last_entry-entry.result.now
    c.last_run.result.now c.take_progress-progress.result c.take_progress-progress.ensures.left
    c.take_progress-progress.ensures.taken c.last_entry-entry.ensures c.last_run.ensures)
    c.requires.right.justified c.requires.ends

pub result_node-requires-clause-placed : goal.result_node-requires-clause-placed
result_node-requires-clause-placed g c = λ definite.
    taken_placed (verdicts g.D.Cx.Cx) c.args.cache.now.nodes c.args.evaluation.now.goals c.last_entry-entry.result.now
    c.last_run.result.now c.take_progress-progress.result
    (taken_from c.args.evaluation.now.goals c.take_progress-progress.new.self c.last_entry-entry.result.now
    c.last_run.result.now c.take_progress-progress.result c.take_progress-progress.ensures.left
    c.take_progress-progress.ensures.taken c.last_entry-entry.ensures c.last_run.ensures) c.requires.right.justified

pub returns-in_err-own_node-clause-kept : goal.returns-in_err-own_node-clause-kept
returns-in_err-own_node-clause-kept g c =
    KeepsFinished-then _ _ _ c.in_ok-result_node.ensures.kept (KeepsFinished-nodes _ _ c.open_node.ensures.kept)

pub returns-clause-kept : goal.returns-clause-kept
returns-clause-kept g c =
    KeepsFinished-then _ _ _ c.in_ok-result_node.ensures.kept (KeepsFinished-nodes _ _ c.open_node.ensures.kept)

pub returns-clause-reran : goal.returns-clause-reran
returns-clause-reran g c = record {
  reran =
      reran g.D.Delegate g.D.Cx.Cx c.args.cache.now.cx c.args.evaluation.now.goals c.take_progress-progress.new.self
      c.run_again.new.self c.last_entry-entry.result.now c.last_run.result.now c.take_progress-progress.result
      c.args.outcome _ c.in_ok-frame.frame c.in_ok-own_node.own_node
      (taken_from c.args.evaluation.now.goals c.take_progress-progress.new.self c.last_entry-entry.result.now
      c.last_run.result.now c.take_progress-progress.result c.take_progress-progress.ensures.left
      c.take_progress-progress.ensures.taken c.last_entry-entry.ensures c.last_run.ensures)
      c.take_progress-progress.ensures.left c.run_again.ensures (record {
        stood = subst (λ x. g.D.Delegate.stands c.in_ok-frame.frame x c.last_entry-entry.result.now.input [])
            (c.cx.ensures ∙ c.in_ok-result_node.ensures.same_context)
            (subst (λ i. g.D.Delegate.stands c.in_ok-frame.frame c.cx.result i [])
            c.input-input.ensures c.in_ok-frame.ensures.frame);
        within = subst (λ x. g.D.Delegate.left c.in_ok-frame.frame ≤ g.D.Delegate.width x)
            (c.cx.ensures ∙ c.in_ok-result_node.ensures.same_context) c.in_ok-frame.ensures.within;
      });
  stays =
      rerun_stays c.args.cache.now.nodes c.args.evaluation.now.goals c.take_progress-progress.new.self
      c.run_again.new.self c.args.outcome _ c.in_ok-frame.frame c.in_ok-own_node.own_node
      c.take_progress-progress.ensures.left c.run_again.ensures
      (λ first within from.
      let there = first_there first c.args.cache.now.nodes c.result_node.new.cache.nodes within
      (earlier_taken c.args.cache.now.nodes c.result_node.new.cache.nodes c.args.evaluation.now.goals
      c.last_entry-entry.result.now c.last_run.result.now c.take_progress-progress.result (taken_from
      c.args.evaluation.now.goals c.take_progress-progress.new.self c.last_entry-entry.result.now c.last_run.result.now
      c.take_progress-progress.result c.take_progress-progress.ensures.left c.take_progress-progress.ensures.taken
      c.last_entry-entry.ensures c.last_run.ensures) c.in_ok-result_node.ensures.others first within from) in
      let place = c.in_ok-own_node.ensures.node in
      omega (arith, place, there));
  cleared = cleared_at g.D.Cx.Input.PartialEq.eq c.args.evaluation.now.provisional c.clear_for_rerun.new.self
      c.new.result.0 (length c.args.evaluation.now.goals - 1)
      (c.new.ensures ∙ ap (λ n. n - 1) c.len.ensures) c.clear_for_rerun.ensures;
  results = ap (λ cache. cache.results) c.in_ok-own_node.ensures.opened ∙ c.in_ok-result_node.ensures.same_results;
  with_node =
      reran_with_node (verdicts g.D.Cx.Cx) c.args.cache.now.nodes c.result_node.new.cache.nodes
      c.open_node.new.self.nodes c.args.evaluation.now.goals c.take_progress-progress.new.self c.run_again.new.self
      c.last_entry-entry.result.now c.last_run.result.now c.take_progress-progress.result c.args.outcome
      c.in_ok-result_node.field-0 c.in_ok-frame.frame c.in_ok-own_node.own_node
      (taken_from c.args.evaluation.now.goals c.take_progress-progress.new.self c.last_entry-entry.result.now
      c.last_run.result.now c.take_progress-progress.result c.take_progress-progress.ensures.left
      c.take_progress-progress.ensures.taken c.last_entry-entry.ensures c.last_run.ensures)
      c.take_progress-progress.ensures.left (c.run_again.ensures
      ∙ ap (λ lead. change_newest (rerun_with c.args.outcome lead c.in_ok-frame.frame c.in_ok-own_node.own_node)
      c.take_progress-progress.new.self) c.or-node.ensures)
      c.in_ok-result_node.ensures.has_node c.in_ok-own_node.ensures.node
      (ap (λ cache. cache.nodes) c.in_ok-own_node.ensures.opened
      ∙ ap (λ i. c.result_node.new.cache.nodes ++ open_node i ∷ []) c.input-input.ensures);
  right = record {
    justified =
        subst (λ nodes. AreJustified (verdicts g.D.Cx.Cx) nodes (runs_of c.run_again.new.self))
        (sym (ap (λ cache. cache.nodes) c.in_ok-own_node.ensures.opened
        ∙ ap (λ i. c.result_node.new.cache.nodes ++ open_node i ∷ []) c.input-input.ensures))
        (rerun_justified (verdicts g.D.Cx.Cx) c.args.cache.now.nodes c.result_node.new.cache.nodes
        c.args.evaluation.now.goals c.take_progress-progress.new.self c.run_again.new.self c.last_entry-entry.result.now
        c.last_run.result.now c.take_progress-progress.result c.args.outcome c.in_ok-result_node.field-0
        c.in_ok-frame.frame c.in_ok-own_node.own_node
        (taken_from c.args.evaluation.now.goals c.take_progress-progress.new.self c.last_entry-entry.result.now
        c.last_run.result.now c.take_progress-progress.result c.take_progress-progress.ensures.left
        c.take_progress-progress.ensures.taken c.last_entry-entry.ensures c.last_run.ensures)
        c.take_progress-progress.ensures.left (c.run_again.ensures
        ∙ ap (λ lead. change_newest (rerun_with c.args.outcome lead c.in_ok-frame.frame c.in_ok-own_node.own_node)
        c.take_progress-progress.new.self) c.or-node.ensures)
        c.in_ok-result_node.ensures.has_node c.in_ok-own_node.ensures.node c.requires.right.justified);
    free =
        subst (AreFree (verdicts g.D.Cx.Cx) g.D.Cx.Input.PartialEq.eq
        c.open_node.new.self.nodes (runs_of c.run_again.new.self))
        (sym (ap (λ cache. cache.results) c.in_ok-own_node.ensures.opened ∙ c.in_ok-result_node.ensures.same_results))
        (subst (λ nodes. AreFree (verdicts g.D.Cx.Cx) g.D.Cx.Input.PartialEq.eq nodes (runs_of c.run_again.new.self)
        c.args.cache.now.results) (sym (ap (λ cache. cache.nodes) c.in_ok-own_node.ensures.opened
        ∙ ap (λ i. c.result_node.new.cache.nodes ++ open_node i ∷ []) c.input-input.ensures))
        (rerun_free (verdicts g.D.Cx.Cx) g.D.Cx.Input.PartialEq.eq c.args.cache.now.results c.args.cache.now.nodes
        c.result_node.new.cache.nodes c.args.evaluation.now.goals c.take_progress-progress.new.self c.run_again.new.self
        c.last_entry-entry.result.now c.last_run.result.now c.take_progress-progress.result c.args.outcome
        c.in_ok-result_node.field-0 c.in_ok-frame.frame c.in_ok-own_node.own_node
        (taken_from c.args.evaluation.now.goals c.take_progress-progress.new.self c.last_entry-entry.result.now
        c.last_run.result.now c.take_progress-progress.result c.take_progress-progress.ensures.left
        c.take_progress-progress.ensures.taken c.last_entry-entry.ensures c.last_run.ensures)
        c.take_progress-progress.ensures.left (c.run_again.ensures
        ∙ ap (λ lead. change_newest (rerun_with c.args.outcome lead c.in_ok-frame.frame c.in_ok-own_node.own_node)
        c.take_progress-progress.new.self) c.or-node.ensures) c.in_ok-result_node.ensures.has_node
        c.in_ok-own_node.ensures.node c.requires.right.justified c.requires.right.free));
    ready =
        subst (λ nodes. AreReady (verdicts g.D.Cx.Cx) g.D.Cx.Input.PartialEq.eq
        (g.D.Delegate.script c.args.cache.now.cx) nodes (runs_of c.run_again.new.self) c.clear_for_rerun.new.self)
        (sym (ap (λ cache. cache.nodes) c.in_ok-own_node.ensures.opened
        ∙ ap (λ i. c.result_node.new.cache.nodes ++ open_node i ∷ []) c.input-input.ensures))
        (rerun_ready (verdicts g.D.Cx.Cx) g.D.Cx.Input.PartialEq.eq (g.D.Delegate.script c.args.cache.now.cx)
        c.args.evaluation.now.provisional c.clear_for_rerun.new.self c.args.cache.now.nodes
        c.result_node.new.cache.nodes c.args.evaluation.now.goals c.take_progress-progress.new.self c.run_again.new.self
        c.last_entry-entry.result.now c.last_run.result.now c.take_progress-progress.result c.args.outcome
        c.in_ok-result_node.field-0 c.in_ok-frame.frame c.in_ok-own_node.own_node
        (taken_from c.args.evaluation.now.goals c.take_progress-progress.new.self c.last_entry-entry.result.now
        c.last_run.result.now c.take_progress-progress.result c.take_progress-progress.ensures.left
        c.take_progress-progress.ensures.taken c.last_entry-entry.ensures c.last_run.ensures)
        c.take_progress-progress.ensures.left (c.run_again.ensures
        ∙ ap (λ lead. change_newest (rerun_with c.args.outcome lead c.in_ok-frame.frame c.in_ok-own_node.own_node)
        c.take_progress-progress.new.self) c.or-node.ensures)
        c.in_ok-result_node.ensures.has_node c.in_ok-own_node.ensures.node c.requires.right.justified
        (cleared_at g.D.Cx.Input.PartialEq.eq c.args.evaluation.now.provisional c.clear_for_rerun.new.self
        c.new.result.0 (length c.args.evaluation.now.goals - 1) (c.new.ensures ∙ ap (λ n. n - 1) c.len.ensures)
        c.clear_for_rerun.ensures) c.requires.right.ready);
  };
}

pub returns-in_err-result_node-clause-earlier : goal.returns-in_err-result_node-clause-earlier
returns-in_err-result_node-clause-earlier g c =
    earlier_taken c.args.cache.now.nodes c.result_node.new.cache.nodes c.args.evaluation.now.goals
    c.last_entry-entry.result.now c.last_run.result.now c.take_progress-progress.result
    (taken_from c.args.evaluation.now.goals c.take_progress-progress.new.self c.last_entry-entry.result.now
    c.last_run.result.now c.take_progress-progress.result c.take_progress-progress.ensures.left
    c.take_progress-progress.ensures.taken c.last_entry-entry.ensures c.last_run.ensures) c.result_node.ensures.others

pub returns-in_err-frame-clause-earlier : goal.returns-in_err-frame-clause-earlier
returns-in_err-frame-clause-earlier g c =
    earlier_taken c.args.cache.now.nodes c.result_node.new.cache.nodes c.args.evaluation.now.goals
    c.last_entry-entry.result.now c.last_run.result.now c.take_progress-progress.result
    (taken_from c.args.evaluation.now.goals c.take_progress-progress.new.self c.last_entry-entry.result.now
    c.last_run.result.now c.take_progress-progress.result c.take_progress-progress.ensures.left
    c.take_progress-progress.ensures.taken c.last_entry-entry.ensures c.last_run.ensures)
    c.in_ok-result_node.ensures.others

pub returns-in_err-own_node-clause-earlier : goal.returns-in_err-own_node-clause-earlier
returns-in_err-own_node-clause-earlier g c =
    earlier_then c.args.evaluation.now.goals c.args.cache.now.nodes
    c.result_node.new.cache.nodes c.open_node.new.self.nodes
    (earlier_taken c.args.cache.now.nodes c.result_node.new.cache.nodes c.args.evaluation.now.goals
    c.last_entry-entry.result.now c.last_run.result.now c.take_progress-progress.result
    (taken_from c.args.evaluation.now.goals c.take_progress-progress.new.self c.last_entry-entry.result.now
    c.last_run.result.now c.take_progress-progress.result c.take_progress-progress.ensures.left
    c.take_progress-progress.ensures.taken c.last_entry-entry.ensures c.last_run.ensures)
    c.in_ok-result_node.ensures.others)
    (earlier_of_nodes c.args.evaluation.now.goals c.result_node.new.cache.nodes
    c.open_node.new.self.nodes c.open_node.ensures.kept)

pub returns-clause-earlier : goal.returns-clause-earlier
returns-clause-earlier g c =
    earlier_then c.args.evaluation.now.goals c.args.cache.now.nodes
    c.result_node.new.cache.nodes c.open_node.new.self.nodes
    (earlier_taken c.args.cache.now.nodes c.result_node.new.cache.nodes c.args.evaluation.now.goals
    c.last_entry-entry.result.now c.last_run.result.now c.take_progress-progress.result
    (taken_from c.args.evaluation.now.goals c.take_progress-progress.new.self c.last_entry-entry.result.now
    c.last_run.result.now c.take_progress-progress.result c.take_progress-progress.ensures.left
    c.take_progress-progress.ensures.taken c.last_entry-entry.ensures c.last_run.ensures)
    c.in_ok-result_node.ensures.others)
    (earlier_of_nodes c.args.evaluation.now.goals c.result_node.new.cache.nodes
    c.open_node.new.self.nodes c.open_node.ensures.kept)

pub returns-clause-seen : goal.returns-clause-seen
returns-clause-seen g c = record {
  at = λ root seen.
      subst (λ l. g.D.Delegate.sees c.start.new.inspect root (Some l))
      (reran_frames c.args.outcome _ c.in_ok-frame.frame c.in_ok-own_node.own_node c.args.evaluation.now.goals
      c.take_progress-progress.new.self c.run_again.new.self c.requires.some c.take_progress-progress.ensures.left
      c.run_again.ensures)
      (c.in_ok-frame.ensures.seen c.in_ok-frame.frame refl root
      (Some (without_newest (frames_of c.args.evaluation.now.goals))) seen (λ none. absurd cc));
}
