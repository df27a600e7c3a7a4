use Rattle.std.proofs.Common.{refl, subst, sym}
use Rattle.search_state.specs.Drafts.{HasNoDrafts}
use Rattle.search_graph.proofs.called.Calling.{run_is_grounded, run_keeps, run_names_none, run_proves, run_refutes}
use Rattle.search_graph.proofs.called.Limits.{run_fails_plainly, run_is_plain, run_is_within}
use Rattle.search_graph.specs.Called.{WasWorkedOut}
use Rattle.search_graph.proofs.graph.SearchGraph.evaluate_root_goal_for_proof_tree.Goals as goal

pub returns-clause-ran : goal.returns-clause-ran
returns-clause-ran g c =
    let after = c.work_out-answer.new.evaluation in (
      record { root_depth = c.args.root_depth; limits_met = after.limits_met },
      record {
        laws = c.keeps_laws.ensures;
        fits = c.new-evaluation.ensures.fits;
        was_sound = c.is_sound.ensures;
        is_sound = c.is_sound-2.ensures;
        at_least = c.work_out-answer.ensures.builder.at_least;
        same_depth = refl;
        drafts = c.new-drafts.result;
        left = after;
        at_outset = record {
          new = record { no_goals = refl; no_scopes = refl; no_entries = refl; fits = c.new-evaluation.ensures.fits };
          no_drafts = c.new-drafts.ensures;
        };
        evaluated =
            WasWorkedOut c.work_out-answer.result c.work_out-answer.new.cache after
            (g.D.Delegate.starts c.work_out-answer.new.inspect) refl
            (record { recorded = λ records. refl; expected = record { expected = tt; plain = λ n plain fits. tt } })
            (rw c.new-evaluation.ensures.begins at c.work_out-answer.ensures.ran);
      },
    )

-- ---- what follows

pub returns-clause-yes : goal.returns-clause-yes
returns-clause-yes g c = run_proves (returns-clause-ran g c).1

pub returns-clause-no : goal.returns-clause-no
returns-clause-no g c = run_refutes (returns-clause-ran g c).1

pub returns-clause-neither : goal.returns-clause-neither
returns-clause-neither g c = run_names_none (returns-clause-ran g c).1

pub returns-clause-has_graph : goal.returns-clause-has_graph
returns-clause-has_graph g c = (run_is_grounded (returns-clause-ran g c).1).has_graph

pub returns-clause-plain : goal.returns-clause-plain
returns-clause-plain g c = run_is_plain (returns-clause-ran g c).1

pub returns-clause-plain_faults : goal.returns-clause-plain_faults
returns-clause-plain_faults g c = run_fails_plainly (returns-clause-ran g c).1

pub returns-clause-faults : goal.returns-clause-faults
returns-clause-faults g c = (run_is_grounded (returns-clause-ran g c).1).caused

pub returns-clause-frames : goal.returns-clause-frames
returns-clause-frames g c = run_is_within (returns-clause-ran g c).1

pub returns-clause-keeps : goal.returns-clause-keeps
returns-clause-keeps g c = run_keeps (returns-clause-ran g c).1

pub work_out-answer-requires-clause-outset : goal.work_out-answer-requires-clause-outset
work_out-answer-requires-clause-outset g c = record {
  new = rw c.new-evaluation.ensures.begins
      (record { no_goals = refl; no_scopes = refl; no_entries = refl; fits = c.new-evaluation.ensures.fits });
  no_drafts = subst (λ e. HasNoDrafts c.args.cache.now.nodes e.drafts)
      (sym c.new-evaluation.ensures.begins) c.new-drafts.ensures;
}

pub work_out-answer-requires-clause-in_scope : goal.work_out-answer-requires-clause-in_scope
work_out-answer-requires-clause-in_scope g c = refl

pub work_out-answer-requires-clause-fated : goal.work_out-answer-requires-clause-fated
work_out-answer-requires-clause-fated g c =
    record { recorded = λ records. refl; expected = record { expected = tt; plain = λ n plain fits. tt } }

pub returns-clause-seen : goal.returns-clause-seen
returns-clause-seen g c = c.work_out-answer.ensures.seen
