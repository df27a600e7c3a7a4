use Rattle.std.proofs.Common.{◌-◌, ◌∙◌, ◌+◌, ◌<◌, ◌^◌, ◌||◌, false, [], Some, None, ap, sym, arith, length-set}
use Rattle.search_stack.proofs.LastState.{length-change_last}
use Rattle.goal_changes.specs.Words.{rerun_under, rerun_with}
use Rattle.open_goals.proofs.Changes.{some_entries, some_runs, if_newest, newest_run, both_changed}
use Rattle.open_goals.proofs.goals.OpenGoals.run_again.Goals as goal

pub last_mut-state-requires : goal.last_mut-state-requires
last_mut-state-requires g c = record {
  some = some_entries c.self.inside.stack c.self.inside.runs.items _ c.self.invariant c.self.view_is c.requires.some;
}

pub overflow_sub-last : goal.overflow_sub-last
overflow_sub-last g c = omega (
  arith,
  c.len-last.ensures,
  some_runs c.self.inside.stack c.self.inside.runs.items _ c.self.invariant c.self.view_is c.requires.some,
)

pub index_mut-run-requires : goal.index_mut-run-requires
index_mut-run-requires g c = omega (
  arith,
  c.len-last.ensures,
  some_runs c.self.inside.stack c.self.inside.runs.items _ c.self.invariant c.self.view_is c.requires.some,
)

pub overflow_add-run : goal.overflow_add-run
overflow_add-run g c =
    let fits : c.index_mut-run.result.now.finished_runs + 1 < 2 ^ 64 = if_newest _ (λ s. s.1.finished_runs)
    (λ n. n + 1 < 2 ^ 64) _ c.requires.fits (newest_run c.self.inside.stack c.self.inside.runs.items _ c.self.invariant
    c.self.view_is c.requires.some (λ r. r.finished_runs) (c.len-last.result - 1) c.index_mut-run.result.now
    (omega (arith, c.len-last.ensures)) c.index_mut-run.ensures.value) in
    omega (arith, fits)

pub invariant_of-self : goal.invariant_of-self
invariant_of-self g c =
    length-change_last _ _ ∙ c.self.invariant ∙ sym (length-set c.self.inside.runs.items (c.len-last.result - 1) _)

pub returns : goal.returns
returns g c = both_changed c.self.inside.stack c.self.inside.runs.items _ c.self.invariant c.self.view_is
    c.requires.some c.last_mut-state.result.now _ (c.len-last.result - 1) c.index_mut-run.result.now _
    (rerun_with c.args.provisional_result c.args.node c.args.frame c.args.own_node) c.last_mut-state.ensures.value
    (omega (arith, c.len-last.ensures)) c.index_mut-run.ensures.value
    (λ e was.
    ap (λ l. (
      record e {
        state = record c.last_mut-state.result.now {
          provisional_result = Some c.args.provisional_result;
          encountered_overflow = false;
          usages = Some c.default.result;
          candidate_usages = None;
          node = c.args.node;
        };
      },
      record c.index_mut-run.result.now {
        frame = c.args.frame;
        node = c.args.own_node;
        finished_runs = c.index_mut-run.result.now.finished_runs + 1;
        met_overflow_before =
            c.index_mut-run.result.now.met_overflow_before || c.last_mut-state.result.now.encountered_overflow;
        candidates = l;
      },
    )) c.keep_usages.ensures
    ∙ ap (λ u. (
      record e {
        state = record c.last_mut-state.result.now {
          provisional_result = Some c.args.provisional_result;
          encountered_overflow = false;
          usages = Some u;
          candidate_usages = None;
          node = c.args.node;
        };
      },
      record c.index_mut-run.result.now {
        frame = c.args.frame;
        node = c.args.own_node;
        finished_runs = c.index_mut-run.result.now.finished_runs + 1;
        met_overflow_before =
            c.index_mut-run.result.now.met_overflow_before || c.last_mut-state.result.now.encountered_overflow;
        candidates = [];
      },
    )) (λ i. record {
      inductive = c.default.ensures.0 i;
      unknown = c.default.ensures.1.0 i;
      coinductive = c.default.ensures.1.1.0 i;
      forced_ambiguity = c.default.ensures.1.1.1 i;
    })
    ∙ ap (λ s. (
      record e { state = rerun_under c.args.provisional_result c.args.node s },
      record c.index_mut-run.result.now {
        frame = c.args.frame;
        node = c.args.own_node;
        finished_runs = c.index_mut-run.result.now.finished_runs + 1;
        met_overflow_before = c.index_mut-run.result.now.met_overflow_before || s.encountered_overflow;
        candidates = [];
      },
    )) (sym was))
