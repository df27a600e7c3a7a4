use Rattle.std.proofs.Common.{List, Ok, Some, [], ◌∷◌, length, map, reverse, option_map, is_some, All, ◌≡◌, ◌<◌, ◌≤◌}
use Rattle.std.proofs.Common.{refl, sym, ap, subst, ◌∙◌}
use Rattle.std.specs.Option.{IfSome}
use Rattle.search_ends.specs.Below.{ChangesNewest, newest, fates_of, HaveExpected, IfCompared, IsExpected, IsPlainValue}
use Rattle.search_ends.specs.Below.{highest, StackEntry, ProvisionalCacheEntry, entries_at, EvaluationResult, HasGraph}
use Rattle.search_ends.specs.Below.{place_of, KeepsResults, IsPlainAt, KeepsFinished, IsPlainTo, verdicts, AreJustified}
use Rattle.search_ends.specs.Below.{HaveTallies, AreReady, HasReason, IsNewestUnranked, RebasesNewest, final_answer}
use Rattle.search_ends.specs.Below.{AreFree, ComesTo, IsNewestPlainTo, IsNewestStored, IsStored, NewestComesTo}
use Rattle.search_ends.specs.Below.{NewestIsPlain, StoresAnswer, StoresNewest, GivesAnswer, GivesNested, LeavesNested}
use Rattle.search_ends.specs.Below.{runs_of, IsJustifiedNext, HasNewestNode, HasResultNode, KeepsBut, node_given}
use Rattle.search_ends.specs.Popped.{IsNewestCompared}
use Rattle.search_ends.specs.Words.{Fails, NewestFailsToStore, Pops}
use Rattle.global_cache.proofs.Stores.{KeepsResults-same}
use Rattle.search_ends.proofs.results.Given.{heads_given, puts_given, storable_given, stores_given}
use Rattle.search_ends.proofs.results.Failing.{fails_after, memory_fails, newest_fails_to_store, newest_wants_memory}
use Rattle.between_moves.proofs.Keeping.{ending_keeps}
use Rattle.search_ends.proofs.results.Notes.{notes_after, notes_err, notes_ok, notes_same}
use Rattle.search_rules.proofs.entries.Ready.{are_within, heads_on_stack, on_stack_many}
use Rattle.search_rules.proofs.entries.Pops.{rebased_ready}
use Rattle.search_rules.proofs.rebasing.Lists.{entries_rebased, highest_stays}
use Rattle.search_rules.proofs.moves.DoneGoals.{given_free, given_justified, given_leaves, gives_node, newest_stored}
use Rattle.lean_runs.proofs.Verdicts.{neither_is}
use Rattle.search_rules.proofs.justified.Finishing.{rebases}
use Rattle.search_rules.proofs.moves.Questions.{if_err_and}
use Rattle.search_rules.proofs.moves.FinishedRuns.{headless_graph, taken_run_ends, taken_run_open, taken_run_placed}
use Rattle.run_records.specs.declared.runs.Fate.TheVariants as becomes
use Rattle.search_rules.proofs.moves.Fates.{newest_changes}
use Rattle.search_rules.specs.Fates.{is_compared, Untouched}
use Rattle.search_ends.proofs.pop.pop_goal.Goals as goal

pub result_node-requires-clause-of_goal : goal.result_node-requires-clause-of_goal
result_node-requires-clause-of_goal g c =
    taken_run_open (verdicts g.D.Cx.Cx) c.args.cache.now.nodes c.args.cache.now.nodes c.args.evaluation.now.goals
    c.pop-entry.result.entry c.pop-entry.result.run c.pop-entry.new.self
    c.pop-entry.ensures c.requires.may.right.justified
    ∙ ap Some (sym c.input-input.ensures)

pub result_node-requires-clause-ends : goal.result_node-requires-clause-ends
result_node-requires-clause-ends g c = λ definite.
    taken_run_ends (verdicts g.D.Cx.Cx) c.args.cache.now.nodes c.args.cache.now.nodes c.args.evaluation.now.goals
    c.pop-entry.result.entry c.pop-entry.result.run c.pop-entry.new.self c.pop-entry.ensures
    (g.D.Delegate.script c.args.cache.now.cx) c.args.outcome c.requires.may.right.justified c.requires.may.ends definite

pub result_node-requires-clause-placed : goal.result_node-requires-clause-placed
result_node-requires-clause-placed g c = λ definite.
    taken_run_placed (verdicts g.D.Cx.Cx) c.args.cache.now.nodes c.args.cache.now.nodes c.args.evaluation.now.goals
    c.pop-entry.result.entry c.pop-entry.result.run c.pop-entry.new.self
    c.pop-entry.ensures c.requires.may.right.justified

-- ---- the goal's own scope is there

pub release_scope-scope-requires-clause-held : goal.release_scope-scope-requires-clause-held
release_scope-scope-requires-clause-held g c = c.requires.held

pub store_answer-requires-clause-in_scope : goal.store_answer-requires-clause-in_scope
store_answer-requires-clause-in_scope g c =
    let both : Some (is_compared c.pop-entry.result.run.fate) ≡ Some (is_some c.release_scope-scope.result) =
    subst (λ l. option_map (λ s. is_compared s.1.fate) (newest l) ≡ Some (is_some c.release_scope-scope.result))
    c.pop-entry.ensures c.release_scope-scope.ensures.own in
    let one : is_compared c.pop-entry.result.run.fate ≡ is_some c.release_scope-scope.result = cc in
    c.as_ref-held.ensures.variant ∙ sym one

-- ---- the heads of the entry and of the entries are on the stack

pub rebase_entries-requires-clause-on_stack : goal.rebase_entries-requires-clause-on_stack
rebase_entries-requires-clause-on_stack g c = subst (λ (stack : List (StackEntry _ _ _ _ _)).
    All (λ head. head.0.0 < length stack) c.pop-entry.result.entry.state.heads) (sym c.stack-stack.ensures)
    (heads_on_stack (c.pop-entry.result.entry, c.pop-entry.result.run) c.pop-entry.new.self
    (subst (λ l. HaveTallies (runs_of l)) c.pop-entry.ensures c.requires.may.right.justified.tallies))

pub rebase_entries-requires-clause-within : goal.rebase_entries-requires-clause-within
rebase_entries-requires-clause-within g c = λ input.
    subst (λ (stack : List (StackEntry _ _ _ _ _)).
    All (λ (entry : ProvisionalCacheEntry _ _ _ _ _). All (λ head. head.0.0 ≤ length stack) entry.heads)
    (entries_at g.D.Cx.Input.PartialEq.eq c.args.evaluation.now.provisional input)) (sym c.stack-stack.ensures)
    (are_within (verdicts g.D.Cx.Cx) g.D.Cx.Input.PartialEq.eq (g.D.Delegate.script c.args.cache.now.cx)
    c.args.cache.now.nodes c.args.evaluation.now.provisional
    (c.pop-entry.result.entry, c.pop-entry.result.run) c.pop-entry.new.self
    (subst (λ l. HaveTallies (runs_of l)) c.pop-entry.ensures c.requires.may.right.justified.tallies)
    (subst (λ l. AreReady (verdicts g.D.Cx.Cx) g.D.Cx.Input.PartialEq.eq (g.D.Delegate.script c.args.cache.now.cx)
    c.args.cache.now.nodes (runs_of l) c.args.evaluation.now.provisional)
    c.pop-entry.ensures c.requires.may.right.ready) input)

-- ---- the answer may be stored, and what it is compared with is stored

pub store_answer-requires-clause-may : goal.store_answer-requires-clause-may
store_answer-requires-clause-may g c = record {
  storable =
      storable_given g.D.Delegate g.D.Cx.Cx c.finalize-answer.result c.give_answer.new.answer c.give_answer.ensures.left
      c.result_node.new.cache c.input-input.result (record {
        graph =
            subst (λ (a : EvaluationResult _ _ _ _ _). a.heads ≡ []
            → HasGraph (verdicts g.D.Cx.Cx) c.result_node.new.cache.nodes c.input-input.result a.result a.node)
            (sym c.finalize-answer.ensures)
            (λ none.
            subst (λ i. HasGraph (verdicts g.D.Cx.Cx) c.result_node.new.cache.nodes i c.args.outcome c.in_ok-node.node)
            (sym c.input-input.ensures)
            (headless_graph (verdicts g.D.Cx.Cx) c.args.cache.now.nodes c.result_node.new.cache.nodes
            c.args.evaluation.now.goals c.pop-entry.result.entry c.pop-entry.result.run c.pop-entry.new.self
            c.pop-entry.ensures c.args.outcome c.in_ok-node.node c.requires.may.right.justified
            c.in_ok-node.ensures.has_node none));
        plain =
            subst (λ (a : EvaluationResult _ _ _ _ _). IsPlainAt (g.D.Delegate.script c.result_node.new.cache.cx)
            c.input-input.result (place_of a) a.result) (sym c.finalize-answer.ensures)
            (subst (λ i. IsPlainAt (g.D.Delegate.script c.result_node.new.cache.cx) i (place_of (final_answer (
              c.pop-entry.result.entry,
              c.pop-entry.result.run,
            ) c.args.outcome c.in_ok-node.node)) c.args.outcome) (sym c.input-input.ensures)
            (subst (λ x. IsPlainAt (g.D.Delegate.script x) c.pop-entry.result.entry.input (place_of (final_answer (
              c.pop-entry.result.entry,
              c.pop-entry.result.run,
            ) c.args.outcome c.in_ok-node.node)) c.args.outcome) (sym c.in_ok-node.ensures.same_context)
            (subst (λ l. NewestIsPlain (g.D.Delegate.script c.args.cache.now.cx) l c.args.outcome)
            c.pop-entry.ensures c.requires.may.plain)));
        comes =
            subst (λ (a : EvaluationResult _ _ _ _ _). ComesTo (g.D.Delegate.script c.result_node.new.cache.cx)
            (g.D.Delegate.fixpoint_overflow c.result_node.new.cache.cx) c.input-input.result a.result)
            (sym c.finalize-answer.ensures)
            (subst (λ i. ComesTo (g.D.Delegate.script c.result_node.new.cache.cx)
            (g.D.Delegate.fixpoint_overflow c.result_node.new.cache.cx) i c.args.outcome) (sym c.input-input.ensures)
            (subst (λ x. ComesTo (g.D.Delegate.script x) (g.D.Delegate.fixpoint_overflow x)
            c.pop-entry.result.entry.input c.args.outcome) (sym c.in_ok-node.ensures.same_context)
            (subst (λ l. NewestComesTo (g.D.Delegate.script c.args.cache.now.cx)
            (g.D.Delegate.fixpoint_overflow c.args.cache.now.cx) l c.args.outcome)
            c.pop-entry.ensures c.requires.may.comes)));
      });
  expected =
      subst (λ x. IfCompared c.pop-entry.result.run.fate (IsExpected (g.D.Delegate.scoped x) g.D.Cx.Input.PartialEq.eq
      c.result_node.new.cache.results c.input-input.result)) (sym c.in_ok-node.ensures.same_context)
      (subst (λ results. IfCompared c.pop-entry.result.run.fate
      (IsExpected (g.D.Delegate.scoped c.args.cache.now.cx) g.D.Cx.Input.PartialEq.eq results c.input-input.result))
      (sym c.in_ok-node.ensures.same_results)
      (subst (λ i. IfCompared c.pop-entry.result.run.fate
      (IsExpected (g.D.Delegate.scoped c.args.cache.now.cx) g.D.Cx.Input.PartialEq.eq c.args.cache.now.results i))
      (sym c.input-input.ensures)
      (subst (λ l. HaveExpected (g.D.Delegate.scoped c.args.cache.now.cx) (g.D.Delegate.script c.args.cache.now.cx)
      g.D.Cx.Input.PartialEq.eq c.args.cache.now.results (fates_of l))
      c.pop-entry.ensures c.requires.expected).0.expected));
}

pub store_answer-requires-clause-on_stack : goal.store_answer-requires-clause-on_stack
store_answer-requires-clause-on_stack g c =
    subst (λ n. IfSome (highest c.give_answer.new.answer.heads) (λ head. head.0.0 < n))
    (on_stack_many c.give_answer.new.goals)
    (subst (λ heads.
    IfSome (highest heads) (λ head. head.0.0 < length (reverse (map (λ s. s.0) c.give_answer.new.goals))))
    (sym (heads_given c.finalize-answer.result c.give_answer.new.answer c.give_answer.ensures.left
    ∙ ap (λ (a : EvaluationResult _ _ _ _ _). a.heads) c.finalize-answer.ensures))
    (highest_stays c.pop-entry.result.entry.step_kind_from_parent
    (final_answer (c.pop-entry.result.entry, c.pop-entry.result.run) c.args.outcome c.in_ok-node.node)
    c.pop-entry.new.self c.give_answer.new.goals c.in_ok-next.next
    (subst (λ step.
    GivesAnswer step (final_answer (c.pop-entry.result.entry, c.pop-entry.result.run) c.args.outcome c.in_ok-node.node)
    c.pop-entry.new.self c.in_ok-next.next c.give_answer.new.goals) c.step_kind_from_parent-step.ensures
    (subst (λ (a : EvaluationResult _ _ _ _ _).
    GivesAnswer c.step_kind_from_parent-step.result a c.pop-entry.new.self c.in_ok-next.next c.give_answer.new.goals)
    c.finalize-answer.ensures c.in_ok-next.ensures.given))
    c.pop-entry.result.entry.state.heads
    (heads_on_stack (c.pop-entry.result.entry, c.pop-entry.result.run) c.pop-entry.new.self
    (subst (λ l. HaveTallies (runs_of l)) c.pop-entry.ensures c.requires.may.right.justified.tallies))))

-- ---- the answer could not be given or stored

pub returns-in_err-next-clause-plain : goal.returns-in_err-next-clause-plain
returns-in_err-next-clause-plain g c =
    λ n plain. if_err_and c.from_residual-in_err-next.result _ _ c.from_residual-in_err-next.ensures.1 (λ e is. is)

pub returns-in_err-node-clause-fails : goal.returns-in_err-node-clause-fails
returns-in_err-node-clause-fails g c = memory_fails g.D.Delegate g.D.Cx.Cx g.D.Cx.Input.PartialEq.eq c.args.outcome
    c.args.cache.now c.result_node.new.cache c.args.evaluation.now.drafts c.from_residual.result
    c.from_residual.ensures.1 c.result_node.ensures.same_results

pub returns-in_err-rebase_entries-clause-fails : goal.returns-in_err-rebase_entries-clause-fails
returns-in_err-rebase_entries-clause-fails g c =
    memory_fails g.D.Delegate g.D.Cx.Cx g.D.Cx.Input.PartialEq.eq c.args.outcome c.args.cache.now
    c.result_node.new.cache c.args.evaluation.now.drafts c.from_residual-in_err-rebase_entries.result
    c.from_residual-in_err-rebase_entries.ensures.1 c.result_node.ensures.same_results

pub returns-in_err-next-clause-fails : goal.returns-in_err-next-clause-fails
returns-in_err-next-clause-fails g c = memory_fails g.D.Delegate g.D.Cx.Cx g.D.Cx.Input.PartialEq.eq c.args.outcome
    c.args.cache.now c.result_node.new.cache c.args.evaluation.now.drafts c.from_residual-in_err-next.result
    c.from_residual-in_err-next.ensures.1 c.result_node.ensures.same_results

pub returns-in_err-store_answer-clause-fails : goal.returns-in_err-store_answer-clause-fails
returns-in_err-store_answer-clause-fails g c =
    if_err_and c.from_residual-in_err-store_answer.result _ _ c.from_residual-in_err-store_answer.ensures.1
    (λ e is.
    subst (Fails g.D.Delegate g.D.Cx.Cx g.D.Cx.Input.PartialEq.eq c.args.outcome c.args.cache.now
    c.store_answer.new.cache c.store_answer.new.evaluation.drafts) (sym is)
    (fails_after g.D.Delegate g.D.Cx.Cx g.D.Cx.Input.PartialEq.eq c.args.outcome c.args.cache.now
    c.store_answer.new.cache c.store_answer.new.evaluation.drafts
    c.result_node.new.cache c.give_answer.new.answer.result _
    (ap (λ (a : EvaluationResult _ _ _ _ _). a.result) c.give_answer.ensures.left.others
    ∙ ap (λ (a : EvaluationResult _ _ _ _ _). a.result) c.finalize-answer.ensures) c.result_node.ensures.same_results
    c.in_err-store_answer.ensures.fails))

-- whose fault it is

pub returns-in_err-node-clause-whose : goal.returns-in_err-node-clause-whose
returns-in_err-node-clause-whose g c = newest_wants_memory g.D.Cx.Input.PartialEq.eq c.args.cache.now.results
    c.from_residual.result c.pop-entry.ensures c.from_residual.ensures.1

pub returns-in_err-rebase_entries-clause-whose : goal.returns-in_err-rebase_entries-clause-whose
returns-in_err-rebase_entries-clause-whose g c = newest_wants_memory g.D.Cx.Input.PartialEq.eq c.args.cache.now.results
    c.from_residual-in_err-rebase_entries.result c.pop-entry.ensures c.from_residual-in_err-rebase_entries.ensures.1

pub returns-in_err-next-clause-whose : goal.returns-in_err-next-clause-whose
returns-in_err-next-clause-whose g c = newest_wants_memory g.D.Cx.Input.PartialEq.eq c.args.cache.now.results
    c.from_residual-in_err-next.result c.pop-entry.ensures c.from_residual-in_err-next.ensures.1

pub returns-in_err-store_answer-clause-whose : goal.returns-in_err-store_answer-clause-whose
returns-in_err-store_answer-clause-whose g c =
    if_err_and c.from_residual-in_err-store_answer.result _ _ c.from_residual-in_err-store_answer.ensures.1
    (λ e is.
    subst (NewestFailsToStore g.D.Cx.Input.PartialEq.eq c.args.cache.now.results c.args.evaluation.now.goals) (sym is)
    (newest_fails_to_store g.D.Cx.Input.PartialEq.eq _ c.pop-entry.ensures
    c.result_node.ensures.same_results c.input-input.ensures
    (ap (λ (a : EvaluationResult _ _ _ _ _). place_of a) c.give_answer.ensures.left.others
    ∙ ap (λ (a : EvaluationResult _ _ _ _ _). place_of a) c.finalize-answer.ensures)
    c.in_err-store_answer.ensures.whose))

pub returns-in_err-store_answer-clause-stored : goal.returns-in_err-store_answer-clause-stored
returns-in_err-store_answer-clause-stored g c = newest_stored (verdicts g.D.Cx.Cx) c.args.cache.now.nodes
    c.result_node.new.cache.nodes c.args.evaluation.now.goals c.pop-entry.result.entry c.pop-entry.result.run
    c.pop-entry.new.self c.pop-entry.ensures c.args.outcome c.in_ok-node.node c.requires.may.right.justified
    c.in_ok-node.ensures.has_node g.D.Cx.Input.PartialEq.eq c.args.cache.now.results c.store_answer.new.cache.results
    (subst (λ before.
    StoresAnswer g.D.Cx.Input.PartialEq.eq before c.store_answer.new.cache.results c.pop-entry.result.entry.input
    (final_answer (c.pop-entry.result.entry, c.pop-entry.result.run) c.args.outcome c.in_ok-node.node))
    c.in_ok-node.ensures.same_results
    (subst (λ i. StoresAnswer g.D.Cx.Input.PartialEq.eq c.result_node.new.cache.results c.store_answer.new.cache.results
    i (final_answer (c.pop-entry.result.entry, c.pop-entry.result.run) c.args.outcome c.in_ok-node.node))
    c.input-input.ensures
    (subst (λ (a : EvaluationResult _ _ _ _ _). StoresAnswer g.D.Cx.Input.PartialEq.eq c.result_node.new.cache.results
    c.store_answer.new.cache.results c.input-input.result a) c.finalize-answer.ensures
    (puts_given c.finalize-answer.result c.give_answer.new.answer c.give_answer.ensures.left g.D.Cx.Input.PartialEq.eq
    c.input-input.result c.pop-entry.result.run.fate c.result_node.new.cache c.store_answer.new.cache
    c.store_answer.ensures.puts).stored)))

pub returns-in_err-store_answer-clause-plain : goal.returns-in_err-store_answer-clause-plain
returns-in_err-store_answer-clause-plain g c = λ n plain.
    let here : IsNewestPlainTo (g.D.Delegate.script c.args.cache.now.cx) n
    ((c.pop-entry.result.entry, c.pop-entry.result.run) ∷ c.pop-entry.new.self) =
    subst (IsNewestPlainTo (g.D.Delegate.script c.args.cache.now.cx) n) c.pop-entry.ensures plain in
    if_err_and c.from_residual-in_err-store_answer.result _ _ c.from_residual-in_err-store_answer.ensures.1
    (λ e is. is ∙ c.in_err-store_answer.ensures.plain n
    (subst (λ x. IsPlainTo (g.D.Delegate.script x) n c.input-input.result) (sym c.in_ok-node.ensures.same_context)
    (subst (IsPlainTo (g.D.Delegate.script c.args.cache.now.cx) n) (sym c.input-input.ensures) here.0))
    (ap (λ (a : EvaluationResult _ _ _ _ _). place_of a) c.give_answer.ensures.left.others
    ∙ ap (λ (a : EvaluationResult _ _ _ _ _). place_of a) c.finalize-answer.ensures ∙ here.1)
    (subst (λ x. IfCompared c.pop-entry.result.run.fate (IsPlainValue (g.D.Delegate.script x) n c.input-input.result))
    (sym c.in_ok-node.ensures.same_context)
    (subst (λ i. IfCompared c.pop-entry.result.run.fate (IsPlainValue (g.D.Delegate.script c.args.cache.now.cx) n i))
    (sym c.input-input.ensures)
    ((subst (λ l. HaveExpected (g.D.Delegate.scoped c.args.cache.now.cx) (g.D.Delegate.script c.args.cache.now.cx)
    g.D.Cx.Input.PartialEq.eq c.args.cache.now.results (fates_of l))
    c.pop-entry.ensures c.requires.expected).0.plain n here.0 here.2))))

pub returns-in_err-store_answer-clause-cache : goal.returns-in_err-store_answer-clause-cache
returns-in_err-store_answer-clause-cache g c = record {
  keeps =
      ending_keeps g.D.Cx.Input.PartialEq.eq c.args.evaluation.now.goals c.args.cache.now c.store_answer.new.cache
      (c.pop-entry.result.entry, c.pop-entry.result.run) c.pop-entry.new.self c.pop-entry.ensures
      (ap (λ cache. cache.cx) c.store_answer.ensures.puts.cache.rest ∙ c.in_ok-node.ensures.same_context)
      (subst (λ before. KeepsResults g.D.Cx.Input.PartialEq.eq before c.store_answer.new.cache.results)
      c.in_ok-node.ensures.same_results c.store_answer.ensures.puts.cache.kept)
      (subst (KeepsFinished c.args.cache.now.nodes)
      (sym (ap (λ cache. cache.nodes) c.store_answer.ensures.puts.cache.rest)) c.in_ok-node.ensures.kept)
      (subst (KeepsBut c.pop-entry.result.run.node.0 c.args.cache.now.nodes)
      (sym (ap (λ cache. cache.nodes) c.store_answer.ensures.puts.cache.rest)) c.in_ok-node.ensures.others);
  changes =
      subst (λ l. ChangesNewest g.D.Cx.Input.PartialEq.eq (fates_of l) c.args.cache.now.results
      c.store_answer.new.cache.results) (sym c.pop-entry.ensures)
      (newest_changes g.D.Cx.Input.PartialEq.eq (record {
        goal = c.pop-entry.result.entry.input;
        depth = c.pop-entry.result.entry.available_depth.0;
        fate = c.pop-entry.result.run.fate;
      }) (fates_of c.pop-entry.new.self) c.args.cache.now.results c.store_answer.new.cache.results
      (subst (λ before. ChangesNewest g.D.Cx.Input.PartialEq.eq (record {
        goal = c.pop-entry.result.entry.input;
        depth = c.pop-entry.result.entry.available_depth.0;
        fate = c.pop-entry.result.run.fate;
      } ∷ []) before c.store_answer.new.cache.results) c.in_ok-node.ensures.same_results
      (subst (λ i. ChangesNewest g.D.Cx.Input.PartialEq.eq (record {
        goal = i;
        depth = c.pop-entry.result.entry.available_depth.0;
        fate = c.pop-entry.result.run.fate;
      } ∷ []) c.result_node.new.cache.results c.store_answer.new.cache.results) c.input-input.ensures
      (c.store_answer.ensures.puts.changes c.pop-entry.result.entry.available_depth.0))));
}

pub returns-in_err-node-clause-cache : goal.returns-in_err-node-clause-cache
returns-in_err-node-clause-cache g c = record {
  keeps =
      ending_keeps g.D.Cx.Input.PartialEq.eq c.args.evaluation.now.goals c.args.cache.now c.result_node.new.cache
      (c.pop-entry.result.entry, c.pop-entry.result.run) c.pop-entry.new.self c.pop-entry.ensures
      c.result_node.ensures.same_context (KeepsResults-same g.D.Cx.Input.PartialEq.eq c.args.cache.now.results
      c.result_node.new.cache.results c.result_node.ensures.same_results)
      c.result_node.ensures.kept c.result_node.ensures.others;
  changes = Untouched c.result_node.ensures.same_results;
}

pub returns-in_err-rebase_entries-clause-cache : goal.returns-in_err-rebase_entries-clause-cache
returns-in_err-rebase_entries-clause-cache g c = record {
  keeps =
      ending_keeps g.D.Cx.Input.PartialEq.eq c.args.evaluation.now.goals c.args.cache.now c.result_node.new.cache
      (c.pop-entry.result.entry, c.pop-entry.result.run) c.pop-entry.new.self c.pop-entry.ensures
      c.result_node.ensures.same_context (KeepsResults-same g.D.Cx.Input.PartialEq.eq c.args.cache.now.results
      c.result_node.new.cache.results c.result_node.ensures.same_results)
      c.result_node.ensures.kept c.result_node.ensures.others;
  changes = Untouched c.result_node.ensures.same_results;
}

pub returns-in_err-next-clause-cache : goal.returns-in_err-next-clause-cache
returns-in_err-next-clause-cache g c = record {
  keeps =
      ending_keeps g.D.Cx.Input.PartialEq.eq c.args.evaluation.now.goals c.args.cache.now c.result_node.new.cache
      (c.pop-entry.result.entry, c.pop-entry.result.run) c.pop-entry.new.self c.pop-entry.ensures
      c.result_node.ensures.same_context (KeepsResults-same g.D.Cx.Input.PartialEq.eq c.args.cache.now.results
      c.result_node.new.cache.results c.result_node.ensures.same_results)
      c.result_node.ensures.kept c.result_node.ensures.others;
  changes = Untouched c.result_node.ensures.same_results;
}

-- ---- they were

pub returns-clause-cache : goal.returns-clause-cache
returns-clause-cache g c = record {
  keeps =
      ending_keeps g.D.Cx.Input.PartialEq.eq c.args.evaluation.now.goals c.args.cache.now c.store_answer.new.cache
      (c.pop-entry.result.entry, c.pop-entry.result.run) c.pop-entry.new.self c.pop-entry.ensures
      (ap (λ cache. cache.cx) c.store_answer.ensures.puts.cache.rest ∙ c.in_ok-node.ensures.same_context)
      (subst (λ before. KeepsResults g.D.Cx.Input.PartialEq.eq before c.store_answer.new.cache.results)
      c.in_ok-node.ensures.same_results c.store_answer.ensures.puts.cache.kept)
      (subst (KeepsFinished c.args.cache.now.nodes)
      (sym (ap (λ cache. cache.nodes) c.store_answer.ensures.puts.cache.rest)) c.in_ok-node.ensures.kept)
      (subst (KeepsBut c.pop-entry.result.run.node.0 c.args.cache.now.nodes)
      (sym (ap (λ cache. cache.nodes) c.store_answer.ensures.puts.cache.rest)) c.in_ok-node.ensures.others);
  changes =
      subst (λ l. ChangesNewest g.D.Cx.Input.PartialEq.eq (fates_of l) c.args.cache.now.results
      c.store_answer.new.cache.results) (sym c.pop-entry.ensures)
      (newest_changes g.D.Cx.Input.PartialEq.eq (record {
        goal = c.pop-entry.result.entry.input;
        depth = c.pop-entry.result.entry.available_depth.0;
        fate = c.pop-entry.result.run.fate;
      }) (fates_of c.pop-entry.new.self) c.args.cache.now.results c.store_answer.new.cache.results
      (subst (λ before. ChangesNewest g.D.Cx.Input.PartialEq.eq (record {
        goal = c.pop-entry.result.entry.input;
        depth = c.pop-entry.result.entry.available_depth.0;
        fate = c.pop-entry.result.run.fate;
      } ∷ []) before c.store_answer.new.cache.results) c.in_ok-node.ensures.same_results
      (subst (λ i. ChangesNewest g.D.Cx.Input.PartialEq.eq (record {
        goal = i;
        depth = c.pop-entry.result.entry.available_depth.0;
        fate = c.pop-entry.result.run.fate;
      } ∷ []) c.result_node.new.cache.results c.store_answer.new.cache.results) c.input-input.ensures
      (c.store_answer.ensures.puts.changes c.pop-entry.result.entry.available_depth.0))));
}

pub returns-clause-stored : goal.returns-clause-stored
returns-clause-stored g c = newest_stored (verdicts g.D.Cx.Cx) c.args.cache.now.nodes c.result_node.new.cache.nodes
    c.args.evaluation.now.goals c.pop-entry.result.entry c.pop-entry.result.run c.pop-entry.new.self c.pop-entry.ensures
    c.args.outcome c.in_ok-node.node c.requires.may.right.justified c.in_ok-node.ensures.has_node
    g.D.Cx.Input.PartialEq.eq c.args.cache.now.results c.store_answer.new.cache.results
    (subst (λ before.
    StoresAnswer g.D.Cx.Input.PartialEq.eq before c.store_answer.new.cache.results c.pop-entry.result.entry.input
    (final_answer (c.pop-entry.result.entry, c.pop-entry.result.run) c.args.outcome c.in_ok-node.node))
    c.in_ok-node.ensures.same_results
    (subst (λ i. StoresAnswer g.D.Cx.Input.PartialEq.eq c.result_node.new.cache.results c.store_answer.new.cache.results
    i (final_answer (c.pop-entry.result.entry, c.pop-entry.result.run) c.args.outcome c.in_ok-node.node))
    c.input-input.ensures
    (subst (λ (a : EvaluationResult _ _ _ _ _). StoresAnswer g.D.Cx.Input.PartialEq.eq c.result_node.new.cache.results
    c.store_answer.new.cache.results c.input-input.result a) c.finalize-answer.ensures
    (puts_given c.finalize-answer.result c.give_answer.new.answer c.give_answer.ensures.left g.D.Cx.Input.PartialEq.eq
    c.input-input.result c.pop-entry.result.run.fate c.result_node.new.cache c.store_answer.new.cache
    c.store_answer.ensures.puts).stored)))

pub returns-clause-popped : goal.returns-clause-popped
returns-clause-popped g c =
    let node_is : node_given c.in_ok-next.next ≡ c.in_ok-node.node = gives_node c.step_kind_from_parent-step.result
    c.finalize-answer.result c.pop-entry.new.self c.in_ok-next.next c.give_answer.new.goals c.in_ok-next.ensures.given
    ∙ ap (λ (a : EvaluationResult _ _ _ _ _). a.node) c.finalize-answer.ensures in
    let same_cx : c.store_answer.new.cache.cx ≡ c.args.cache.now.cx =
    ap (λ cache. cache.cx) c.store_answer.ensures.puts.cache.rest ∙ c.in_ok-node.ensures.same_context in
    subst (λ after. Pops g.D.Delegate g.D.Cx.Cx g.D.Cx.Input.PartialEq.eq c.args.outcome c.args.reason c.args.cache.now
    c.args.evaluation.now c.in_ok-next.next c.store_answer.new.cache after) (sym c.store_answer.ensures.rest)
    (record {
      left =
          given_leaves (verdicts g.D.Cx.Cx) c.args.cache.now.nodes c.result_node.new.cache.nodes
          c.args.evaluation.now.goals c.pop-entry.result.entry c.pop-entry.result.run c.pop-entry.new.self
          c.pop-entry.ensures c.args.outcome c.in_ok-node.node c.requires.may.right.justified
          c.in_ok-node.ensures.has_node c.give_answer.new.goals c.in_ok-next.next
          (subst (λ step. GivesAnswer step
          (final_answer (c.pop-entry.result.entry, c.pop-entry.result.run) c.args.outcome c.in_ok-node.node)
          c.pop-entry.new.self c.in_ok-next.next c.give_answer.new.goals) c.step_kind_from_parent-step.ensures
          (subst (λ (a : EvaluationResult _ _ _ _ _). GivesAnswer c.step_kind_from_parent-step.result a
          c.pop-entry.new.self c.in_ok-next.next c.give_answer.new.goals)
          c.finalize-answer.ensures c.in_ok-next.ensures.given));
      nested =
          subst (λ l. LeavesNested g.D.Cx.Input.PartialEq.eq l c.give_answer.new.goals) (sym c.pop-entry.ensures)
          (subst (λ step. GivesNested g.D.Cx.Input.PartialEq.eq step c.pop-entry.result.entry.state.nested_goals
          c.pop-entry.new.self c.give_answer.new.goals) c.step_kind_from_parent-step.ensures
          (subst (λ (a : EvaluationResult _ _ _ _ _). GivesNested g.D.Cx.Input.PartialEq.eq
          c.step_kind_from_parent-step.result a.nested_goals c.pop-entry.new.self c.give_answer.new.goals)
          c.finalize-answer.ensures c.in_ok-next.ensures.nested));
      stored =
          subst (λ l. IsNewestStored g.D.Cx.Input.PartialEq.eq (g.D.Cx.Cx.token c.args.cache.now.cx) l c.args.outcome
          (node_given c.in_ok-next.next) c.store_answer.new.cache.results) (sym c.pop-entry.ensures)
          (subst (λ node. c.pop-entry.result.run.fate ≡ becomes.Stored → c.pop-entry.result.entry.state.heads ≡ []
          → IsStored g.D.Cx.Input.PartialEq.eq (g.D.Cx.Cx.token c.args.cache.now.cx)
          c.store_answer.new.cache.results c.pop-entry.result.entry.input
          (final_answer (c.pop-entry.result.entry, c.pop-entry.result.run) c.args.outcome node)) (sym node_is)
          (subst (λ cx. c.pop-entry.result.run.fate ≡ becomes.Stored → c.pop-entry.result.entry.state.heads ≡ []
          → IsStored g.D.Cx.Input.PartialEq.eq (g.D.Cx.Cx.token cx)
          c.store_answer.new.cache.results c.pop-entry.result.entry.input
          (final_answer (c.pop-entry.result.entry, c.pop-entry.result.run) c.args.outcome c.in_ok-node.node)) same_cx
          (subst (λ i. c.pop-entry.result.run.fate ≡ becomes.Stored → c.pop-entry.result.entry.state.heads ≡ []
          → IsStored g.D.Cx.Input.PartialEq.eq (g.D.Cx.Cx.token c.store_answer.new.cache.cx)
          c.store_answer.new.cache.results i (final_answer (c.pop-entry.result.entry, c.pop-entry.result.run)
          c.args.outcome c.in_ok-node.node)) c.input-input.ensures
          (subst (λ (a : EvaluationResult _ _ _ _ _). c.pop-entry.result.run.fate ≡ becomes.Stored → a.heads ≡ []
          → IsStored g.D.Cx.Input.PartialEq.eq (g.D.Cx.Cx.token c.store_answer.new.cache.cx)
          c.store_answer.new.cache.results c.input-input.result a) c.finalize-answer.ensures
          (stores_given g.D.Delegate g.D.Cx.Cx c.finalize-answer.result c.give_answer.new.answer
          c.give_answer.ensures.left g.D.Cx.Input.PartialEq.eq c.step_kind_from_parent-step.result c.input-input.result
          c.pop-entry.result.run.fate (record c.args.evaluation.now {
            goals = c.give_answer.new.goals;
            scopes = c.release_scope-scope.new.scopes;
            provisional = c.rebase_entries.new.provisional;
          }) c.store_answer.new.evaluation c.store_answer.new.cache c.in_ok-store_answer.ensures.stores).stored))));
      released = c.release_scope-scope.ensures.released;
      compared =
          subst (λ l. IsNewestCompared l c.args.outcome) (sym c.pop-entry.ensures)
          (subst (λ (a : EvaluationResult _ _ _ _ _).
          (stored : _) → c.pop-entry.result.run.fate ≡ becomes.Compared stored → a.heads ≡ [] → a.result ≡ stored)
          c.finalize-answer.ensures
          (stores_given g.D.Delegate g.D.Cx.Cx c.finalize-answer.result c.give_answer.new.answer
          c.give_answer.ensures.left g.D.Cx.Input.PartialEq.eq c.step_kind_from_parent-step.result c.input-input.result
          c.pop-entry.result.run.fate (record c.args.evaluation.now {
            goals = c.give_answer.new.goals;
            scopes = c.release_scope-scope.new.scopes;
            provisional = c.rebase_entries.new.provisional;
          }) c.store_answer.new.evaluation c.store_answer.new.cache c.in_ok-store_answer.ensures.stores).compared);
      puts =
          subst (λ l. StoresNewest g.D.Cx.Input.PartialEq.eq l c.args.outcome (node_given c.in_ok-next.next)
          c.args.cache.now.results c.store_answer.new.cache.results) (sym c.pop-entry.ensures)
          (subst (λ node. StoresAnswer g.D.Cx.Input.PartialEq.eq c.args.cache.now.results
          c.store_answer.new.cache.results c.pop-entry.result.entry.input
          (final_answer (c.pop-entry.result.entry, c.pop-entry.result.run) c.args.outcome node)) (sym node_is)
          (subst (λ before.
          StoresAnswer g.D.Cx.Input.PartialEq.eq before c.store_answer.new.cache.results c.pop-entry.result.entry.input
          (final_answer (c.pop-entry.result.entry, c.pop-entry.result.run) c.args.outcome c.in_ok-node.node))
          c.in_ok-node.ensures.same_results
          (subst (λ i. StoresAnswer g.D.Cx.Input.PartialEq.eq c.result_node.new.cache.results
          c.store_answer.new.cache.results i (final_answer (c.pop-entry.result.entry, c.pop-entry.result.run)
          c.args.outcome c.in_ok-node.node)) c.input-input.ensures
          (subst (λ (a : EvaluationResult _ _ _ _ _). StoresAnswer g.D.Cx.Input.PartialEq.eq
          c.result_node.new.cache.results c.store_answer.new.cache.results c.input-input.result a)
          c.finalize-answer.ensures (puts_given c.finalize-answer.result c.give_answer.new.answer
          c.give_answer.ensures.left g.D.Cx.Input.PartialEq.eq c.input-input.result c.pop-entry.result.run.fate
          c.result_node.new.cache c.store_answer.new.cache c.store_answer.ensures.puts).stored))));
      node =
          subst (λ l. HasNewestNode (verdicts g.D.Cx.Cx) c.args.cache.now.nodes c.store_answer.new.cache.nodes l
          c.args.outcome (node_given c.in_ok-next.next)) (sym c.pop-entry.ensures)
          (subst (λ node. HasResultNode (verdicts g.D.Cx.Cx) c.args.cache.now.nodes c.store_answer.new.cache.nodes
          c.pop-entry.result.entry.state.provisional_result c.pop-entry.result.run.node
          c.pop-entry.result.entry.state.node c.pop-entry.result.run.progress c.args.outcome node) (sym node_is)
          (subst (λ nodes. HasResultNode (verdicts g.D.Cx.Cx) c.args.cache.now.nodes nodes
          c.pop-entry.result.entry.state.provisional_result c.pop-entry.result.run.node
          c.pop-entry.result.entry.state.node c.pop-entry.result.run.progress c.args.outcome c.in_ok-node.node)
          (sym (ap (λ cache. cache.nodes) c.store_answer.ensures.puts.cache.rest)) c.in_ok-node.ensures.has_node));
      rebased =
          subst (λ l. RebasesNewest g.D.Cx.Input.PartialEq.eq g.D.Delegate.ENABLE_PROVISIONAL_CACHE
          (g.D.Delegate.propagated c.args.cache.now.cx) (g.D.Delegate.fixpoint_overflow c.args.cache.now.cx)
          c.args.reason c.args.outcome (node_given c.in_ok-next.next) l c.args.evaluation.now.provisional
          c.store_answer.new.evaluation.provisional) (sym c.pop-entry.ensures) (
            record {
              node = c.in_ok-node.node;
              entries = entries_rebased g.D.Cx.Input.PartialEq.eq g.D.Delegate.ENABLE_PROVISIONAL_CACHE
                  g.D.Delegate.propagated g.D.Delegate.fixpoint_overflow c.cx.result c.args.cache.now.cx
                  (c.cx.ensures ∙ c.in_ok-node.ensures.same_context) c.args.reason c.args.outcome c.in_ok-node.node
                  (c.pop-entry.result.entry, c.pop-entry.result.run) c.pop-entry.new.self c.give_answer.new.goals
                  c.in_ok-next.next c.stack-stack.result.now (reverse (map (λ s. s.0) c.give_answer.new.goals))
                  c.stack-stack.ensures refl c.step_kind_from_parent-step.result c.step_kind_from_parent-step.ensures
                  c.input-input.result c.input-input.ensures c.finalize-answer.result c.finalize-answer.ensures
                  c.in_ok-next.ensures.given c.args.evaluation.now.provisional c.rebase_entries.new.provisional
                  c.store_answer.new.evaluation.provisional c.in_ok-rebase_entries.ensures.exact
                  (stores_given g.D.Delegate g.D.Cx.Cx c.finalize-answer.result c.give_answer.new.answer
                  c.give_answer.ensures.left g.D.Cx.Input.PartialEq.eq c.step_kind_from_parent-step.result
                  c.input-input.result c.pop-entry.result.run.fate (record c.args.evaluation.now {
                    goals = c.give_answer.new.goals;
                    scopes = c.release_scope-scope.new.scopes;
                    provisional = c.rebase_entries.new.provisional;
                  }) c.store_answer.new.evaluation c.store_answer.new.cache c.in_ok-store_answer.ensures.stores).entry;
            },
            sym node_is,
          );
      right = record {
        justified =
            subst (λ nodes. IsJustifiedNext (verdicts g.D.Cx.Cx) nodes c.args.evaluation.now.goals
            c.give_answer.new.goals c.in_ok-next.next)
            (sym (ap (λ cache. cache.nodes) c.store_answer.ensures.puts.cache.rest))
            (given_justified (verdicts g.D.Cx.Cx) c.args.cache.now.nodes c.result_node.new.cache.nodes
            c.args.evaluation.now.goals c.pop-entry.result.entry c.pop-entry.result.run c.pop-entry.new.self
            c.pop-entry.ensures c.args.outcome c.in_ok-node.node c.requires.may.right.justified
            c.in_ok-node.ensures.has_node c.give_answer.new.goals c.in_ok-next.next
            (subst (λ step. GivesAnswer step
            (final_answer (c.pop-entry.result.entry, c.pop-entry.result.run) c.args.outcome c.in_ok-node.node)
            c.pop-entry.new.self c.in_ok-next.next c.give_answer.new.goals) c.step_kind_from_parent-step.ensures
            (subst (λ (a : EvaluationResult _ _ _ _ _). GivesAnswer c.step_kind_from_parent-step.result a
            c.pop-entry.new.self c.in_ok-next.next c.give_answer.new.goals)
            c.finalize-answer.ensures c.in_ok-next.ensures.given)));
        free =
            subst (λ nodes. AreFree (verdicts g.D.Cx.Cx) g.D.Cx.Input.PartialEq.eq nodes
            (runs_of c.give_answer.new.goals) c.store_answer.new.cache.results)
            (sym (ap (λ cache. cache.nodes) c.store_answer.ensures.puts.cache.rest))
            (given_free (verdicts g.D.Cx.Cx) c.args.cache.now.nodes c.result_node.new.cache.nodes
            c.args.evaluation.now.goals c.pop-entry.result.entry c.pop-entry.result.run c.pop-entry.new.self
            c.pop-entry.ensures c.args.outcome c.in_ok-node.node c.requires.may.right.justified
            c.in_ok-node.ensures.has_node g.D.Cx.Input.PartialEq.eq g.met.D.Cx.Cx.same_input c.args.cache.now.results
            c.store_answer.new.cache.results c.give_answer.new.goals c.in_ok-next.next
            (subst (λ step. GivesAnswer step
            (final_answer (c.pop-entry.result.entry, c.pop-entry.result.run) c.args.outcome c.in_ok-node.node)
            c.pop-entry.new.self c.in_ok-next.next c.give_answer.new.goals) c.step_kind_from_parent-step.ensures
            (subst (λ (a : EvaluationResult _ _ _ _ _). GivesAnswer c.step_kind_from_parent-step.result a
            c.pop-entry.new.self c.in_ok-next.next c.give_answer.new.goals)
            c.finalize-answer.ensures c.in_ok-next.ensures.given))
            (subst (λ before. StoresAnswer g.D.Cx.Input.PartialEq.eq before
            c.store_answer.new.cache.results c.pop-entry.result.entry.input
            (final_answer (c.pop-entry.result.entry, c.pop-entry.result.run) c.args.outcome c.in_ok-node.node))
            c.in_ok-node.ensures.same_results
            (subst (λ i. StoresAnswer g.D.Cx.Input.PartialEq.eq c.result_node.new.cache.results
            c.store_answer.new.cache.results i (final_answer (c.pop-entry.result.entry, c.pop-entry.result.run)
            c.args.outcome c.in_ok-node.node)) c.input-input.ensures
            (subst (λ (a : EvaluationResult _ _ _ _ _). StoresAnswer g.D.Cx.Input.PartialEq.eq
            c.result_node.new.cache.results c.store_answer.new.cache.results c.input-input.result a)
            c.finalize-answer.ensures (puts_given c.finalize-answer.result c.give_answer.new.answer
            c.give_answer.ensures.left g.D.Cx.Input.PartialEq.eq c.input-input.result c.pop-entry.result.run.fate
            c.result_node.new.cache c.store_answer.new.cache c.store_answer.ensures.puts).stored)))
            c.requires.may.right.free);
        ready =
            subst (λ nodes.
            AreReady (verdicts g.D.Cx.Cx) g.D.Cx.Input.PartialEq.eq (g.D.Delegate.script c.args.cache.now.cx) nodes
            (runs_of c.give_answer.new.goals) c.store_answer.new.evaluation.provisional)
            (sym (ap (λ cache. cache.nodes) c.store_answer.ensures.puts.cache.rest))
            (rebased_ready (verdicts g.D.Cx.Cx) g.D.Cx.Input.PartialEq.eq g.met.D.Cx.Cx.same_input
            (g.D.Delegate.script c.args.cache.now.cx) c.args.cache.now.nodes c.result_node.new.cache.nodes
            (c.pop-entry.result.entry, c.pop-entry.result.run) c.pop-entry.new.self c.args.outcome c.in_ok-node.node
            (subst (λ l. AreJustified (verdicts g.D.Cx.Cx) c.args.cache.now.nodes (runs_of l))
            c.pop-entry.ensures c.requires.may.right.justified)
            (rebases (verdicts g.D.Cx.Cx) c.args.cache.now.nodes c.result_node.new.cache.nodes c.pop-entry.result.entry
            c.pop-entry.result.run c.pop-entry.new.self
            (subst (λ l. AreJustified (verdicts g.D.Cx.Cx) c.args.cache.now.nodes (runs_of l)) c.pop-entry.ensures
            c.requires.may.right.justified) c.args.outcome c.in_ok-node.node c.in_ok-node.ensures.has_node)
            (g.D.Delegate.propagated c.args.cache.now.cx) (g.D.Delegate.fixpoint_overflow c.args.cache.now.cx)
            (λ goal info. neither_is (verdicts g.D.Cx.Cx) (g.D.Delegate.propagated c.args.cache.now.cx goal info)
            (g.met.D.Delegate.propagated_is_neither c.args.cache.now.cx goal info))
            (λ goal. neither_is (verdicts g.D.Cx.Cx) (g.D.Delegate.fixpoint_overflow c.args.cache.now.cx goal)
            (g.met.D.Delegate.fixpoint_overflow_is_neither c.args.cache.now.cx goal))
            c.args.reason (subst (λ l. HasReason (verdicts g.D.Cx.Cx) c.args.reason l c.args.outcome)
            c.pop-entry.ensures c.requires.may.is_reason)
            c.are_rising.ensures (subst (IsNewestUnranked (g.D.Delegate.script c.args.cache.now.cx))
            c.pop-entry.ensures c.requires.may.unranked)
            g.D.Delegate.ENABLE_PROVISIONAL_CACHE c.args.evaluation.now.provisional
            c.store_answer.new.evaluation.provisional
            (entries_rebased g.D.Cx.Input.PartialEq.eq g.D.Delegate.ENABLE_PROVISIONAL_CACHE g.D.Delegate.propagated
            g.D.Delegate.fixpoint_overflow c.cx.result c.args.cache.now.cx
            (c.cx.ensures ∙ c.in_ok-node.ensures.same_context) c.args.reason c.args.outcome c.in_ok-node.node
            (c.pop-entry.result.entry, c.pop-entry.result.run) c.pop-entry.new.self c.give_answer.new.goals
            c.in_ok-next.next c.stack-stack.result.now (reverse (map (λ s. s.0) c.give_answer.new.goals))
            c.stack-stack.ensures refl c.step_kind_from_parent-step.result c.step_kind_from_parent-step.ensures
            c.input-input.result c.input-input.ensures c.finalize-answer.result c.finalize-answer.ensures
            c.in_ok-next.ensures.given c.args.evaluation.now.provisional c.rebase_entries.new.provisional
            c.store_answer.new.evaluation.provisional c.in_ok-rebase_entries.ensures.exact
            (stores_given g.D.Delegate g.D.Cx.Cx c.finalize-answer.result c.give_answer.new.answer
            c.give_answer.ensures.left g.D.Cx.Input.PartialEq.eq c.step_kind_from_parent-step.result
            c.input-input.result c.pop-entry.result.run.fate (record c.args.evaluation.now {
              goals = c.give_answer.new.goals;
              scopes = c.release_scope-scope.new.scopes;
              provisional = c.rebase_entries.new.provisional;
            }) c.store_answer.new.evaluation c.store_answer.new.cache c.in_ok-store_answer.ensures.stores).entry)
            (subst (λ l. AreReady (verdicts g.D.Cx.Cx) g.D.Cx.Input.PartialEq.eq
            (g.D.Delegate.script c.args.cache.now.cx) c.args.cache.now.nodes (runs_of l)
            c.args.evaluation.now.provisional) c.pop-entry.ensures c.requires.may.right.ready)
            c.in_ok-next.next c.give_answer.new.goals
            (subst (λ step. GivesAnswer step
            (final_answer (c.pop-entry.result.entry, c.pop-entry.result.run) c.args.outcome c.in_ok-node.node)
            c.pop-entry.new.self c.in_ok-next.next c.give_answer.new.goals) c.step_kind_from_parent-step.ensures
            (subst (λ (a : EvaluationResult _ _ _ _ _). GivesAnswer c.step_kind_from_parent-step.result a
            c.pop-entry.new.self c.in_ok-next.next c.give_answer.new.goals)
            c.finalize-answer.ensures c.in_ok-next.ensures.given)));
      };
    })

pub returns-in_err-node-clause-noted : goal.returns-in_err-node-clause-noted
returns-in_err-node-clause-noted g c = notes_same (verdicts g.D.Cx.Cx) g.D.Cx.Input.PartialEq.eq c.from_residual.result
    c.args.cache.now c.result_node.new.cache c.args.evaluation.now.drafts c.result_node.ensures.same_results

pub returns-in_err-rebase_entries-clause-noted : goal.returns-in_err-rebase_entries-clause-noted
returns-in_err-rebase_entries-clause-noted g c =
    notes_same (verdicts g.D.Cx.Cx) g.D.Cx.Input.PartialEq.eq c.from_residual-in_err-rebase_entries.result
    c.args.cache.now c.result_node.new.cache c.args.evaluation.now.drafts c.result_node.ensures.same_results

pub returns-in_err-next-clause-noted : goal.returns-in_err-next-clause-noted
returns-in_err-next-clause-noted g c =
    notes_same (verdicts g.D.Cx.Cx) g.D.Cx.Input.PartialEq.eq c.from_residual-in_err-next.result c.args.cache.now
    c.result_node.new.cache c.args.evaluation.now.drafts c.result_node.ensures.same_results

pub returns-in_err-store_answer-clause-noted : goal.returns-in_err-store_answer-clause-noted
returns-in_err-store_answer-clause-noted g c =
    notes_after (verdicts g.D.Cx.Cx) g.D.Cx.Input.PartialEq.eq c.from_residual-in_err-store_answer.result
    c.args.cache.now c.result_node.new.cache c.store_answer.new.cache c.args.evaluation.now.drafts
    c.store_answer.new.evaluation.drafts c.result_node.ensures.same_results
    (notes_err (verdicts g.D.Cx.Cx) g.D.Cx.Input.PartialEq.eq c.result_node.new.cache c.store_answer.new.cache
    c.args.evaluation.now.drafts c.store_answer.new.evaluation.drafts _ c.from_residual-in_err-store_answer.result
    c.from_residual-in_err-store_answer.ensures.1 c.in_err-store_answer.ensures.noted)

pub returns-clause-noted : goal.returns-clause-noted
returns-clause-noted g c =
    notes_after (verdicts g.D.Cx.Cx) g.D.Cx.Input.PartialEq.eq (Ok c.in_ok-next.next) c.args.cache.now
    c.result_node.new.cache c.store_answer.new.cache c.args.evaluation.now.drafts
    c.store_answer.new.evaluation.drafts c.result_node.ensures.same_results
    (notes_ok (verdicts g.D.Cx.Cx) g.D.Cx.Input.PartialEq.eq c.result_node.new.cache c.store_answer.new.cache
    c.args.evaluation.now.drafts c.store_answer.new.evaluation.drafts _
    c.in_ok-next.next c.in_ok-store_answer.ensures.noted)
