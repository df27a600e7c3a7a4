use Rattle.std.proofs.Common.{◌-◌, ◌∙◌, ◌++◌, ◌∷◌, [], ap, sym, arith, length-set}
use Rattle.open_goals.proofs.Changes.{some_runs, run_changed}
use Rattle.open_goals.proofs.goals.OpenGoals.record_candidate.Goals as goal

pub overflow_sub-last : goal.overflow_sub-last
overflow_sub-last g c = omega (
  arith,
  c.len-last.ensures,
  some_runs c.self.inside.stack c.self.inside.runs.items _ c.self.invariant c.self.view_is c.requires.some,
)

pub index_mut-requires : goal.index_mut-requires
index_mut-requires g c = omega (
  arith,
  c.len-last.ensures,
  some_runs c.self.inside.stack c.self.inside.runs.items _ c.self.invariant c.self.view_is c.requires.some,
)

pub invariant_of-self : goal.invariant_of-self
invariant_of-self g c = c.self.invariant ∙ sym (length-set c.self.inside.runs.items (c.len-last.result - 1) _)

pub invariant_of-self-2 : goal.invariant_of-self-2
invariant_of-self-2 g c = c.self.invariant ∙ sym (length-set c.self.inside.runs.items (c.len-last.result - 1) _)

pub returns : goal.returns
returns g c =
    run_changed c.self.inside.stack c.self.inside.runs.items _ c.self.invariant c.self.view_is c.requires.some
    (c.len-last.result - 1) c.index_mut.result.now _ (omega (arith, c.len-last.ensures)) c.index_mut.ensures.value
    (λ r. record r { candidates = r.candidates ++ c.args.candidate ∷ [] })
    (ap (λ l. record c.index_mut.result.now { candidates = l })
    (c.in_ok-push.ensures ∙ ap (λ l. l ++ c.args.candidate ∷ []) c.lend_candidates.ensures))
