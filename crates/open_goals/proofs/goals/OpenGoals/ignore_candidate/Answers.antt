use Rattle.std.proofs.Common.{◌-◌, ◌∙◌, sym, arith, length-set}
use Rattle.open_goals.proofs.Changes.{some_runs}
use Rattle.open_goals.proofs.CandidateMoves.{some_goal, is_finished, taken_counts, taken_ignored}
use Rattle.open_goals.proofs.goals.OpenGoals.ignore_candidate.Goals as goal

pub overflow_sub-last : goal.overflow_sub-last
overflow_sub-last g c = omega (
  arith,
  c.len-last.ensures,
  some_runs c.self.inside.stack c.self.inside.runs.items _ c.self.invariant c.self.view_is
      (some_goal c.args.number _ c.requires.can),
)

pub index_mut-requires : goal.index_mut-requires
index_mut-requires g c = omega (
  arith,
  c.len-last.ensures,
  some_runs c.self.inside.stack c.self.inside.runs.items _ c.self.invariant c.self.view_is
      (some_goal c.args.number _ c.requires.can),
)

pub take-candidate-requires : goal.take-candidate-requires
take-candidate-requires g c = record {
  there =
      is_finished c.self.inside.stack c.self.inside.runs.items _ c.self.invariant c.self.view_is c.args.number
      (c.len-last.result - 1) c.index_mut.result.now (omega (arith, c.len-last.ensures))
      c.index_mut.ensures.value c.requires.can;
}

pub invariant_of-self : goal.invariant_of-self
invariant_of-self g c = c.self.invariant ∙ sym (length-set c.self.inside.runs.items (c.len-last.result - 1) _)

pub ignore_usages-requires : goal.ignore_usages-requires
ignore_usages-requires g c = record {
  can =
      taken_counts c.self.inside.stack c.self.inside.runs.items _ c.self.invariant c.self.view_is c.args.number
      (c.len-last.result - 1) c.index_mut.result.now (omega (arith, c.len-last.ensures)) c.index_mut.ensures.value
      c.requires.can c.take-candidate.result c.take-candidate.ensures.taken
      c.take-candidate.new.self c.take-candidate.ensures.left;
}

pub returns : goal.returns
returns g c =
    taken_ignored c.self.inside.stack c.self.inside.runs.items _ c.self.invariant c.self.view_is c.args.number
    (c.len-last.result - 1) c.index_mut.result.now (omega (arith, c.len-last.ensures)) c.index_mut.ensures.value
    c.requires.can c.take-candidate.result c.take-candidate.ensures.taken c.take-candidate.new.self
    c.take-candidate.ensures.left _ c.ignore_usages.ensures
