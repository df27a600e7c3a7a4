use Rattle.std.proofs.Common.{◌≡◌, ◌-◌, length, map, Some, ap, subst, ◌∙◌, arith}
use Rattle.std.specs.List.{slice_get}
use Rattle.goal_paths.specs.Words.{TellsKinds}
use Rattle.goal_paths.proofs.LastSteps.{last_tells}
use Rattle.search_stack.proofs.stack.Stack.last_steps.Goals as goal

pub returns-in-Some-clause-tells : goal.returns-in-Some-clause-tells
returns-in-Some-clause-tells g c =
    let last = c.in-Some.steps.now in
    let found : Some last ≡ slice_get c.self.inside.steps.items (length c.self.inside.steps.items - 1) =
    c.in-Some.ensures.value ∙ ap (λ steps. slice_get steps (length steps - 1)) c.deref.ensures.value in
    subst (λ entries. TellsKinds last (map (λ e. e.step_kind_from_parent) entries)) c.self.view_is
    (last_tells c.self.inside.steps.items
    (map (λ e. e.step_kind_from_parent) c.self.inside.entries.items) last found c.self.invariant.1)

pub returns-in-Some-clause-fits : goal.returns-in-Some-clause-fits
returns-in-Some-clause-fits g c = omega (
  arith,
  ap length c.self.view_is,
  c.self.inside.entries.ok.0,
  c.self.inside.entries.ok.1,
  c.self.inside.entries.small,
)

pub returns-in-None-clause-fits : goal.returns-in-None-clause-fits
returns-in-None-clause-fits g c = omega (
  arith,
  ap length c.self.view_is,
  c.self.inside.entries.ok.0,
  c.self.inside.entries.ok.1,
  c.self.inside.entries.small,
)
