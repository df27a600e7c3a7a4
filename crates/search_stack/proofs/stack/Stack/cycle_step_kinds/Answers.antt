use Rattle.std.proofs.Common.{◌+◌, length, map, drop, ap, ◌∙◌, arith}
use Rattle.search_stack.proofs.stack.Stack.cycle_step_kinds.Goals as goal

pub past-requires : goal.past-requires
past-requires g c = omega (arith, c.index.ensures, ap length (c.as_slice.ensures.value ∙ c.self.view_is), c.requires)

pub returns : goal.returns
returns g c =
    let all = c.as_slice.ensures.value ∙ c.self.view_is in
    ap (map (λ e. e.step_kind_from_parent))
    (c.iter.ensures.rest ∙ c.past.ensures ∙ (λ i. drop (c.index.ensures i + 1) (all i)))
