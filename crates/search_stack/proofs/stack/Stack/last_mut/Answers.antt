use Rattle.std.proofs.Common.{arith, ap, refl, rules, ◌≡◌, ◌∙◌, get_or, length, ◌+◌, ◌-◌}
use Rattle.std.proofs.lemmas.List.{get_or_default}
use Rattle.search_stack.proofs.LastState.{change_last_from_set, map_change_last}
use Rattle.search_stack.proofs.stack.Stack.last_mut.Goals as goal

pub overflow_sub-last : goal.overflow_sub-last
overflow_sub-last g c =
    omega (arith, c.len-last.ensures, c.self.inside.entries.ok.0, ap length c.self.view_is, c.requires.some)

-- no input and no step changes
pub invariant_of-self-lent : goal.invariant_of-self-lent
invariant_of-self-lent g c = λ w.
    let at : (c.len-last.result - 1) + 1 ≡ length c.self.inside.entries.items =
    omega (arith, c.len-last.ensures, c.self.inside.entries.ok.0, ap length c.self.view_is, c.requires.some) in
    rw (
      change_last_from_set (λ e. record e { state = w }) c.self.inside.entries.items (c.len-last.result - 1)
          c.index_mut-entry.result.now at c.index_mut-entry.ensures.value,
      map_change_last (λ e. e.input) (λ e. record e { state = w })
          (λ e. refl {a = e.input}) c.self.inside.entries.items,
      map_change_last (λ e. e.step_kind_from_parent) (λ e. record e { state = w })
          (λ e. refl {a = e.step_kind_from_parent}) c.self.inside.entries.items,
    )
    c.self.invariant

pub returns : goal.returns
returns g c =
    let entry = c.index_mut-entry.result.now in
    let now = c.args.self.now in
    let size : length c.self.inside.entries.items ≡ length now = ap length c.self.view_is in
    let at : (c.len-last.result - 1) + 1 ≡ length c.self.inside.entries.items =
    omega (arith, c.len-last.ensures, c.self.inside.entries.ok.0, size, c.requires.some) in
    let place : c.len-last.result - 1 ≡ length now - 1 = omega (arith, at, size) in
    let read : entry ≡ get_or now (length now - 1) entry =
    c.index_mut-entry.ensures.value ∙ (λ i. get_or (c.self.view_is i) (place i) entry) in (
      (
        search rules,
        λ w. rw (← c.self.view_is) (change_last_from_set (λ e. record e { state = w }) c.self.inside.entries.items
            (c.len-last.result - 1) entry at c.index_mut-entry.ensures.value),
      ),
      record {
        writes_back = tt;
        value = λ d. ap (λ e. e.state)
            (read ∙ get_or_default now (length now - 1) entry d (omega (arith, c.requires.some)));
      },
    )
