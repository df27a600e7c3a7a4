use Rattle.std.proofs.Common.{◌≡◌, ℕ, List, ◌++◌, length, take, drop, map, sym, ap, subst, ◌∙◌, arith}
use Rattle.std.proofs.lemmas.List.{take-append-le, take_all}
use Rattle.std.proofs.lemmas.Map.Made.{keys_of-map_values, lookup-map_values}
use Rattle.std.specs.List.{IsDistinct}
use Rattle.std.specs.Map.{keys_of}
use Rattle.std.specs.Option.{option_map}
use Rattle.goal_paths.specs.Below.{extended}
use Rattle.goal_paths.specs.Words.{paths_at}
use Rattle.goal_paths.proofs.goal_list.GoalList.raise.Goals as goal

-- what is written over a whole list is the list
whole : {X : Type 0} (size : ℕ) (new rest : List X) → size ≡ length new → take size (new ++ rest) ≡ new
whole size new rest is = take-append-le size new rest (omega (arith, is)) ∙ take_all size new (omega (arith, is))

pub invariant_of-self : goal.invariant_of-self
invariant_of-self g c =
    let same = g.I.PartialEq.eq in
    let new = c.raise_each.new.goals in
    let items = c.self.inside.goals.items in
    let raised : new ≡ map (λ goal. (goal.0, extended goal.1 c.args.step)) items =
    c.raise_each.ensures ∙ ap (map (λ goal. (goal.0, extended goal.1 c.args.step))) c.as_mut_slice.ensures.value in
    subst (λ goals. IsDistinct same (keys_of goals)) (sym (whole c.self.inside.goals.len new (drop (length new) items)
    (omega (arith, c.as_mut_slice.ensures.len, c.raise_each.auto.goals))))
    (subst (IsDistinct same) (sym (ap keys_of raised ∙ keys_of-map_values (λ paths. extended paths c.args.step) items))
    c.self.invariant)

pub returns : goal.returns
returns g c = λ input.
    let same = g.I.PartialEq.eq in
    let new = c.raise_each.new.goals in
    let items = c.self.inside.goals.items in
    let raised : new ≡ map (λ goal. (goal.0, extended goal.1 c.args.step)) items =
    c.raise_each.ensures ∙ ap (map (λ goal. (goal.0, extended goal.1 c.args.step))) c.as_mut_slice.ensures.value in
    ap (λ goals. paths_at same goals input) (whole c.self.inside.goals.len new (drop (length new) items)
    (omega (arith, c.as_mut_slice.ensures.len, c.raise_each.auto.goals)) ∙ raised)
    ∙ lookup-map_values (λ paths. extended paths c.args.step) (same input) items
    ∙ ap (λ goals. option_map (λ paths. extended paths c.args.step) (paths_at same goals input)) c.self.view_is
