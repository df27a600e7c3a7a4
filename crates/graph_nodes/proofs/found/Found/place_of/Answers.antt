use Rattle.std.proofs.Common.{nat_eq, arith, sym, ◌∙◌}
use Rattle.std.specs.Cmp.{nat_eq_equiv}
use Rattle.std.proofs.lemmas.Grind.{common_steps}
use Rattle.std.proofs.lemmas.Map.Views.{exact_unsigned_eq}
use Rattle.goal_paths.proofs.StackIndex.{IsIndex-push}
use Rattle.graph_nodes.proofs.FoundNodes.{found_place, last_place, Finds-push}
use Rattle.graph_nodes.proofs.found.Found.place_of.Goals as goal

-- the map knows the number
pub returns-in-Some-clause-place : goal.returns-in-Some-clause-place
returns-in-Some-clause-place c =
    rw (← c.self.view_is)
    (found_place c.self.inside.numbers.items c.args.number c.in-Some.place
    (sym (c.self.invariant.agrees c.args.number) ∙ grind (arith, common_steps)))

-- the number is appended
pub returns-clause-place : goal.returns-clause-place
returns-clause-place c = last_place c.self.inside.numbers.items _ c.args.number c.len-place.result
    (grind (arith, common_steps)) (grind (arith, common_steps))

pub invariant_of-self-2 : goal.invariant_of-self-2
invariant_of-self-2 c =
    IsIndex-push nat_eq nat_eq_equiv exact_unsigned_eq _ _ c.self.inside.numbers.items _
    c.args.number c.len-place.result c.self.invariant
    (sym (c.self.invariant.agrees c.args.number) ∙ grind (arith, common_steps)) (grind (arith, common_steps))
    (grind (arith, common_steps)) (λ q. c.in_ok-insert.ensures.updates.0 q)

pub returns-clause-finds : goal.returns-clause-finds
returns-clause-finds c = Finds-push c.args.self.now _ c.args.number (grind (arith, common_steps))
