use Rattle.std.proofs.Common.{◌≡◌, ◌∙◌, ◌++◌, ◌∷◌, [], length, sym, ap, arith}
use Rattle.std.proofs.lemmas.Grind.{common_steps}
use Rattle.open_goals.proofs.Changes.{some_entries, some_runs}
use Rattle.open_goals.proofs.Pairs.{popped_paired}
use Rattle.open_goals.proofs.goals.OpenGoals.pop.Goals as goal

pub unwrap-requires : goal.unwrap-requires
unwrap-requires g c =
    let some = some_runs c.self.inside.stack c.self.inside.runs.items _ c.self.invariant c.self.view_is c.requires in
    let kept = ap length c.give_room_back.ensures in
    c.pop.ensures.variant.1 (omega (arith, some, kept, c.give_room_back.new.list.ok.0))

pub pop-requires-2 : goal.pop-requires-2
pop-requires-2 g c = record {
  some = some_entries c.self.inside.stack c.self.inside.runs.items _ c.self.invariant c.self.view_is c.requires;
}

pub invariant_of-self : goal.invariant_of-self
invariant_of-self g c =
    let popped : c.give_room_back.new.list.items ≡ c.pop.new.self.items ++ c.unwrap.result ∷ [] =
    grind (arith, common_steps) in
    (popped_paired c.self.inside.stack c.pop-2.new.self c.self.inside.runs.items c.pop.new.self.items c.pop-2.result
    c.unwrap.result _ c.self.invariant c.self.view_is c.pop-2.ensures (sym c.give_room_back.ensures ∙ popped)).0

pub returns : goal.returns
returns g c =
    let popped : c.give_room_back.new.list.items ≡ c.pop.new.self.items ++ c.unwrap.result ∷ [] =
    grind (arith, common_steps) in
    (popped_paired c.self.inside.stack c.pop-2.new.self c.self.inside.runs.items c.pop.new.self.items c.pop-2.result
    c.unwrap.result _ c.self.invariant c.self.view_is c.pop-2.ensures (sym c.give_room_back.ensures ∙ popped)).1
