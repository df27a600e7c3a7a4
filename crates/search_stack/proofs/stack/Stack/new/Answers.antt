use Rattle.std.proofs.Common.{refl}
use Rattle.goal_paths.proofs.LastSteps.{AreLastSteps-empty}
use Rattle.goal_paths.proofs.StackIndex.{IsIndex-empty}
use Rattle.search_stack.proofs.stack.Stack.new.Goals as goal

pub invariant_of-result : goal.invariant_of-result
invariant_of-result g c =
    let empty = IsIndex-empty g.X.Input.PartialEq.eq g.met.X.Input.Eq.laws g.met.X.Cx.same_input _ (λ q. refl) in
    rw (c.new.ensures.items, c.new-2.ensures.empty, c.new-3.ensures.items) (
      record { distinct = empty.distinct; mapped = λ there. empty },
      AreLastSteps-empty,
    )
