use Rattle.traits.proofs.Kept.{right_before}
use Rattle.traits.proofs.rounds.ask_in_rounds.Goals as goal

pub returns-clause-right : goal.returns-clause-right
returns-clause-right c =
    right_before c.args.goals.now c.loop.goals c.loop.invariant.kept c.args.asked.now c.loop.round.came.items
    c.loop.invariant.right
