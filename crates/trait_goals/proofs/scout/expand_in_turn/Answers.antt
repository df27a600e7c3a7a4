use Rattle.trait_goals.proofs.Extending.{extends_same}
use Rattle.trait_goals.proofs.scout.expand_in_turn.Goals as goal

pub loop-goal-init : goal.loop-goal-init
loop-goal-init c = extends_same c.args.goals.now
