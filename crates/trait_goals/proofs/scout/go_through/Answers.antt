use Rattle.trait_goals.proofs.Extending.{extends_same, extends_then}
use Rattle.trait_goals.proofs.scout.go_through.Goals as goal

pub loop-init : goal.loop-init
loop-init c = extends_same c.args.goals.now

pub loop-preserved : goal.loop-preserved
loop-preserved c =
    extends_then c.args.goals.now c.loop.goals c.expand.new.self c.loop.invariant c.expand.ensures.extends

pub returns-in_err-expand-in-Some : goal.returns-in_err-expand-in-Some
returns-in_err-expand-in-Some c =
    extends_then c.args.goals.now c.loop.goals c.expand.new.self c.loop.invariant c.expand.ensures.extends
