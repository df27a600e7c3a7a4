use Rattle.std.proofs.Common.{rules}
use Rattle.mirfodwel.specs.Causes.{Told}
use Rattle.mirfodwel.proofs.causes.tell_cause.Goals as goal

pub returns-in-Ok : goal.returns-in-Ok
returns-in-Ok c = let its = c.cause.ensures in
    Told c.cause.result (search rules) (record { right = its.right; reason = its.reason }) its.told
    (search rules) (search rules)

pub returns-in-Err : goal.returns-in-Err
returns-in-Err c = let its = c.cause.ensures in
    Told c.cause.result (search rules) (record { right = its.right; reason = its.reason }) its.told
    (search rules) (search rules)
