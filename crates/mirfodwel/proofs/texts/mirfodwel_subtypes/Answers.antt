use Rattle.std.proofs.Common.{◌==◌, ℕ, Some, List, [], subst, sym}
use Rattle.mirfodwel.proofs.Handed.{worked_through}
use Rattle.type_runs.specs.Program as types
use Rattle.mirfodwel.proofs.texts.mirfodwel_subtypes.Goals as goal

pub returns : goal.returns
returns c = let came = c.run-status.ensures in
    let Told : List ℕ → List ℕ → Type 0 =
    λ before lines. types.IsAllTold (Some c.args.text.now) (Some before) (Some lines) (c.run-status.result == 0) in
    worked_through came.status
    (λ small. subst (Told []) (sym c.as_slice.ensures.value)
    (subst (λ before. Told before c.run-status.new.out.items) c.new-lines.ensures.items (came.told small)))
    came.refused c.hand_out_told.ensures
