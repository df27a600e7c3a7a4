use Rattle.std.proofs.Common.{[]}
use Rattle.search_graph.proofs.called.Calling.{run_keeps}
use Rattle.search_graph.proofs.called.Stored.{run_is_recorded}
use Rattle.search_rules.proofs.answers.Free.{all_free_nothing}
use Rattle.two_runs.proofs.settled.SettledStores.{settled_stays}
use Rattle.two_runs.specs.Below.{verdicts}
use Rattle.two_runs.proofs.law.recording_leaves_settled.Goals as goal

pub returns : goal.returns
returns g c = λ call ran records goals settled.
    let before = call.before.cache in
    settled_stays g.D.Delegate g.D.Cx.Cx g.D.Cx.Input.PartialEq.eq before.cx goals before call.after.cache []
    (all_free_nothing (verdicts g.D.Cx.Cx) g.D.Cx.Input.PartialEq.eq (g.D.Delegate.script before.cx) before.nodes
    before.results ran.was_sound.results)
    (run_keeps ran).finished (run_is_recorded ran records) settled
