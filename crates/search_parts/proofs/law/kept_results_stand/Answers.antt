use Rattle.global_cache.proofs.Changed.{AreRuns-changed, HasGraph-changed}
use Rattle.search_parts.proofs.law.kept_results_stand.Goals as goal
use Rattle.search_parts.specs.Below.{verdicts}

pub returns-clause-runs : goal.returns-clause-runs
returns-clause-runs g c = λ before after is_gone old new others kept runs.
    AreRuns-changed is_gone (g.D.Delegate.script before) (g.D.Delegate.script after) others (verdicts g.D.Cx.Cx)
    old new kept runs

pub returns-clause-graphs : goal.returns-clause-graphs
returns-clause-graphs g c = λ before after is_gone old new goal r node others kept runs stays.
    HasGraph-changed is_gone (g.D.Delegate.script before) (g.D.Delegate.script after) others (verdicts g.D.Cx.Cx)
    old new kept runs goal r node stays
