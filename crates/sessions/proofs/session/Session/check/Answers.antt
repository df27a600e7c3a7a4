use Rattle.std.proofs.Common.{IfOk, IsTrue, List, subst, ◌↔◌, ℕ}
use Rattle.sessions.proofs.session.Session.check.Goals as goal
use Rattle.sessions.specs.Below.{GraphNode, IsRefutationGraph, outcome_verdicts}
use Rattle.sessions.specs.Rules.{refutes, scripts_of}
use Rattle.sessions.specs.Shown.{AreValidFor}

pub returns-clause-exact : goal.returns-clause-exact
returns-clause-exact g c =
    subst (λ cx. IfOk c.is_shown.result (λ accepted. IsTrue accepted ↔ AreValidFor outcome_verdicts c.args.verdict
    (scripts_of (g.L.LendsArrays.table_of cx.0.0.lender)) c.args.words.now c.args.goal))
    c.cx.ensures c.is_shown.ensures.exact

pub returns-clause-refutation : goal.returns-clause-refutation
returns-clause-refutation g c = λ accepted no.
    subst (λ cx. (nodes : List (GraphNode ℕ))
    × IsRefutationGraph (refutes (g.L.LendsArrays.table_of cx.0.0.lender)) nodes 0 c.args.goal)
    c.cx.ensures (c.is_shown.ensures.refutation accepted no)
