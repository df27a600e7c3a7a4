use Rattle.std.proofs.Common.{ap, refl, subst}
use Rattle.graph_nodes.proofs.Definites.{HasGraph-finished}
use Rattle.delegate_parts.specs.Outcome.{is_no, is_yes}
use Rattle.sessions.proofs.session.Session.ask.Goals as goal
use Rattle.sessions.specs.Below.{outcome_verdicts}
use Rattle.sessions.specs.Rules.{IsRightAnswer}

pub returns-in-Err-clause-kept_graphs : goal.returns-in-Err-clause-kept_graphs
returns-in-Err-clause-kept_graphs g c =
    let asked = c.ask-came.ensures.asked (λ builder. (refl, refl)) in
    HasGraph-finished outcome_verdicts c.args.self.now.cache.nodes c.ask-came.new.cache.nodes asked.keeps.finished

pub returns-in_default-clause-right : goal.returns-in_default-clause-right
returns-in_default-clause-right g c =
    let asked = c.in_default.ensures.asked (λ builder. (refl, refl)) in
    rw c.in_default.is (subst (λ cx. IsRightAnswer (g.L.LendsArrays.table_of cx.0.0.lender) c.ask-came.new.cache.nodes
    c.args.goal c.in_default.field-0.outcome c.in_default.field-0.node) asked.keeps.context (record {
      proved = λ is. (asked.yes (ap is_yes is)).graph;
      never_refuted = λ is. (asked.yes (ap is_yes is)).never_refuted;
      refuted = λ is. (asked.no (ap is_no is)).graph;
      never_proved = λ is. (asked.no (ap is_no is)).never_proved;
    }))

pub returns-in_default-clause-kept_graphs : goal.returns-in_default-clause-kept_graphs
returns-in_default-clause-kept_graphs g c =
    let asked = c.ask-came.ensures.asked (λ builder. (refl, refl)) in
    HasGraph-finished outcome_verdicts c.args.self.now.cache.nodes c.ask-came.new.cache.nodes asked.keeps.finished
