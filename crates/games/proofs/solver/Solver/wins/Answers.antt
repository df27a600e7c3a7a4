use Rattle.std.proofs.Common.{◌≡◌, false, rules, sym, subst}
use Rattle.games.specs.Below.{graph_nodes_of, Neither, No, Yes}
use Rattle.games.specs.Strategy.{positions_of, Strategy}
use Rattle.games.proofs.Moves.{are_decisive}
use Rattle.question_lists.proofs.Verdicts.{known_true, never_neither}
use Rattle.games.proofs.Won.{lost_at_node, won_at_node}
use Rattle.games.proofs.solver.Solver.wins.Goals as goal
use Rattle.games.proofs.solver.Solver.wins.Goals.{then-self, else-self}

pub invariant_of-self : goal.invariant_of-self
invariant_of-self g c = record {
  decided = λ e. elim c.if-self.branch [
    | then-self w ↦ let is = w.self-is in absurd cc
    | else-self w ↦
        let old : c.args.self.now.limits_met ≡ false = let was = w.if-self in search rules in
        let met : c.evaluate_goal-answer.new.self.limits_met ≡ false =
        let is = w.self-is in let told = w.limits_met-self.ensures in search rules in
        c.decisive_results.ensures _ c.evaluate_goal-answer.ensures.ran
        (are_decisive (positions_of (g.G.Lends.lent_by c.args.self.now.cache.cx.0.0.lender)))
        (c.args.self.now.decided old) met
  ];
}

pub returns-clause-yes : goal.returns-clause-yes
returns-clause-yes g c = λ e.
    let is : c.verdict.result ≡ Yes = cc in
    let cache = c.evaluate_goal-answer.new.cache in
    let shown = c.in_ok-answer.ensures.yes (c.verdict.ensures.yes.0 is) in
    subst (λ cx. Strategy (positions_of (g.G.Lends.lent_by cx.0.0.lender)) c.args.position)
    c.in_ok-answer.ensures.same_context
    (won_at_node (positions_of (g.G.Lends.lent_by cache.cx.0.0.lender))
    (graph_nodes_of cache.nodes) c.args.position _ shown.graph)

pub returns-clause-no : goal.returns-clause-no
returns-clause-no g c = λ e strategy.
    let is : c.verdict.result ≡ No = cc in
    let cache = c.evaluate_goal-answer.new.cache in
    let shown = c.in_ok-answer.ensures.no (c.verdict.ensures.no.0 is) in
    lost_at_node (positions_of (g.G.Lends.lent_by cache.cx.0.0.lender))
    (graph_nodes_of cache.nodes) c.args.position _ shown.graph
    (subst (λ cx. Strategy (positions_of (g.G.Lends.lent_by cx.0.0.lender)) c.args.position)
    (sym c.in_ok-answer.ensures.same_context) strategy)

pub returns-clause-neither : goal.returns-clause-neither
returns-clause-neither g c = λ e.
    let is : c.verdict.result ≡ Neither = cc in
    elim c.if-self.branch [
      | then-self w ↦ let so = w.self-is in search rules
      | else-self w ↦ known_true c.if-self.self (λ f.
          let old : c.args.self.now.limits_met ≡ false = let was = w.if-self in search rules in
          let met : c.evaluate_goal-answer.new.self.limits_met ≡ false =
          let so = w.self-is in let told = w.limits_met-self.ensures in search rules in
          never_neither c.in_ok-answer.field-0.result c.verdict.result c.verdict.ensures.yes c.verdict.ensures.no is
          (c.in_ok-answer.ensures.decisive
          (are_decisive (positions_of (g.G.Lends.lent_by c.args.self.now.cache.cx.0.0.lender)))
          (c.args.self.now.decided old) met))
    ]

pub returns-clause-limits_stay : goal.returns-clause-limits_stay
returns-clause-limits_stay g c = λ old.
    elim c.if-self.branch [
      | then-self w ↦ let so = w.self-is in search rules
      | else-self w ↦ let was = w.if-self in absurd cc
    ]
