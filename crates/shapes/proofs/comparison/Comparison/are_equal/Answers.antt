use Rattle.std.proofs.Common.{◌≡◌, false, rules, sym, subst}
use Rattle.shapes.specs.Below.{graph_nodes_of, Neither, No, Yes}
use Rattle.shapes.specs.Bisimulation.{AreEqual, equations_of}
use Rattle.question_lists.proofs.Verdicts.{known_true, never_neither}
use Rattle.shapes.proofs.Compared.{are_decisive, differ_by, equal_by}
use Rattle.shapes.proofs.comparison.Comparison.are_equal.Goals as goal
use Rattle.shapes.proofs.comparison.Comparison.are_equal.Goals.{then-self, else-self}

pub invariant_of-self : goal.invariant_of-self
invariant_of-self g c = record {
  decided = λ e. elim c.if-self.branch [
    | then-self w ↦ let is = w.self-is in absurd cc
    | else-self w ↦
        let old : c.args.self.now.limits_met ≡ false = let was = w.if-self in search rules in
        let met : c.evaluate_goal-answer.new.self.limits_met ≡ false =
        let is = w.self-is in let told = w.limits_met-self.ensures in search rules in
        c.decisive_results.ensures _ c.evaluate_goal-answer.ensures.ran
        (are_decisive (equations_of (g.S.Lends.lent_by c.args.self.now.cache.cx.0.0.lender)))
        (c.args.self.now.decided old) met
  ];
}

pub returns-clause-yes : goal.returns-clause-yes
returns-clause-yes g c = λ e.
    let is : c.verdict.result ≡ Yes = cc in
    let cache = c.evaluate_goal-answer.new.cache in
    let shown = c.in_ok-answer.ensures.yes (c.verdict.ensures.yes.0 is) in
    subst (λ cx. AreEqual (equations_of (g.S.Lends.lent_by cx.0.0.lender)) c.args.left c.args.right)
    c.in_ok-answer.ensures.same_context
    (equal_by (equations_of (g.S.Lends.lent_by cache.cx.0.0.lender)) (graph_nodes_of cache.nodes)
    (record { left = c.args.left; right = c.args.right }) _ shown.graph)

pub returns-clause-no : goal.returns-clause-no
returns-clause-no g c = λ e are.
    let is : c.verdict.result ≡ No = cc in
    let cache = c.evaluate_goal-answer.new.cache in
    let shown = c.in_ok-answer.ensures.no (c.verdict.ensures.no.0 is) in
    differ_by (equations_of (g.S.Lends.lent_by cache.cx.0.0.lender)) (graph_nodes_of cache.nodes)
    (record { left = c.args.left; right = c.args.right }) _ shown.graph
    (subst (λ cx. AreEqual (equations_of (g.S.Lends.lent_by cx.0.0.lender)) c.args.left c.args.right)
    (sym c.in_ok-answer.ensures.same_context) are)

pub returns-clause-neither : goal.returns-clause-neither
returns-clause-neither g c = λ e.
    let is : c.verdict.result ≡ Neither = cc in
    elim c.if-self.branch [
      | then-self w ↦ let so = w.self-is in search rules
      | else-self w ↦ known_true c.if-self.self (λ f.
          let old : c.args.self.now.limits_met ≡ false = let was = w.if-self in search rules in
          let met : c.evaluate_goal-answer.new.self.limits_met ≡ false =
          let so = w.self-is in let told = w.limits_met-self.ensures in search rules in
          never_neither c.in_ok-answer.field-0.result c.verdict.result c.verdict.ensures.yes c.verdict.ensures.no is
          (c.in_ok-answer.ensures.decisive
          (are_decisive (equations_of (g.S.Lends.lent_by c.args.self.now.cache.cx.0.0.lender)))
          (c.args.self.now.decided old) met))
    ]

pub returns-clause-limits_stay : goal.returns-clause-limits_stay
returns-clause-limits_stay g c = λ old.
    elim c.if-self.branch [
      | then-self w ↦ let so = w.self-is in search rules
      | else-self w ↦ let was = w.if-self in absurd cc
    ]
