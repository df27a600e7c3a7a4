use Rattle.std.proofs.Common.{◌↔◌, ℕ, IsTrue, ap, nat_eq, refl, subst}
use Rattle.std.specs.HashSet.{contains}
use Rattle.graph_nodes.specs.Forgotten.{is_among}
use Rattle.rule_arrays.specs.Changes.{IsConcerned}
use Rattle.sessions.proofs.Kept.{graphs_kept, nodes_kept, others_kept, results_kept}
use Rattle.sessions.proofs.session.Session.change.Goals as goal

pub change-requires : goal.change-requires
change-requires g c =
    let old = g.L.LendsArrays.table_of c.args.self.now.cache.cx.0.0.lender in
    let new = g.L.LendsArrays.table_of c.args.lender in
    let gone = c.in_ok-concerned.concerned in
    others_kept old new (is_among nat_eq gone.keys)
    (subst (λ lender. (one : ℕ) → IsTrue (contains nat_eq gone one)
    ↔ IsConcerned (g.L.LendsArrays.table_of lender) new one) c.lender.ensures c.in_ok-concerned.ensures)

pub returns-clause-changed : goal.returns-clause-changed
returns-clause-changed g c =
    let old = g.L.LendsArrays.table_of c.args.self.now.cache.cx.0.0.lender in
    let new = g.L.LendsArrays.table_of c.args.lender in
    let gone = c.in_ok-concerned.concerned in
    let is_gone = is_among nat_eq gone.keys in
    let was = c.args.self.now.cache in
    let now = c.change.new.self in
    let exact = subst (λ lender. (one : ℕ) → IsTrue (contains nat_eq gone one)
    ↔ IsConcerned (g.L.LendsArrays.table_of lender) new one) c.lender.ensures c.in_ok-concerned.ensures in
    record {
      rules = ap (λ cx. g.L.LendsArrays.table_of cx.0.0.lender) c.change.ensures.cx;
      results = results_kept old new is_gone exact nat_eq was.results now.results c.change.ensures.results;
      nodes = nodes_kept old new is_gone exact was.nodes now.nodes c.change.ensures.nodes;
      graphs = graphs_kept old new is_gone exact was.nodes now.nodes c.change.ensures.nodes c.has_runs.ensures;
      fault = refl;
    }
