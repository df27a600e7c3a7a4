use Rattle.std.proofs.Common.{not, rules, tests}
use Rattle.std.proofs.lemmas.Fn.{filter_same}
use Rattle.graph_nodes.specs.Words.{is_forgotten}
use Rattle.graph_nodes.proofs.ShownNodes.{let_go_shown}
use Rattle.graph_nodes.proofs.forgotten_goals.let_go_from.Goals as goal

pub returns-then-first-newest-clause-shown : goal.returns-then-first-newest-clause-shown
returns-then-first-newest-clause-shown g c =
    let_go_shown g.I.PartialEq.eq c.args.forgotten.now.entries c.clear.new.self.entries c.args.held.now.items
    c.retain.new.self.items c.args.first c.clear.ensures.empty
    (filter_same _ (λ h. not (is_forgotten g.I.PartialEq.eq c.args.forgotten.now.entries h)) _
    (λ x b f' called. search (rules, tests)) _ _ c.retain.ensures.filtered)
