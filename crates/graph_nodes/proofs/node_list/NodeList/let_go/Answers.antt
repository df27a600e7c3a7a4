use Rattle.std.proofs.Common.{◌&&◌, ◌∙◌, arith, not, rules, subst, sym, tests}
use Rattle.std.proofs.lemmas.Fn.{filter_same}
use Rattle.graph_nodes.specs.Words.{AreHeld, Held, is_among, is_forgotten, shown}
use Rattle.graph_nodes.proofs.Filters.{filter_both}
use Rattle.graph_nodes.proofs.Forgotten.{is_left, others_are_left}
use Rattle.graph_nodes.proofs.ShownNodes.{AreHeld-left, all_shown, none_earlier, shown_are_held}
use Rattle.graph_nodes.proofs.node_list.NodeList.let_go.Goals as goal

pub invariant_of-self : goal.invariant_of-self
invariant_of-self g c =
    let same = g.I.PartialEq.eq in
    let goals = c.self.inside.forgotten.entries in
    let first_goal = c.self.inside.first_goal in
    let next = c.self.inside.next in
    let stays = λ (h : Held _ _). is_left (is_among same c.args.gone.now.keys) h && not (is_forgotten same goals h) in
    let is = filter_same _ stays _ (λ x b f' called. search (rules, tests)) _ _ c.retain.ensures.filtered in (
      subst (λ l. AreHeld first_goal l next) (sym is)
          (AreHeld-left stays first_goal c.self.inside.held.items next c.self.invariant.0),
      none_earlier same c.new.result.entries c.new.ensures.empty 0,
      omega arith,
    )

pub returns : goal.returns
returns g c =
    let same = g.I.PartialEq.eq in
    let goals = c.self.inside.forgotten.entries in
    let first_goal = c.self.inside.first_goal in
    let held = c.self.inside.held.items in
    let next = c.self.inside.next in
    let is_gone = is_among same c.args.gone.now.keys in
    let stays = λ (h : Held _ _). is_left is_gone h && not (is_forgotten same goals h) in
    let is = filter_same _ stays _ (λ x b f' called. search (rules, tests)) _ _ c.retain.ensures.filtered in
    others_are_left is_gone first_goal (shown same goals held) _ next c.args.self.now c.self.view_is
    (all_shown same c.new.result.entries c.retain.new.self.items c.new.ensures.empty
    ∙ (is ∙ sym (filter_both (λ h. not (is_forgotten same goals h)) (is_left is_gone) held)))
    (shown_are_held same goals first_goal held next c.self.invariant.0)
