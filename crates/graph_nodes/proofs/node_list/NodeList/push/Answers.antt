use Rattle.std.proofs.Common.{arith, refl, rules, sym, subst}
use Rattle.graph_nodes.specs.Words.{AreHeld}
use Rattle.graph_nodes.proofs.HeldNodes.{pushed_are_held}
use Rattle.graph_nodes.proofs.ShownNodes.{shown_and_pushed, shown_next}
use Rattle.graph_nodes.proofs.node_list.NodeList.push.Goals as goal

pub invariant_of-self : goal.invariant_of-self
invariant_of-self g c = (
  subst (λ items. AreHeld c.self.inside.first_goal items c.self.inside.next) (sym c.in_err-push.ensures.items)
      c.self.invariant.0,
  c.self.invariant.1,
  c.self.invariant.2,
)

pub invariant_of-self-2 : goal.invariant_of-self-2
invariant_of-self-2 g c = (
  pushed_are_held c.self.inside.first_goal c.self.inside.held.items c.self.inside.next _ c.self.invariant.0 refl
      c.args.input c.or-self-inside.result c.push.new.self.items c.in-Some.next c.or-self-inside.ensures
      c.in_ok-push.ensures.items (search rules),
  c.self.invariant.1,
  (let le = c.self.invariant.2 in search (rules, arith)),
)

pub returns-clause-pushed : goal.returns-clause-pushed
returns-clause-pushed g c =
    shown_and_pushed g.I.PartialEq.eq c.self.inside.forgotten.entries c.self.inside.first_goal c.self.inside.held.items
    c.self.inside.next c.args.self.now c.self.invariant.0 c.self.view_is c.self.inside.first_kept c.self.invariant.1
    c.self.invariant.2 c.args.input c.or-self-inside.result c.push.new.self.items c.in-Some.next
    c.or-self-inside.ensures c.in_ok-push.ensures.items (search rules)

pub returns-clause-number : goal.returns-clause-number
returns-clause-number g c =
    shown_next g.I.PartialEq.eq c.self.inside.forgotten.entries c.self.inside.first_goal c.self.inside.held.items
    c.self.inside.next c.args.self.now c.self.invariant.0 c.self.view_is
