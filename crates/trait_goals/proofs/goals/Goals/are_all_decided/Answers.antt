use Rattle.std.proofs.Common.{◌↔◌, sym, subst}
use Rattle.std.specs.Prelude.{IsTrue}
use Rattle.strong_components.specs.Words.{AreComponents, StaysInside, successor_lists}
use Rattle.trait_goals.specs.Decided.{AreAllAlike}
use Rattle.trait_goals.proofs.Alike.{all_known, decided_if, stays}
use Rattle.trait_goals.proofs.goals.Goals.are_all_decided.Goals as goal

pub components-requires : goal.components-requires
components-requires c = record {
  inside = subst (λ l. StaysInside (successor_lists l)) (sym c.as_slice.ensures.value)
      (stays c.args.self.now c.asked-asked.ensures.right (successor_lists c.in_ok-graph.graph.items)
      c.in_ok-graph.ensures);
}

pub returns : goal.returns
returns c =
    let table = c.args.self.now in
    let graph = successor_lists c.in_ok-graph.graph.items in
    let numbers = c.in_ok-numbers.numbers.items in
    decided_if table c.asked-asked.ensures.right graph c.in_ok-graph.ensures numbers
    (subst (λ l. AreComponents (successor_lists l) numbers) c.as_slice.ensures.value c.in_ok-numbers.ensures)
    (all_known table c.first_unknown.result c.first_unknown.ensures (let no = c.if-is_some.false in cc))
    (c.have_decided_kinds.ensures.0 (let yes = c.if-not-have_decided_kinds.false in cc))
    c.are_all_alike.result
    (subst (λ l. IsTrue c.are_all_alike.result ↔ AreAllAlike table (successor_lists l) numbers)
    c.as_slice-2.ensures.value
    (subst (λ n. IsTrue c.are_all_alike.result
    ↔ AreAllAlike table (successor_lists c.as_slice-2.result.now) n) c.as_slice-3.ensures.value
    c.are_all_alike.ensures))
