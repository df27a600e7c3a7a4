use Rattle.std.proofs.Common.{◌≡◌, ℕ, arith, map, subst, sym}
use Rattle.std.specs.Global.{Vec}
use Rattle.std.proofs.lemmas.Result.{IfOk-weaker}
use Rattle.strong_components.specs.Words.{AreComponents, successor_lists, number_of}
use Rattle.strong_components.proofs.Numbers.{numbers_are_components}
use Rattle.strong_components.proofs.Rows.{length-successor_lists}
use Rattle.strong_components.proofs.components.Goals as goal

pub returns : goal.returns
returns c =
    let graph = successor_lists c.args.graph.now in
    let s = c.explore_all.new.self in
    let done = c.in_ok-explore_all.ensures in
    let long = length-successor_lists c.args.graph.now in
    let are = numbers_are_components graph s.states.items s.left.items s.opened.items s.starts.items s.path.items
    s.closed done.ongoing done.idle (λ a lt. done.all a (omega arith)) c.requires.inside in
    IfOk-weaker c.into_numbers.result (λ (numbers : Vec ℕ). numbers.items ≡ map number_of s.states.items)
    (λ (numbers : Vec ℕ). AreComponents graph numbers.items)
    (λ numbers is. subst (AreComponents graph) (sym is) are) c.into_numbers.ensures
