use Rattle.std.proofs.Common.{rules}
use Rattle.std.proofs.lemmas.List.Sorted.{answers_always}
use Rattle.graph_nodes.proofs.SearchedNodes.{found_split, gap_split}
use Rattle.graph_nodes.proofs.held.place_from.Goals as goal

pub returns-in-Ok : goal.returns-in-Ok
returns-in-Ok g c =
    let by_key = c.in-Ok.ensures.position (λ e. e.number) (answers_always _ _ _ (λ f a r g called. search rules)) in
    found_split c.args.held.now c.requires c.args.first c.in-Ok.place c.in-Ok.ensures.bound by_key

pub returns-in-Err : goal.returns-in-Err
returns-in-Err g c =
    let by_key = c.in-Err.ensures.position (λ e. e.number) (answers_always _ _ _ (λ f a r g called. search rules)) in
    gap_split c.args.held.now c.requires c.args.first c.in-Err.place c.in-Err.ensures.bound by_key
