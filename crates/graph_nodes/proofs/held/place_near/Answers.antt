use Rattle.std.proofs.Common.{◌-◌, drop, rules, take}
use Rattle.std.proofs.lemmas.List.Sorted.{answers_always}
use Rattle.graph_nodes.proofs.NearNodes.{found_in_part, missing_in_part, part_rises}
use Rattle.graph_nodes.proofs.SearchedNodes.{found_number, gap_none}
use Rattle.graph_nodes.proofs.held.place_near.Goals as goal

pub returns-in-Ok : goal.returns-in-Ok
returns-in-Ok g c =
    let by_key = c.in-Ok.ensures.position (λ e. e.number) (answers_always _ _ _ (λ f a r g called. search rules)) in
    let low = c.window_near-low.result.0 in
    let high = c.window_near-low.result.1 in
    found_in_part c.args.held.now c.requires low high c.args.number c.window_near-low.ensures c.in-Ok.behind
    (found_number (take (high - low) (drop low c.args.held.now))
    (part_rises c.args.held.now c.requires low high c.args.number c.window_near-low.ensures) c.args.number
    c.in-Ok.behind c.in-Ok.ensures.bound by_key)

pub returns-in-Err : goal.returns-in-Err
returns-in-Err g c =
    let by_key = c.in-Err.ensures.position (λ e. e.number) (answers_always _ _ _ (λ f a r g called. search rules)) in
    let low = c.window_near-low.result.0 in
    let high = c.window_near-low.result.1 in
    missing_in_part c.args.held.now c.requires low high c.args.number c.window_near-low.ensures
    (gap_none (take (high - low) (drop low c.args.held.now))
    (part_rises c.args.held.now c.requires low high c.args.number c.window_near-low.ensures) c.args.number
    c.in-Err.field-0 c.in-Err.ensures.bound by_key)
