use Rattle.std.proofs.Common.{◌<◌, ◌+◌, length, arith, sym, ◌∙◌, subst, below_more}
use Rattle.std.proofs.lemmas.List.{get_or_read}
use Rattle.strong_components.specs.Words.{New, Search, successor_lists}
use Rattle.strong_components.proofs.Idle.{IsIdle, found_with, new_by_test, open_root, seen_by_test}
use Rattle.strong_components.proofs.Rows.{length-successor_lists}
use Rattle.strong_components.proofs.search.Search.explore_all.Goals as goal
use Rattle.strong_components.proofs.search.Search.explore_all.Goals.{then-is_new+in_ok-open_place+in_ok-explore}
use Rattle.strong_components.proofs.search.Search.explore_all.Goals.{else-is_new}

pub explore-requires-clause-ongoing : goal.explore-requires-clause-ongoing
explore-requires-clause-ongoing c =
    let s = c.loop-place.self in
    let fit = c.loop-place.invariant.ongoing.fit in
    let long = length-successor_lists c.args.graph.now in
    let inside : c.loop-place.place < length s.states.items = omega arith in
    let read = get_or_read s.states.items _ _ inside c.index.ensures New in
    let was_new = sym read ∙ new_by_test c.index.result.now (sym c.is_new.ensures ∙ c.if-is_new.true) in
    open_root (successor_lists c.args.graph.now) s c.open_place.new.self c.loop-place.place
    c.loop-place.invariant.ongoing c.loop-place.invariant.idle was_new inside c.in_ok-open_place.ensures

pub loop-place-preserved : goal.loop-place-preserved
loop-place-preserved c =
    let graph = successor_lists c.args.graph.now in
    let s = c.loop-place.self in
    let fit = c.loop-place.invariant.ongoing.fit in
    let long = length-successor_lists c.args.graph.now in
    let inside : c.loop-place.place < length s.states.items = omega arith in
    elim c.if-is_new.branch [
      | then-is_new+in_ok-open_place+in_ok-explore w ↦
          let now : IsIdle graph w.explore.new.self (c.loop-place.place + 1) = record {
            ongoing = w.in_ok-explore.ensures.ongoing;
            idle = w.in_ok-explore.ensures.idle;
            found = λ a lt. w.in_ok-explore.ensures.seen a (found_with s w.open_place.new.self c.loop-place.place inside
                w.in_ok-open_place.ensures c.loop-place.invariant.found a lt);
          } in
          subst (λ (t : Search). IsIdle graph t (c.loop-place.place + 1)) (sym w.self-is) now
      | else-is_new w ↦
          let read = get_or_read s.states.items _ _ inside c.index.ensures New in
          let seen = seen_by_test c.index.result.now (sym c.is_new.ensures ∙ w.if-is_new.false) in
          let now : IsIdle graph s (c.loop-place.place + 1) = record {
            ongoing = c.loop-place.invariant.ongoing;
            idle = c.loop-place.invariant.idle;
            found = below_more _ _ c.loop-place.invariant.found (λ is. seen (read ∙ is));
          } in
          subst (λ (t : Search). IsIdle graph t (c.loop-place.place + 1)) (sym w.self-is) now
    ]
