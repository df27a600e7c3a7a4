use Rattle.std.proofs.Common.{◌≡◌, ◌∙◌, ap, IfOk, length, map, rules, subst}
use Rattle.std.proofs.lemmas.Iterator.{YieldsList-from_map, YieldsList-from_slice, items_from_collect}
use Rattle.std.specs.Vec.{vec_items, vec_len}
use Rattle.strong_components.specs.Words.{successor_lists}
use Rattle.strong_components.proofs.Starting.{starts_as, told_lengths, told_states}
use Rattle.strong_components.proofs.search.Search.new.Goals as goal

pub returns-clause-ongoing : goal.returns-clause-ongoing
returns-clause-ongoing c =
    let graph = c.args.graph.now in
    let read : IfOk c.collect.result (λ w. vec_items w ≡ map vec_len graph) =
    items_from_collect c.collect.result c.collect.ensures.ran
    (YieldsList-from_map _ vec_len (YieldsList-from_slice graph (cc)) (cc) (λ x r q k. search rules)) in
    let left : c.in_ok-collect.field-0.items ≡ map vec_len graph =
    subst (λ r. IfOk r (λ w. vec_items w ≡ map vec_len graph)) c.in_ok-collect.was read in
    let states =
    told_states graph c.in_ok-vec.field-0.items (c.in_ok-vec.ensures.items_if_clones_equal (λ y same. same)) in
    starts_as (successor_lists graph) c.in_ok-vec.field-0.items c.in_ok-collect.field-0.items c.new.result.items
    c.new-2.result.items c.new-3.result.items states (left ∙ told_lengths graph)
    c.new.ensures.items c.new-2.ensures.items c.new-3.ensures.items

pub returns-clause-idle : goal.returns-clause-idle
returns-clause-idle c = ap length c.new-3.ensures.items
