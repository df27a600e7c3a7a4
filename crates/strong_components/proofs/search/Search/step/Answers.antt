use Rattle.std.proofs.Common.{◌<◌, length, rules, arith, ap}
use Rattle.strong_components.specs.Words.{successor_lists}
use Rattle.strong_components.proofs.Steps.{has_step, in_graph, in_left, is_open, left_in_row, step_is_less}
use Rattle.strong_components.proofs.Steps.{step_keeps, successor_inside}
use Rattle.strong_components.proofs.search.Search.step.Goals as goal

pub index-left-requires : goal.index-left-requires
index-left-requires c =
    let s = c.args.self.now in
    let inside =
    in_left c.args.graph.now s c.args.position _ c.requires.ongoing c.requires.last c.index-place.ensures in
    omega (arith, s.left.ok.0)

pub bounds-graph-place : goal.bounds-graph-place
bounds-graph-place c =
    in_graph c.args.graph.now c.args.self.now c.args.position _ c.requires.ongoing c.requires.last c.index-place.ensures

pub offset_bounds-graph-place : goal.offset_bounds-graph-place
offset_bounds-graph-place c =
    let lt : c.index-place.result.now < length c.args.graph.now =
    in_graph c.args.graph.now c.args.self.now c.args.position _ c.requires.ongoing
    c.requires.last c.index-place.ensures in
    search rules

pub index-requires : goal.index-requires
index-requires c =
    let row = c.index-graph-place.result in
    let low = left_in_row c.args.graph.now c.args.self.now c.args.position _ c.requires.ongoing c.requires.last
    c.index-place.ensures _ c.index-left.ensures row c.index-graph-place.is in
    omega (arith, row.ok.0, c.if-left-eq0.false)

pub look_at-requires : goal.look_at-requires
look_at-requires c = record {
  inside = successor_inside c.args.graph.now c.args.self.now c.args.position _ c.requires.ongoing c.requires.last
      c.index-place.ensures _ c.index-left.ensures c.index-graph-place.result c.index-graph-place.is _ _
      (omega (arith, c.if-left-eq0.false)) c.index.ensures c.requires.inside;
}

pub index_mut-requires : goal.index_mut-requires
index_mut-requires c =
    let s = c.args.self.now in
    let inside =
    in_left c.args.graph.now s c.args.position _ c.requires.ongoing c.requires.last c.index-place.ensures in
    let same = ap length c.in_ok-look_at.ensures.left in
    omega (arith, c.look_at.new.self.left.ok.0)

pub returns-in_ok-look_at-clause-ongoing : goal.returns-in_ok-look_at-clause-ongoing
returns-in_ok-look_at-clause-ongoing c =
    let graph = c.args.graph.now in
    let s = c.args.self.now in
    let is_top = is_open graph s c.args.position _ c.requires.ongoing c.requires.last c.index-place.ensures in
    let step =
    has_step graph s c.args.position _ c.requires.ongoing c.requires.last c.index-place.ensures _ c.index-left.ensures
    c.index-graph-place.result c.index-graph-place.is _ _ (omega (arith, c.if-left-eq0.false)) c.index.ensures in
    step_keeps graph s c.args.position _ c.requires.ongoing c.requires.last c.index-place.ensures _ c.index-left.ensures
    c.index-graph-place.result c.index-graph-place.is _ _ (omega (arith, c.if-left-eq0.false)) c.index.ensures
    c.look_at.new.self c.in_ok-look_at.ensures.left
    (c.in_ok-look_at.ensures.ongoing (successor_lists graph) c.index-place.result.now c.args.position
    c.requires.ongoing c.requires.last is_top step)

pub returns-in_ok-look_at-clause-less : goal.returns-in_ok-look_at-clause-less
returns-in_ok-look_at-clause-less c =
    step_is_less c.args.graph.now c.args.self.now c.args.position _ c.requires.ongoing c.requires.last
    c.index-place.ensures _ c.index-left.ensures c.index-graph-place.result c.index-graph-place.is _ c.index.result.now
    (omega (arith, c.if-left-eq0.false)) c.index.ensures
    c.look_at.new.self.left.items c.look_at.new.self.path.items
    c.in_ok-look_at.ensures.left c.in_ok-look_at.ensures.path
