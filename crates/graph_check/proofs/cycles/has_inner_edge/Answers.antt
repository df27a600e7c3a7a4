use Rattle.std.proofs.Common.{◌≡◌, ◌<◌, List, All, length, slice_get, slice_index, Contains, refl, sym, ◌∙◌, ap, subst}
use Rattle.std.proofs.Common.{arith, inl, inr}
use Rattle.std.proofs.lemmas.Bool.{cases_lt, false≢true}
use Rattle.std.proofs.lemmas.List.{length-map}
use Rattle.std.proofs.lemmas.List.Elements.{All-weaker}
use Rattle.std.proofs.lemmas.Option.{slice_get_read, same_Some}
use Rattle.graph_check.specs.Below.{Edge, Node, HasGoal, goal_node_of, goal_nodes_of}
use Rattle.search_context.proofs.Copies.{HasEdge-within, node_with_edge}
use Rattle.search_context.proofs.Graphs.{HasGoal-within}
use Rattle.graph_check.proofs.Places.{closed_at, edge_there}
use Rattle.graph_check.proofs.InnerEdges.{leading_of, leading_passes}
use Rattle.graph_check.proofs.cycles.has_inner_edge.Goals as goal

pub has_edge_to-requires : goal.has_edge_to-requires
has_edge_to-requires g c =
    let nodes = c.args.nodes.now in
    let numbers = c.args.numbers.now in
    let there = slice_get_read nodes (length nodes) c.loop-place.place c.index-nodes-place.result refl
    c.loop-place-test.true c.index-nodes-place.is in
    let size = length-map nodes goal_node_of in
    let each = c.requires.each in
    subst (λ (edges : List (Edge _)). All (λ e. e.target < length numbers) edges) (sym c.deref.ensures.value)
    (All-weaker (λ (e : Edge _). HasGoal (goal_nodes_of nodes) e.target e.input) (λ e. e.target < length numbers)
    (λ e h. let within = HasGoal-within (goal_nodes_of nodes) e.target e.input h in omega arith)
    c.index-nodes-place.result.edges.items
    (closed_at nodes c.loop-place.place c.index-nodes-place.result there c.requires.closed))

pub returns-then-has_edge_to : goal.returns-then-has_edge_to
returns-then-has_edge_to g c =
    let nodes = c.args.nodes.now in
    let numbers = c.args.numbers.now in
    let n = c.index-nodes-place.result in
    let there =
    slice_get_read nodes (length nodes) c.loop-place.place n refl c.loop-place-test.true c.index-nodes-place.is in
    let found = leading_of numbers (slice_index numbers c.loop-place.place) c.args.least c.args.most c.deref.result.now
    (sym c.has_edge_to.ensures ∙ c.if-has_edge_to.true) in (
      λ _. record {
        place = c.loop-place.place;
        edge = found.edge;
        has = edge_there nodes c.loop-place.place n found.edge there
            (subst (λ (edges : List (Edge _)). Contains edges found.edge) c.deref.ensures.value found.has);
        kind = found.kind;
        same = sym found.same;
      },
      λ _. refl,
    )

pub loop-place-preserved : goal.loop-place-preserved
loop-place-preserved g c = λ place e lt has kind same.
    let nodes = c.args.nodes.now in
    let numbers = c.args.numbers.now in
    let n = c.index-nodes-place.result in
    let there =
    slice_get_read nodes (length nodes) c.loop-place.place n refl c.loop-place-test.true c.index-nodes-place.is in
    elim (cases_lt place c.loop-place.place) [
      | inl below ↦ c.loop-place.invariant place e below has kind same
      | inr above ↦
          let here : place ≡ c.loop-place.place = omega arith in
          let own = node_with_edge nodes place e has in
          let one : own.0 ≡ n = same_Some own.0 n (sym own.1 ∙ (ap (slice_get nodes) here ∙ there)) in
          let among : Contains c.deref.result.now e =
          subst (λ (edges : List (Edge _)). Contains edges e)
          (ap (λ (m : Node _ _). m.edges.items) one ∙ sym c.deref.ensures.value) own.2 in
          false≢true (sym c.if-has_edge_to.false ∙ (c.has_edge_to.ensures ∙
          leading_passes numbers (slice_index numbers c.loop-place.place) c.args.least c.args.most c.deref.result.now
          (record { edge = e; has = among; kind = kind; same = sym same ∙ ap (slice_index numbers) here })))
    ]

pub returns : goal.returns
returns g c = (
  λ h. absurd (false≢true h),
  λ w.
      let nodes = c.args.nodes.now in
      let within = HasEdge-within (goal_nodes_of nodes) w.place w.edge w.has in
      let size = length-map nodes goal_node_of in
      absurd (c.loop-place.invariant w.place w.edge (omega arith) w.has w.kind w.same),
)
