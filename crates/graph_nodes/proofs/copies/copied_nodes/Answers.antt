use Rattle.std.proofs.Common.{◌≡◌, ◌+◌, ◌<◌, length, arith, sym, ◌∙◌, ap, length-append}
use Rattle.graph_nodes.specs.Words.{finished_node, ended_node}
use Rattle.graph_nodes.proofs.HandedOut.{is_some_at, root_begins, next_begun, fewer_copied, not_whole, copies}
use Rattle.graph_nodes.proofs.copies.copied_nodes.Goals as goal

-- the root is found
pub loop-number-init : goal.loop-number-init
loop-number-init g c =
    rw c.new-copy.ensures.items
    (root_begins c.args.nodes.now c.args.root.0 c.place_of.new.self c.in_ok-place_of.field-0
    c.in_ok-place_of.ensures.place (rw c.new-found.ensures at c.place_of.ensures.finds))

-- a node that is reached isn't finished
pub returns-in_default-finished : goal.returns-in_default-finished
returns-in_default-finished g c =
    not_whole c.args.nodes.now c.args.root.0 c.loop-number.copy.items c.loop-number.found
    c.loop-number.invariant c.in-Some.number
    (let here : c.len.result ≡ length c.loop-number.copy.items = omega arith in
    sym (rw here at c.in-Some.ensures.number)) (sym c.in_default-finished.ensures)

-- fewer nodes are left
pub loop-number-smaller : goal.loop-number-smaller
loop-number-smaller g c =
    let l : length c.loop-number.copy.items < length c.args.nodes.now =
    fewer_copied c.args.nodes.now c.args.root.0 c.loop-number.copy.items c.loop-number.found c.loop-number.invariant
    c.in-Some.ensures.distinct c.in-Some.number
    (let here : c.len.result ≡ length c.loop-number.copy.items = omega arith in
    sym (rw here at c.in-Some.ensures.number)) (is_some_at (finished_node c.args.nodes.now c.in-Some.number)
    (ended_node c.in-Some-finished.finished.now) (sym c.in-Some-finished.ensures)) in
    let one_more : length c.push.new.self.items ≡ length c.loop-number.copy.items + 1 =
    ap length c.in_ok-push.ensures.items ∙ simp length-append (omega arith) in
    omega arith

-- one more node is copied
pub loop-number-preserved : goal.loop-number-preserved
loop-number-preserved g c =
    rw c.in_ok-push.ensures.items
    (next_begun c.args.nodes.now c.args.root.0 c.loop-number.copy.items c.loop-number.found
    c.loop-number.invariant c.in-Some.number
    (let here : c.len.result ≡ length c.loop-number.copy.items = omega arith in
    sym (rw here at c.in-Some.ensures.number))
    c.in-Some-finished.finished.now c.in_ok-copied.field-0 (sym c.in-Some-finished.ensures) c.copied.new.found
    c.copied.ensures.finds c.in_ok-copied.ensures.same c.in_ok-copied.ensures.inside)

-- all that is reached is copied
pub returns : goal.returns
returns g c = (
  c.loop-number.found,
  copies c.args.nodes.now c.args.root.0 c.loop-number.copy.items c.loop-number.found c.loop-number.invariant
      (let here : c.len.result ≡ length c.loop-number.copy.items = omega arith in
      sym (rw here at c.in_default.ensures.number)) c.in_default.ensures.distinct,
)
