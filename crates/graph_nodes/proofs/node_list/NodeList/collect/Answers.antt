use Rattle.std.proofs.Common.{drop, map, ap, ◌∙◌, sym, subst, refl}
use Rattle.graph_nodes.specs.Words.{IsRising, nodes_of, with_root}
use Rattle.graph_nodes.proofs.KeptNodes.{whole_end}
use Rattle.graph_nodes.proofs.LetGo.{later_rises, left_are_held, marks_of, split_of}
use Rattle.graph_nodes.proofs.ShownCollected.{shown_are_as_many, shown_are_collected, shown_stay}
use Rattle.graph_nodes.proofs.ShownNodes.{from_shown_are_held}
use Rattle.graph_nodes.proofs.node_list.NodeList.collect.Goals as goal

pub place_from-split-requires : goal.place_from-split-requires
place_from-split-requires g c =
    let same = g.I.PartialEq.eq in
    let goals = c.self.inside.forgotten.entries in
    let first_goal = c.self.inside.first_goal in
    let next = c.self.inside.next in
    let items = c.let_go_from.new.held.items in
    let are = from_shown_are_held same c.args.first goals c.let_go_from.new.forgotten.entries c.self.inside.held.items
    items c.let_go_from.ensures.shown first_goal next c.self.invariant.0 in
    subst IsRising (sym c.deref.ensures.value) are.rising

pub marked_from-requires : goal.marked_from-requires
marked_from-requires g c =
    let same = g.I.PartialEq.eq in
    let goals = c.self.inside.forgotten.entries in
    let first_goal = c.self.inside.first_goal in
    let next = c.self.inside.next in
    let items = c.let_go_from.new.held.items in
    let are = from_shown_are_held same c.args.first goals c.let_go_from.new.forgotten.entries c.self.inside.held.items
    items c.let_go_from.ensures.shown first_goal next c.self.invariant.0 in
    let split = split_of items c.deref.result.now c.args.first c.place_from-split.result c.deref.ensures.value
    c.place_from-split.ensures in
    subst IsRising (sym (whole_end c.deref-2.result.now c.place_from-split.result
    ∙ ap (drop c.place_from-split.result) c.deref-2.ensures.value))
    (later_rises items c.args.first c.place_from-split.result split are.rising)

pub keep_from-requires : goal.keep_from-requires
keep_from-requires g c =
    let items = c.let_go_from.new.held.items in
    let split = split_of items c.deref.result.now c.args.first c.place_from-split.result c.deref.ensures.value
    c.place_from-split.ensures in
    let marks = marks_of items c.deref-2.result.now c.place_from-split.result
    (map (λ r. r.0) (with_root c.args.last c.args.roots.now)) c.in_ok-marked.marked.items c.as_slice.result.now
    c.deref-2.ensures.value c.as_slice.ensures c.in_ok-marked.ensures in
    record { within = split.within; each = marks.each }

pub invariant_of-self : goal.invariant_of-self
invariant_of-self g c =
    let same = g.I.PartialEq.eq in
    let goals = c.self.inside.forgotten.entries in
    let first_goal = c.self.inside.first_goal in
    let next = c.self.inside.next in
    let items = c.let_go_from.new.held.items in
    let are = from_shown_are_held same c.args.first goals c.let_go_from.new.forgotten.entries c.self.inside.held.items
    items c.let_go_from.ensures.shown first_goal next c.self.invariant.0 in
    (are, c.let_go_from.ensures.earlier, c.self.invariant.2)

pub invariant_of-self-2 : goal.invariant_of-self-2
invariant_of-self-2 g c =
    let same = g.I.PartialEq.eq in
    let goals = c.self.inside.forgotten.entries in
    let first_goal = c.self.inside.first_goal in
    let next = c.self.inside.next in
    let items = c.let_go_from.new.held.items in
    let are = from_shown_are_held same c.args.first goals c.let_go_from.new.forgotten.entries c.self.inside.held.items
    items c.let_go_from.ensures.shown first_goal next c.self.invariant.0 in
    let split = split_of items c.deref.result.now c.args.first c.place_from-split.result c.deref.ensures.value
    c.place_from-split.ensures in
    let marks = marks_of items c.deref-2.result.now c.place_from-split.result
    (map (λ r. r.0) (with_root c.args.last c.args.roots.now)) c.in_ok-marked.marked.items c.as_slice.result.now
    c.deref-2.ensures.value c.as_slice.ensures c.in_ok-marked.ensures in (
      left_are_held items c.args.first c.place_from-split.result split first_goal next _ are refl
          (with_root c.args.last c.args.roots.now) c.as_slice.result.now marks c.keep_from.new.items.items
          c.keep_from.ensures,
      c.let_go_from.ensures.earlier,
      c.self.invariant.2,
    )

pub returns-clause-collected : goal.returns-clause-collected
returns-clause-collected g c =
    let same = g.I.PartialEq.eq in
    let goals = c.self.inside.forgotten.entries in
    let first_goal = c.self.inside.first_goal in
    let next = c.self.inside.next in
    let items = c.let_go_from.new.held.items in
    let are = from_shown_are_held same c.args.first goals c.let_go_from.new.forgotten.entries c.self.inside.held.items
    items c.let_go_from.ensures.shown first_goal next c.self.invariant.0 in
    let split = split_of items c.deref.result.now c.args.first c.place_from-split.result c.deref.ensures.value
    c.place_from-split.ensures in
    let marks = marks_of items c.deref-2.result.now c.place_from-split.result
    (map (λ r. r.0) (with_root c.args.last c.args.roots.now)) c.in_ok-marked.marked.items c.as_slice.result.now
    c.deref-2.ensures.value c.as_slice.ensures c.in_ok-marked.ensures in
    let view = ap (λ l. nodes_of first_goal l next) c.let_go_from.ensures.shown.same_shown ∙ c.self.view_is in
    shown_are_collected g.I.PartialEq.eq c.let_go_from.new.forgotten.entries items c.args.first
    c.place_from-split.result split c.let_go_from.ensures.shown.later first_goal next c.args.self.now are view
    (with_root c.args.last c.args.roots.now) c.as_slice.result.now marks c.keep_from.new.items.items
    c.keep_from.ensures c.requires

pub returns-clause-earlier : goal.returns-clause-earlier
returns-clause-earlier g c =
    let same = g.I.PartialEq.eq in
    let goals = c.self.inside.forgotten.entries in
    let first_goal = c.self.inside.first_goal in
    let next = c.self.inside.next in
    let items = c.let_go_from.new.held.items in
    let are = from_shown_are_held same c.args.first goals c.let_go_from.new.forgotten.entries c.self.inside.held.items
    items c.let_go_from.ensures.shown first_goal next c.self.invariant.0 in
    let split = split_of items c.deref.result.now c.args.first c.place_from-split.result c.deref.ensures.value
    c.place_from-split.ensures in
    let marks = marks_of items c.deref-2.result.now c.place_from-split.result
    (map (λ r. r.0) (with_root c.args.last c.args.roots.now)) c.in_ok-marked.marked.items c.as_slice.result.now
    c.deref-2.ensures.value c.as_slice.ensures c.in_ok-marked.ensures in
    let view = ap (λ l. nodes_of first_goal l next) c.let_go_from.ensures.shown.same_shown ∙ c.self.view_is in
    shown_stay g.I.PartialEq.eq c.let_go_from.new.forgotten.entries items c.args.first c.place_from-split.result split
    c.let_go_from.ensures.shown.later first_goal next c.args.self.now are view
    (with_root c.args.last c.args.roots.now) c.as_slice.result.now marks c.keep_from.new.items.items
    c.keep_from.ensures

pub returns-clause-as_many : goal.returns-clause-as_many
returns-clause-as_many g c =
    let same = g.I.PartialEq.eq in
    let goals = c.self.inside.forgotten.entries in
    let first_goal = c.self.inside.first_goal in
    let next = c.self.inside.next in
    let items = c.let_go_from.new.held.items in
    let are = from_shown_are_held same c.args.first goals c.let_go_from.new.forgotten.entries c.self.inside.held.items
    items c.let_go_from.ensures.shown first_goal next c.self.invariant.0 in
    let split = split_of items c.deref.result.now c.args.first c.place_from-split.result c.deref.ensures.value
    c.place_from-split.ensures in
    let marks = marks_of items c.deref-2.result.now c.place_from-split.result
    (map (λ r. r.0) (with_root c.args.last c.args.roots.now)) c.in_ok-marked.marked.items c.as_slice.result.now
    c.deref-2.ensures.value c.as_slice.ensures c.in_ok-marked.ensures in
    let view = ap (λ l. nodes_of first_goal l next) c.let_go_from.ensures.shown.same_shown ∙ c.self.view_is in
    shown_are_as_many g.I.PartialEq.eq c.let_go_from.new.forgotten.entries items c.args.first
    c.place_from-split.result split c.let_go_from.ensures.shown.later first_goal next c.args.self.now are view
    (with_root c.args.last c.args.roots.now) c.as_slice.result.now marks c.keep_from.new.items.items
    c.keep_from.ensures
