use Rattle.std.proofs.Common.{arith, ap, sym, ◌∙◌, ◌++◌, Some, None, take}
use Rattle.std.proofs.lemmas.List.{append-nil, take_all}
use Rattle.provisional_cache.specs.Words.{nodes_of}
use Rattle.provisional_cache.proofs.EntryNodes.{appends_next, kept_by_append, where_ok}
use Rattle.provisional_cache.proofs.nodes.push_nodes_of_list.Goals as goal
use Rattle.provisional_cache.proofs.nodes.push_nodes_of_list.Goals.{in-Some+in_ok-push, in_default}

pub loop-entry-preserved : goal.loop-entry-preserved
loop-entry-preserved g c =
    let next = appends_next c.args.entries.now c.loop-entry.entry-index c.entry-item.result c.loop-entry-test.true
    c.entry-item.is c.args.nodes.now.items c.loop-entry.nodes.items c.match-entry.nodes.items in
    elim c.match-entry.branch [
      | in-Some+in_ok-push w ↦ next (Some w.in-Some.node) w.in-Some.is c.loop-entry.invariant
          (ap (λ v. v.items) w.nodes-is ∙ w.in_ok-push.ensures.items)
      | in_default w ↦ next None w.in_default.is c.loop-entry.invariant
          (ap (λ v. v.items) w.nodes-is ∙ sym (append-nil c.loop-entry.nodes.items))
    ]

pub returns-clause-kept : goal.returns-clause-kept
returns-clause-kept g c = kept_by_append c.args.nodes.now.items c.loop-entry.nodes.items
    (nodes_of (take c.loop-entry.entry-index c.args.entries.now)) c.loop-entry.invariant

pub loop-entry-init : goal.loop-entry-init
loop-entry-init g c = sym (append-nil c.args.nodes.now.items)

pub offset_bounds-entries-entry-index : goal.offset_bounds-entries-entry-index
offset_bounds-entries-entry-index g c = c.loop-entry.auto.entry-index-end

pub bounds-entries-entry-index : goal.bounds-entries-entry-index
bounds-entries-entry-index g c = c.loop-entry-test.true

pub returns-in_err-push-clause-kept : goal.returns-in_err-push-clause-kept
returns-in_err-push-clause-kept g c =
    kept_by_append c.args.nodes.now.items c.push.new.self.items
    (nodes_of (take c.loop-entry.entry-index c.args.entries.now)) (c.in_err-push.ensures.items ∙ c.loop-entry.invariant)

pub returns-in_err-push-clause-pushed : goal.returns-in_err-push-clause-pushed
returns-in_err-push-clause-pushed g c = where_ok c.from_residual.result _ c.from_residual.ensures.0

pub loop-entry-smaller : goal.loop-entry-smaller
loop-entry-smaller g c = omega (arith, c.loop-entry-test.true)

pub returns-clause-pushed : goal.returns-clause-pushed
returns-clause-pushed g c = c.loop-entry.invariant ∙ ap (λ list. c.args.nodes.now.items ++ nodes_of list)
    (take_all c.loop-entry.entry-index c.args.entries.now c.loop-entry-test.false)
