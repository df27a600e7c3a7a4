use Rattle.std.proofs.Common.{ap, sym, ◌∙◌, ◌++◌}
use Rattle.std.proofs.lemmas.List.{append-nil}
use Rattle.std.proofs.lemmas.Map.Iter.{rest_more, rest_all}
use Rattle.std.specs.Map.Iter.{deref_pair}
use Rattle.provisional_cache.specs.Words.{lists_of, nodes_in, nodes_of}
use Rattle.provisional_cache.proofs.EntryNodes.{appends_first}
use Rattle.provisional_cache.proofs.nodes.push_nodes_of_lists.Goals as goal

pub loop-entries-preserved : goal.loop-entries-preserved
loop-entries-preserved g c =
    let first = ap lists_of (rest_more deref_pair c.loop-entries.entries-iterator c.next.new.self c.next.result
    (c.in-Some.field-0-0, c.in-Some.entries) c.in-Some.is c.next.ensures.steps) in
    let old = c.loop-entries.nodes.items in
    let rest = nodes_in (lists_of c.next.new.self) in
    let pushed = c.in-Ok.ensures.pushed ∙ ap (λ list. old ++ nodes_of list) c.as_slice.ensures.value in
    record {
      kept = λ n within. c.push_nodes_of_list.ensures.kept n (c.loop-entries.invariant.kept n within);
      pushed = appends_first _ old _ (nodes_of c.in-Some.entries.now.items) rest _ (ap nodes_in first)
          pushed c.loop-entries.invariant.pushed;
    }

pub returns-clause-pushed : goal.returns-clause-pushed
returns-clause-pushed g c =
    let none = rest_all deref_pair c.loop-entries.entries-iterator c.next.new.self c.next.result
    c.in-None.is c.next.ensures.steps in
    let whole = c.into_iter-entries-iterator.ensures.into_iter_gives ∙ c.iter-entries-items.ensures.rest in
    sym (append-nil c.loop-entries.nodes.items)
    ∙ ap (λ lists. c.loop-entries.nodes.items ++ nodes_in (lists_of lists)) (sym none) ∙ c.loop-entries.invariant.pushed
    ∙ ap (λ lists. c.args.nodes.now.items ++ nodes_in (lists_of lists)) whole
