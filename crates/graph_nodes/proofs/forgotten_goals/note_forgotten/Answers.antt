use Rattle.std.proofs.Common.{◌∙◌, ap, map, rules, sym}
use Rattle.std.specs.List.{list_any}
use Rattle.std.specs.Map.{lookup}
use Rattle.std.specs.Map.Iter.{deref}
use Rattle.std.proofs.lemmas.Map.Iter.{rest_so_far}
use Rattle.graph_nodes.specs.Words.{is_among}
use Rattle.graph_nodes.proofs.ShownNodes.{among_first, refused}
use Rattle.graph_nodes.proofs.forgotten_goals.note_forgotten.Goals as goal

pub returns-in_err-insert-clause-refused : goal.returns-in_err-insert-clause-refused
returns-in_err-insert-clause-refused g c =
    let same = g.I.PartialEq.eq in
    let keys = rest_so_far deref c.loop-goal.yielded c.into_iter-goal-iterator.result c.loop-goal.goal-iterator
    c.loop-goal.yielded_by in
    let as_before = c.in_err-insert.ensures.err in
    refused c.from_residual.result (
      is_among same (map deref c.loop-goal.yielded),
      (λ q. ap (lookup (same q)) as_before ∙ c.loop-goal.invariant q),
      among_first same (map deref c.loop-goal.yielded) _ c.args.gone.now.keys
          (sym c.into_iter-goal-iterator.ensures.into_iter_gives.0 ∙ keys),
    )
