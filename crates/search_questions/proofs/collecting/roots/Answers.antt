use Rattle.std.proofs.Common.{◌++◌, ap, subst, sym, ◌∙◌}
use Rattle.std.specs.List.{Contains}
use Rattle.search_questions.proofs.nodes.LettingGo.{has_more}
use Rattle.search_questions.proofs.collecting.roots.Goals as goal

pub returns : goal.returns
returns g c = record {
  noted_are =
      let stored = c.in_ok-extend_from_slice.ensures.items
      ∙ (ap (λ l. l ++ c.as_slice-stored.result.now) c.in_ok-roots.ensures.items ∙ c.as_slice-stored.ensures.value) in
      λ n has. c.push_nodes-2.ensures.kept n (c.push_nodes.ensures.kept n (subst (λ l. Contains l n) (sym stored) has));
  goals = has_more c.push_nodes.new.nodes.items c.push_nodes-2.new.nodes.items c.push_nodes-2.ensures.kept
      c.args.evaluation.now.goals c.in_ok-push_nodes.ensures.nodes;
  entries = c.in_ok-push_nodes-2.ensures.nodes;
}
