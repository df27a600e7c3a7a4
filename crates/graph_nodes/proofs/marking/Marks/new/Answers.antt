use Rattle.std.proofs.Common.{rules, subst₂, sym}
use Rattle.graph_nodes.specs.Words.{AreNone}
use Rattle.graph_nodes.proofs.MarkedNodes.{none_of}
use Rattle.graph_nodes.proofs.marking.Marks.new.Goals as goal

pub returns : goal.returns
returns c =
    subst₂ (AreNone c.args.count) (sym (c.in_ok-from_elem.ensures.items_if_clones_equal (λ y is. search rules)))
    (sym c.in_ok-with_capacity.ensures.items) (none_of c.args.count)
