use Rattle.std.proofs.Common.{[], Some, refl, arith}
use Rattle.std.specs.Option.{IsSome}
use Rattle.std.proofs.lemmas.Grind.{common_steps}
use Rattle.global_cache.specs.Below.{verdicts, finished_node, IsWhole, IsCopyFrom}
use Rattle.global_cache.proofs.Copied.{is_copy, whole_is_there, there_is_whole, whole_is_good}
use Rattle.graph_nodes.proofs.Definites.{definite_is_whole}
use Rattle.graph_nodes.proofs.HandedOut.{copy_is_whole}
use Rattle.graph_nodes.proofs.ValidCopies.{yes_is_valid, no_is_valid}
use Rattle.global_cache.proofs.GlobalCache.graph_of.Goals as goal

-- the root isn't finished, so no definite result has this node
pub returns-then-is_none-clause-valid_yes : goal.returns-then-is_none-clause-valid_yes
returns-then-is_none-clause-valid_yes g c = λ goal r has is.
    let whole : IsWhole c.args.self.now.nodes c.args.node.0 =
    definite_is_whole (verdicts g.D.Cx.Cx) c.args.self.now.nodes goal r (Some c.args.node) has in
    let some : IsSome (finished_node c.args.self.now.nodes c.args.node.0) = whole c.args.node.0 ([], refl) in
    grind (arith, common_steps)

pub returns-then-is_none-clause-valid_no : goal.returns-then-is_none-clause-valid_no
returns-then-is_none-clause-valid_no g c = λ goal r has is.
    let whole : IsWhole c.args.self.now.nodes c.args.node.0 =
    definite_is_whole (verdicts g.D.Cx.Cx) c.args.self.now.nodes goal r (Some c.args.node) has in
    let some : IsSome (finished_node c.args.self.now.nodes c.args.node.0) = whole c.args.node.0 ([], refl) in
    grind (arith, common_steps)

-- what is handed out is a copy where all that is reached is finished
pub returns-clause-copied : goal.returns-clause-copied
returns-clause-copied g c =
    is_copy (IsWhole c.args.self.now.nodes c.args.node.0)
    (λ graph. IsCopyFrom c.args.self.now.nodes c.args.node.0 graph.nodes.items)
    c.copied_from.result c.copied_from.ensures

pub returns-clause-whole : goal.returns-clause-whole
returns-clause-whole g c =
    whole_is_there (IsWhole c.args.self.now.nodes c.args.node.0)
    (λ graph. IsCopyFrom c.args.self.now.nodes c.args.node.0 graph.nodes.items)
    c.copied_from.result c.copied_from.ensures

pub returns-clause-not_whole : goal.returns-clause-not_whole
returns-clause-not_whole g c =
    there_is_whole (IsWhole c.args.self.now.nodes c.args.node.0)
    (λ graph. IsCopyFrom c.args.self.now.nodes c.args.node.0 graph.nodes.items)
    (λ graph copy. copy_is_whole c.args.self.now.nodes c.args.node.0 graph.nodes.items copy.0 copy.1)
    c.copied_from.result c.copied_from.ensures

pub returns-clause-valid_yes : goal.returns-clause-valid_yes
returns-clause-valid_yes g c = λ goal r has is.
    whole_is_good (IsWhole c.args.self.now.nodes c.args.node.0)
    (λ graph. IsCopyFrom c.args.self.now.nodes c.args.node.0 graph.nodes.items) _
    (λ graph copy. yes_is_valid (verdicts g.D.Cx.Cx) (g.D.Delegate.script c.args.self.now.cx) c.args.self.now.nodes
    c.has_runs.ensures c.args.node.0 graph.nodes.items copy.0 copy.1
    goal r c.args.node refl has is) c.copied_from.result c.copied_from.ensures
    (definite_is_whole (verdicts g.D.Cx.Cx) c.args.self.now.nodes goal r (Some c.args.node) has)

pub returns-clause-valid_no : goal.returns-clause-valid_no
returns-clause-valid_no g c = λ goal r has is.
    whole_is_good (IsWhole c.args.self.now.nodes c.args.node.0)
    (λ graph. IsCopyFrom c.args.self.now.nodes c.args.node.0 graph.nodes.items) _
    (λ graph copy. no_is_valid (verdicts g.D.Cx.Cx) (g.D.Delegate.script c.args.self.now.cx) c.args.self.now.nodes
    c.has_runs.ensures c.args.node.0 graph.nodes.items copy.0 copy.1
    goal r c.args.node refl (g.met.D.Cx.Cx.one_sort r) has is) c.copied_from.result c.copied_from.ensures
    (definite_is_whole (verdicts g.D.Cx.Cx) c.args.self.now.nodes goal r (Some c.args.node) has)
