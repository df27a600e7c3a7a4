use Rattle.std.proofs.Common.{sym, ◌∙◌, arith}
use Rattle.path_kinds.proofs.PathSets.{same_bits, extended-weaker, extended-same}
use Rattle.path_kinds.proofs.path.PathsToNested.extend_with.Goals as goal

pub returns-then-intersects : goal.returns-then-intersects
returns-then-intersects c =
    let weaker = c.weaker_than-weaker.result.0 in
    let some = sym (c.intersects.ensures tt) ∙ c.if-intersects.true in
    let raised = extended-weaker c.args.self c.args.step weaker (omega arith) c.weaker_than-weaker.ensures some in
    let removed = c.remove.ensures tt in
    let inserted = c.insert.ensures tt in
    same_bits _ _ (cc)

pub returns-else-intersects : goal.returns-else-intersects
returns-else-intersects c =
    let weaker = c.weaker_than-weaker.result.0 in
    let none = sym (c.intersects.ensures tt) ∙ c.if-intersects.false in
    sym (extended-same c.args.self c.args.step weaker (omega arith) c.weaker_than-weaker.ensures none)
