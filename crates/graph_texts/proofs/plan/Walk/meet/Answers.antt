use Rattle.std.proofs.Common.{ap, arith, length, refl, sym, ◌∙◌}
use Rattle.graph_texts.specs.Plan.{pending_of}
use Rattle.graph_texts.proofs.Plans.{cut_deep, cut_past, walk_cut}
use Rattle.graph_texts.proofs.Replay.{line_met}
use Rattle.graph_texts.proofs.plan.Walk.meet.Goals as goal

pub returns-in_ok-show-in-Some-Unseen-clause-replayed : goal.returns-in_ok-show-in-Some-Unseen-clause-replayed
returns-in_ok-show-in-Some-Unseen-clause-replayed c = let line = c.in_ok-show-in-Some-Unseen.ensures.line in
    line_met c.args.nodes.now _ _ _ _ c.args.self.now.stack.items c.show.new.self.stack.items c.requires.expected refl
    (c.len-level.ensures ∙ c.args.self.now.stack.ok.0) line.1 c.in_ok-show-in-Some-Unseen.ensures.stack

pub returns-in_ok-again-in-Some-Open-clause-replayed : goal.returns-in_ok-again-in-Some-Open-clause-replayed
returns-in_ok-again-in-Some-Open-clause-replayed c =
    line_met c.args.nodes.now _ _ _ _ c.args.self.now.stack.items c.again.new.self.stack.items c.requires.expected refl
    (c.len-level.ensures ∙ c.args.self.now.stack.ok.0) c.in_ok-again-in-Some-Open.ensures.line
    (ap (λ o. pending_of o.items) c.again.ensures.stack)

pub returns-in_ok-again-in-Some-Done-clause-replayed : goal.returns-in_ok-again-in-Some-Done-clause-replayed
returns-in_ok-again-in-Some-Done-clause-replayed c =
    line_met c.args.nodes.now _ _ _ _ c.args.self.now.stack.items c.again-in-Some-Done.new.self.stack.items
    c.requires.expected refl (c.len-level.ensures ∙ c.args.self.now.stack.ok.0) c.in_ok-again-in-Some-Done.ensures.line
    (ap (λ o. pending_of o.items) c.again-in-Some-Done.ensures.stack)

pub returns-in_ok-push-in-Some-Unseen-2-clause-walk : goal.returns-in_ok-push-in-Some-Unseen-2-clause-walk
returns-in_ok-push-in-Some-Unseen-2-clause-walk c =
    rw c.in_ok-push-in-Some-Unseen-2.ensures.items (walk_cut _ _ _ _ c.requires.walk)

pub returns-in_ok-push-in-Some-Unseen-2-clause-replayed : goal.returns-in_ok-push-in-Some-Unseen-2-clause-replayed
returns-in_ok-push-in-Some-Unseen-2-clause-replayed c =
    line_met c.args.nodes.now _ _ _ _ c.args.self.now.stack.items c.args.self.now.stack.items c.requires.expected refl
    (c.len-level.ensures ∙ c.args.self.now.stack.ok.0) c.in_ok-push-in-Some-Unseen-2.ensures.items refl

pub returns-in_ok-push-in-None-clause-walk : goal.returns-in_ok-push-in-None-clause-walk
returns-in_ok-push-in-None-clause-walk c = rw c.in_ok-push-in-None.ensures.items (walk_cut _ _ _ _ c.requires.walk)

pub returns-in_ok-push-in-None-clause-replayed : goal.returns-in_ok-push-in-None-clause-replayed
returns-in_ok-push-in-None-clause-replayed c =
    line_met c.args.nodes.now _ _ _ _ c.args.self.now.stack.items c.args.self.now.stack.items c.requires.expected refl
    (c.len-level.ensures ∙ c.args.self.now.stack.ok.0) c.in_ok-push-in-None.ensures.items refl

pub returns-in_ok-push-in-Some-Unseen-2-clause-deep : goal.returns-in_ok-push-in-Some-Unseen-2-clause-deep
returns-in_ok-push-in-Some-Unseen-2-clause-deep c =
    rw c.in_ok-push-in-Some-Unseen-2.ensures.items (cut_deep c.args.self.now.most (length c.args.self.now.marks.items)
    c.args.self.now.lines.items c.args.place c.len-level.result c.requires.deep (omega (arith, c.if-level-self.false)))

pub returns-in_ok-push-in-None-clause-deep : goal.returns-in_ok-push-in-None-clause-deep
returns-in_ok-push-in-None-clause-deep c =
    rw c.in_ok-push-in-None.ensures.items (cut_past c.args.self.now.most c.args.self.now.marks.items
    c.args.self.now.lines.items c.args.place c.len-level.result c.requires.deep (sym c.mark_of.ensures ∙ c.in-None.is))
