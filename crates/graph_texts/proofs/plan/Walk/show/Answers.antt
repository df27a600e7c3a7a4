use Rattle.std.proofs.Common.{ap, ◌∙◌, ◌∷◌}
use Rattle.std.specs.Cmp.{nat_eq_equiv}
use Rattle.graph_texts.specs.Plan.{pending_of}
use Rattle.graph_texts.proofs.Plans.{walk_shown}
use Rattle.graph_texts.proofs.Replay.{pending_of-push}
use Rattle.graph_texts.proofs.plan.Walk.show.Goals as goal

pub returns-clause-walk : goal.returns-clause-walk
returns-clause-walk c =
    rw c.in_ok-push-2.ensures.items (walk_shown nat_eq_equiv _ _ _ _ _ _ c.requires.unseen c.requires.walk)

pub returns-clause-stack : goal.returns-clause-stack
returns-clause-stack c = ap pending_of c.in_ok-push.ensures.items
    ∙ pending_of-push c.args.self.now.stack.items (record { place = c.args.place; rest = c.edges_of-rest.result })
    ∙ ap (λ targets. targets ∷ pending_of c.args.self.now.stack.items) c.edges_of-rest.ensures
