use Rattle.std.proofs.Common.{ℕ, [], ◌∷◌, ap, ◌∙◌}
use Rattle.std.specs.Global.{Vec}
use Rattle.std.proofs.lemmas.List.{map-append}
use Rattle.strong_components.specs.Words.{successor_lists}
use Rattle.trait_goals.specs.Decided.{questions_at}
use Rattle.trait_goals.proofs.Alike.{graph_more}
use Rattle.trait_goals.proofs.goals.Goals.graph.Goals as goal

pub loop-goal-preserved : goal.loop-goal-preserved
loop-goal-preserved c =
    graph_more c.args.self.now (successor_lists c.loop-goal.graph.items) (successor_lists c.push.new.self.items)
    c.loop-goal.goal c.in_ok-questions.questions.items c.loop-goal.invariant
    (ap successor_lists c.in_ok-push.ensures.items
    ∙ map-append (λ (v : Vec ℕ). v.items) c.loop-goal.graph.items (c.in_ok-questions.questions ∷ []))
    (c.in_ok-questions.ensures ∙ ap questions_at c.candidates.ensures)
