use Rattle.std.proofs.Common.{◌∙◌, ◌∷◌, ◌++◌, [], Contains, ap, arith, subst, sym, take}
use Rattle.std.proofs.lemmas.List.{take_all, take_more}
use Rattle.askers.specs.Found.{Finds}
use Rattle.askers.proofs.Finding.{finds_one_more, nothing_found}
use Rattle.askers.proofs.found.Found.note_all.Goals as goal

pub loop-goal-init : goal.loop-goal-init
loop-goal-init g c = nothing_found g.I.PartialEq.eq c.args.self.now (λ other. Contains (take 0 c.args.goals.now) other)
    c.requires.listed (λ other has. absurd (omega (arith, has.1)))

pub loop-goal-preserved : goal.loop-goal-preserved
loop-goal-preserved g c =
    let goals = c.args.goals.now in
    let at = c.loop-goal.goal-index in
    finds_one_more g.I.PartialEq.eq (take at goals) _ c.goal-item.result c.args.self.now c.loop-goal.self
    c.note.new.self
    (take_more goals at c.goal-item.result c.loop-goal-test.true
    ∙ ap (λ x. take at goals ++ x ∷ []) (sym c.goal-item.is))
    c.loop-goal.invariant c.in_ok-note.ensures

pub returns : goal.returns
returns g c = subst (λ goals. Finds g.I.PartialEq.eq (λ other. Contains goals other) c.args.self.now c.loop-goal.self)
    (take_all c.loop-goal.goal-index c.args.goals.now c.loop-goal-test.false) c.loop-goal.invariant
