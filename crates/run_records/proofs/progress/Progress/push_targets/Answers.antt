use Rattle.std.proofs.Common.{◌∙◌, All, OnOk, ap, subst, sym}
use Rattle.std.specs.Option.{option_map}
use Rattle.run_records.specs.Words.{HasTarget, done_in}
use Rattle.run_records.proofs.progress.Progress.push_targets.Goals as goal

pub returns-in-Some-clause-answers : goal.returns-in-Some-clause-answers
returns-in-Some-clause-answers g c =
    let told = c.self.inside in
    subst (λ answers. OnOk c.push_targets.result (All (HasTarget c.push_targets.new.nodes.items) answers))
    (ap (λ p. p.answers) c.deref.ensures
    ∙ sym (ap (λ lists. (done_in (option_map (λ b. b.value) lists) told.beginning).answers) c.in-Some.is)
    ∙ ap (λ p. p.answers) c.self.view_is)
    c.push_targets.ensures.answers
