use Rattle.std.proofs.Common.{◌≡◌, ◌∙◌, ◌↔◌, Contains, subst, sym, true}
use Rattle.std.specs.List.{list_any}
use Rattle.graph_texts.proofs.Grounds.{question_tells, same_question}
use Rattle.graph_texts.specs.Grounds.{asked_by}
use Rattle.graph_texts.proofs.rule.Grounds.has.Goals as goal

pub returns : goal.returns
returns c =
    let key = asked_by c.args.asking in
    let tells = subst (λ keys. (list_any (same_question key) c.self.inside.asked.keys ≡ true) ↔ Contains keys key)
    c.self.view_is (question_tells c.self.inside.asked.keys key) in
    (λ found. tells.0 (sym c.contains.ensures ∙ found), λ there. c.contains.ensures ∙ tells.1 there)
