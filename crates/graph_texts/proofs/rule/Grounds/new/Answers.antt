use Rattle.std.proofs.Common.{◌∙◌, map, sym}
use Rattle.graph_texts.proofs.Grounds.{question_tells}
use Rattle.graph_texts.specs.Grounds.{question_of}
use Rattle.graph_texts.proofs.rule.Grounds.new.Goals as goal

pub returns : goal.returns
returns c = λ question.
    let kept = question_tells c.in_ok-asked.asked.keys question in
    let asked = question_tells (map question_of c.args.edges.now) question in
    let same = c.in_ok-asked.ensures.0 question in
    (λ there. asked.0 (sym same ∙ kept.1 there), λ there. kept.0 (same ∙ asked.1 there))
