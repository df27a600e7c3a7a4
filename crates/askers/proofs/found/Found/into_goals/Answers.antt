use Rattle.std.proofs.Common.{◌∙◌, sym}
use Rattle.std.proofs.lemmas.Map.Views.{Contains-from_any, list_any-from_Contains}
use Rattle.askers.proofs.found.Found.into_goals.Goals as goal

pub returns : goal.returns
returns g c = λ one.
    let goals = c.args.self.goals.items in (
      λ has. Contains-from_any c.requires.exact one goals (sym (c.requires.listed one) ∙ has),
      λ it. c.requires.listed one ∙ list_any-from_Contains g.met.I.Eq.laws one goals it,
    )
