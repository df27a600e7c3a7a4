use Rattle.std.proofs.lemmas.List.Elements.{All-contains}
use Rattle.std.proofs.lemmas.Map.Views.{Contains-from_lookup}
use Rattle.table_runs.specs.Right.{SomeGraphShows}
use Rattle.table_runs.proofs.program.parts.was_shown.Goals as goal

pub returns-then-eq-clause-shown : goal.returns-then-eq-clause-shown
returns-then-eq-clause-shown g c = λ known is.
    let node = c.args.node.now in
    All-contains (λ key. SomeGraphShows g.X.Cx c.args.cx key.0 key.1.0) c.args.shown.now.entries
    (node.input, (node.result, c.args.id)) known
    (Contains-from_lookup g.met.X.Cx.same_input node.input (node.result, c.args.id) c.args.shown.now.entries
    (c.is_remembered.ensures is))
