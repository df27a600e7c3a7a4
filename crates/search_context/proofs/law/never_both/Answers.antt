use Rattle.search_context.proofs.Graphs.{never_both}
use Rattle.search_context.proofs.law.never_both.Goals as goal

pub returns : goal.returns
returns g c = λ cx goal nodes others root top proof refutation.
    never_both (g.X.Cx.proves cx) (g.X.Cx.refutes cx) (g.met.X.Cx.clash cx) nodes others root top goal proof refutation
