use Rattle.determined.proofs.Kept.{proof_stays, refutation_stays}
use Rattle.determined.proofs.law.graphs_stay.Goals as goal

pub returns-clause-proof : goal.returns-clause-proof
returns-clause-proof g c = λ is_gone before after keeps goal stays.
    proof_stays is_gone (g.X.Cx.proves before) (g.X.Cx.proves after) keeps goal stays

pub returns-clause-refutation : goal.returns-clause-refutation
returns-clause-refutation g c = λ is_gone before after keeps goal stays.
    refutation_stays is_gone (g.X.Cx.refutes before) (g.X.Cx.refutes after) keeps goal stays
