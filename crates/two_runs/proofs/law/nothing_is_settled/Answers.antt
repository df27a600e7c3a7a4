use Rattle.std.proofs.Common.{inr, sym, subst}
use Rattle.two_runs.specs.Below.{Store, StoredResult}
use Rattle.two_runs.proofs.law.nothing_is_settled.Goals as goal
use Rattle.two_runs.specs.Evaluations.{IsSettledStore}

pub returns : goal.returns
returns g c = λ cx nodes goals results none.
    subst (λ (rs : Store _ (StoredResult _ _ _)).
    IsSettledStore g.D.Delegate g.D.Cx.Cx g.D.Cx.Input.PartialEq.eq cx goals nodes rs) (sym none)
    (record {
      settled = record { leads = λ goal s within at. absurd cc; require = λ goal s within at empty. absurd cc };
      suit = inr (λ goal s within at. absurd cc);
    })
