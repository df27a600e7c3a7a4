use Rattle.std.proofs.Common.{◌≡◌, ◌∙◌, ap, refl, subst, sym}
use Rattle.delegate_parts.specs.Outcome.{is_no, is_yes}
use Rattle.sessions.proofs.ToldAnew.{fault_anew, told_anew}
use Rattle.sessions.proofs.session.Session.cause.Goals as goal
use Rattle.sessions.specs.Rules.{IsRightAnswer}

pub returns-in-Ok-clause-right : goal.returns-in-Ok-clause-right
returns-in-Ok-clause-right g c =
    let watched = c.in-Ok.watched in
    let anew = c.in-Ok.ensures.asked (λ builder. (refl, refl)) in
    let asked = anew.asked in
    let about : anew.after.cx ≡ c.args.self.now.cache.cx =
    asked.keeps.context ∙ ap (λ cache. cache.cx) anew.nothing_known ∙ c.cx-cx.ensures in
    record {
      nodes = anew.after.nodes;
      node = watched.asked.node;
      right = subst (λ outcome. IsRightAnswer (g.L.LendsArrays.table_of c.args.self.now.cache.cx.0.0.lender)
          anew.after.nodes c.args.goal outcome watched.asked.node)
          (sym (ap (λ caused. caused.outcome) c.with_reason.ensures.told))
          (subst (λ cx. IsRightAnswer (g.L.LendsArrays.table_of cx.0.0.lender)
          anew.after.nodes c.args.goal watched.asked.outcome watched.asked.node) about (record {
            proved = λ is. (asked.yes (ap is_yes is)).graph;
            never_refuted = λ is. (asked.yes (ap is_yes is)).never_refuted;
            refuted = λ is. (asked.no (ap is_no is)).graph;
            never_proved = λ is. (asked.no (ap is_no is)).never_proved;
          }));
    }

pub returns-in-Ok-clause-told : goal.returns-in-Ok-clause-told
returns-in-Ok-clause-told g c =
    told_anew _ _ _ _ _ _ _ _ c.in-Ok.watched.asked c.with_reason.result _ _ c.cx-cx.ensures
    c.with_reason.ensures.told (c.in-Ok.ensures.asked (λ builder. (refl, refl)))

pub returns-in-Err-clause-told : goal.returns-in-Err-clause-told
returns-in-Err-clause-told g c =
    fault_anew _ _ _ _ _ _ _ _ _ c.cx-cx.ensures (c.in-Err.ensures.asked (λ builder. (refl, refl)))
