use Rattle.std.proofs.Common.{ap, refl, subst, sym, arith}
use Rattle.trait_answers.specs.Answered.{CanBeTold}
use Rattle.trait_answers.specs.Below.{graph_nodes_of, is_no, is_yes}
use Rattle.trait_answers.specs.Deciding.{goals_of}
use Rattle.trait_answers.proofs.Enough.{ends_told, enough, fault_told}
use Rattle.trait_answers.proofs.Shown.{implemented_at_node, not_implemented_at_node}
use Rattle.trait_answers.proofs.ask.asked.Goals as goal

pub returns-in-Ok-clause-yes : goal.returns-in-Ok-clause-yes
returns-in-Ok-clause-yes g c = λ e.
    implemented_at_node _ _ (ap (λ cx. g.L.Lends.lent_by cx.0.0.lender) c.evaluated.ensures.same_context)
    c.goals_are_right.ensures (graph_nodes_of c.evaluated.new.cache.nodes) c.args.goal _
    (c.in-Ok.ensures.yes (ap is_yes e)).graph

pub returns-in-Ok-clause-no : goal.returns-in-Ok-clause-no
returns-in-Ok-clause-no g c = λ e.
    not_implemented_at_node _ _ (ap (λ cx. g.L.Lends.lent_by cx.0.0.lender) c.evaluated.ensures.same_context)
    c.goals_are_right.ensures (graph_nodes_of c.evaluated.new.cache.nodes) c.args.goal _
    (c.in-Ok.ensures.no (ap is_no e)).graph

pub returns-in-Ok-clause-told : goal.returns-in-Ok-clause-told
returns-in-Ok-clause-told g c = λ can ready.
    let old = c.args.cache.now in
    let table = g.L.Lends.lent_by old.cx.0.0.lender in
    let graph = c.renew.new.self in
    let deep = ap (λ graph. graph.root_depth) c.renew.ensures in
    let runs = enough _ _ _ table old graph.root_depth c.args.goal _ c.goals_are_right.ensures refl refl
    (omega arith) (λ _. refl) c.new-builder.ensures.noop (subst (CanBeTold table c.args.goal) (sym deep) can) ready in
    ends_told _ _ _ table old c.in-Ok.answer _ c.limits_met.result c.evaluated.new.cache c.limits_met.ensures refl refl
    refl
    (c.in-Ok.ensures.decided (goals_of table) runs (ap (λ graph. graph.limits_met) c.renew.ensures))

pub returns-in-Err-clause-told : goal.returns-in-Err-clause-told
returns-in-Err-clause-told g c = λ can ready.
    let old = c.args.cache.now in
    let table = g.L.Lends.lent_by old.cx.0.0.lender in
    let graph = c.renew.new.self in
    let deep = ap (λ graph. graph.root_depth) c.renew.ensures in
    let runs = enough _ _ _ table old graph.root_depth c.args.goal _ c.goals_are_right.ensures refl refl
    (omega arith) (λ _. refl) c.new-builder.ensures.noop (subst (CanBeTold table c.args.goal) (sym deep) can) ready in
    fault_told _ _ _ table old c.in-Err.fault _ c.evaluated.new.cache c.evaluated.ensures.same_context refl refl refl
    (λ _. refl) c.in-Err.ensures.faults
    (c.in-Err.ensures.decided (goals_of table) runs (ap (λ graph. graph.limits_met) c.renew.ensures))
