use Rattle.std.proofs.Common.{◌≤◌, length, min, ap, sym, ◌∙◌, subst}
use Rattle.std.proofs.Math.Logic.{∥∥₁_map}
use Rattle.std.proofs.Math.Nat.{min-le_right}
use Rattle.type_order.specs.Subtypes.{forms_of}
use Rattle.type_order.proofs.Alike.{known_of_all}
use Rattle.structural_types.proofs.Enough.{ready_for}
use Rattle.structural_types.proofs.subtyping.Subtyping.is_below.Goals as goal

pub asked-requires-clause-left : goal.asked-requires-clause-left
asked-requires-clause-left g c =
    let forms = forms_of (g.T.Lends.lent_by c.args.self.now.cache.cx.0.0.lender) in
    subst (λ n. n ≤ length forms) (sym (c.min.ensures ∙ ap (min c.args.left) c.declared_count-undeclared.ensures))
    (min-le_right c.args.left (length forms))

pub asked-requires-clause-right : goal.asked-requires-clause-right
asked-requires-clause-right g c =
    let forms = forms_of (g.T.Lends.lent_by c.args.self.now.cache.cx.0.0.lender) in
    subst (λ n. n ≤ length forms) (sym (c.min-2.ensures ∙ ap (min c.args.right) c.declared_count-undeclared.ensures))
    (min-le_right c.args.right (length forms))

pub asked-requires-clause-ready : goal.asked-requires-clause-ready
asked-requires-clause-ready g c = c.args.self.now.ready

pub invariant_of-self : goal.invariant_of-self
invariant_of-self g c =
    let forms = forms_of (g.T.Lends.lent_by c.args.self.now.cache.cx.0.0.lender) in
    record {
      ready = ∥∥₁_map c.asked.ensures.ready (λ ready. ready_for _ forms _ c.asked.new.cache
          (ap (λ cx. forms_of (g.T.Lends.lent_by cx.0.0.lender)) c.asked.ensures.same_context) ready);
    }

pub returns-clause-exact : goal.returns-clause-exact
returns-clause-exact g c =
    let forms = forms_of (g.T.Lends.lent_by c.args.self.now.cache.cx.0.0.lender) in
    known_of_all forms c.args.left c.args.right c.min.result c.min-2.result c.asked.result
    (c.min.ensures ∙ ap (min c.args.left) c.declared_count-undeclared.ensures)
    (c.min-2.ensures ∙ ap (min c.args.right) c.declared_count-undeclared.ensures) c.asked.ensures.exact

pub returns-clause-faults : goal.returns-clause-faults
returns-clause-faults g c = c.asked.ensures.faults

pub returns-clause-same_types : goal.returns-clause-same_types
returns-clause-same_types g c = ap (λ cx. forms_of (g.T.Lends.lent_by cx.0.0.lender)) c.asked.ensures.same_context
