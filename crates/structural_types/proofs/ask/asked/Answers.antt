use Rattle.std.proofs.Common.{refl, sym, ap, subst, inl, inr, arith}
use Rattle.std.proofs.Math.Logic.{∥∥₁_elim, ∥∥₁_map}
use Rattle.structural_types.specs.Below.{is_no, is_yes}
use Rattle.type_order.specs.Pairs.{askable}
use Rattle.type_order.specs.Subtypes.{IsBelow, forms_of}
use Rattle.type_order.proofs.Decided.{proved_below, refuted_not_below, yes_or_no}
use Rattle.structural_types.proofs.Enough.{enough, only_memory, stays_ready}
use Rattle.structural_types.proofs.ask.asked.Goals as goal

pub returns-in-Yes : goal.returns-in-Yes
returns-in-Yes g c =
    let types = g.T.Lends.lent_by c.args.cache.now.cx.0.0.lender in
    let later = forms_of (g.T.Lends.lent_by c.evaluated.new.cache.cx.0.0.lender) in
    let ends = ∥∥₁_map c.requires.ready (λ ready. c.in-Ok.ensures.decided (askable (forms_of types))
    (enough _ _ _ types _ _ _ _ _ refl refl (omega arith) (λ _. refl) refl c.requires.left c.requires.right
    c.new-builder.ensures.noop ready)) in
    record {
      exact = (
        λ _.
            subst (λ cx. IsBelow (forms_of (g.T.Lends.lent_by cx.0.0.lender)) c.args.pair.left c.args.pair.right)
            c.evaluated.ensures.same_context
            (proved_below later c.in-Ok.answer.node _ c.args.pair (c.in-Ok.ensures.yes (ap is_yes c.in-Yes.is)).graph),
        λ _. refl,
      );
      faults = tt;
      same_context = c.evaluated.ensures.same_context;
      ready = ∥∥₁_map ends (λ ends. stays_ready _ _ _ types c.args.cache.now _ _ refl refl refl ends);
    }

pub returns-in_default : goal.returns-in_default
returns-in_default g c =
    let types = g.T.Lends.lent_by c.args.cache.now.cx.0.0.lender in
    let later = forms_of (g.T.Lends.lent_by c.evaluated.new.cache.cx.0.0.lender) in
    let ends = ∥∥₁_map c.requires.ready (λ ready. c.in-Ok.ensures.decided (askable (forms_of types))
    (enough _ _ _ types _ _ _ _ _ refl refl (omega arith) (λ _. refl) refl c.requires.left c.requires.right
    c.new-builder.ensures.noop ready)) in
    record {
      exact = (
        λ e. absurd cc,
        λ below. absurd (∥∥₁_elim ends (λ a b. absurd a) (λ ends.
            elim (yes_or_no c.in-Ok.answer.result ends.answer) [
              | inl is ↦ absurd (c.in_default.not-Yes is)
              | inr is ↦
                  refuted_not_below later c.in-Ok.answer.node _ c.args.pair (c.in-Ok.ensures.no (ap is_no is)).graph
                  (subst (λ cx. IsBelow (forms_of (g.T.Lends.lent_by cx.0.0.lender)) c.args.pair.left
                  c.args.pair.right) (sym c.evaluated.ensures.same_context) below)
            ])),
      );
      faults = tt;
      same_context = c.evaluated.ensures.same_context;
      ready = ∥∥₁_map ends (λ ends. stays_ready _ _ _ types c.args.cache.now _ _ refl refl refl ends);
    }

pub returns-in-Err : goal.returns-in-Err
returns-in-Err g c =
    let types = g.T.Lends.lent_by c.args.cache.now.cx.0.0.lender in
    let later = g.T.Lends.lent_by c.evaluated.new.cache.cx.0.0.lender in
    let ends = ∥∥₁_map c.requires.ready (λ ready. c.in-Err.ensures.decided (askable (forms_of types))
    (enough _ _ _ types _ _ _ _ _ refl refl (omega arith) (λ _. refl) refl c.requires.left c.requires.right
    c.new-builder.ensures.noop ready)) in
    record {
      exact = tt;
      faults = only_memory _ _ _ later _ c.in-Err.fault refl (λ _. refl) c.in-Err.ensures.faults
          (∥∥₁_map ends (λ ends. ends.fault));
      same_context = c.evaluated.ensures.same_context;
      ready = ∥∥₁_map ends (λ ends. stays_ready _ _ _ types c.args.cache.now _ _ refl refl refl ends);
    }
