use Rattle.std.proofs.Common.{Some, sym, subst, ◌∙◌, ap}
use Rattle.trait_goals.specs.Instances.{AreTold}
use Rattle.trait_goals.proofs.Completing.{has_instance, head_apart}
use Rattle.trait_goals.proofs.Matching.{is_apart, read_at}
use Rattle.trait_goals.proofs.instance.find_instance.Goals as goal

pub returns-then-not-branch-clause-found : goal.returns-then-not-branch-clause-found
returns-then-not-branch-clause-found c = λ term stands types is.
    is_apart _ (c.in_ok-match_head.ensures types term stands is).0 c.if-not-branch.true

pub returns-in-Some-clause-found : goal.returns-in-Some-clause-found
returns-in-Some-clause-found c = λ term stands.
    let told = c.if-not-branch-2.false in
    has_instance c.args.terms.now c.complete.new.terms c.args.rule.now c.args.subject c.complete.new.all.items term
    c.len.ensures.first c.complete.ensures.keeps (c.in_ok-complete.ensures.count told)
    (c.in_ok-complete.ensures.made told) stands
    (read_at _ _ c.args.rule.now.head c.in-Some.number c.as_slice-2.ensures.value c.in-Some.ensures
    ∙ ap Some c.if-number-subject.true)
    (λ others is. c.in_ok-complete.ensures.told told others term
    (subst (λ found. AreTold c.args.terms.now found others) (sym c.as_slice.ensures.value)
    (c.in_ok-match_head.ensures others term stands is).1) is)

pub returns-in-Some-2-clause-found : goal.returns-in-Some-2-clause-found
returns-in-Some-2-clause-found c = λ term stands.
    head_apart c.args.terms.now c.complete.new.terms c.args.rule.now c.args.subject c.in-Some.number
    c.complete.new.all.items term
    c.len.ensures.once c.complete.ensures.keeps stands
    (read_at _ _ c.args.rule.now.head c.in-Some.number c.as_slice-2.ensures.value c.in-Some.ensures)
    c.if-number-subject.false
    (λ others is. c.in_ok-complete.ensures.told c.if-not-branch-2.false others term
    (subst (λ found. AreTold c.args.terms.now found others) (sym c.as_slice.ensures.value)
    (c.in_ok-match_head.ensures others term stands is).1) is)
