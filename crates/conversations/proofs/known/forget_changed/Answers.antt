use Rattle.std.proofs.Common.{◌∙◌, arith, length, refl, sym}
use Rattle.std.proofs.lemmas.Bool.{eqb-true}
use Rattle.rule_tables.specs.contracts.rules.GoalPartialEq.TheImpl.{eq-value}
use Rattle.conversations.specs.Below.{is_among}
use Rattle.conversations.proofs.Staying.{known_changes, known_stays}
use Rattle.conversations.proofs.known.forget_changed.Goals as goal

pub returns-then-is_empty-clause-known : goal.returns-then-is_empty-clause-known
returns-then-is_empty-clause-known c =
    let since = c.requires.known in
    let none = eqb-true (length c.args.changed.now) 0 (sym c.is_empty.ensures ∙ c.if-is_empty.true) in
    known_stays _ _ (λ is_gone before after h. h) (λ is_gone before after h. h) since.before c.args.table.now
    c.args.found.now c.args.shown.now
    (λ goal. since.keeps goal (λ has. absurd (omega (arith, has.1, none))))
    since.known

pub returns-clause-known : goal.returns-clause-known
returns-clause-known c =
    let since = c.requires.known in
    known_changes _ _ (λ is_gone before after h. h) (λ is_gone before after h. h) since.before c.args.table.now
    c.args.changed.now (is_among eq-value.it c.in_ok-gone.gone.keys)
    c.args.found.now c.forget.new.self c.args.shown.now c.forget-2.new.self
    since.known since.keeps c.in_ok-gone.ensures.exact
    (c.in_ok-gone.ensures.keeps since.before c.args.table.now since.keeps (λ goal other. refl))
    c.forget.ensures.nodes c.forget.ensures.results c.forget-2.ensures.stay
