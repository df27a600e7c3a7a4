use Rattle.std.proofs.Common.{refl}
use Rattle.std.proofs.KnownBytes.{Keeps-refl}
use Rattle.line_texts.proofs.Written.{on_err}
use Rattle.conversations.proofs.Turning.{all_held, broken, broken_at_once, broken_before, none_so_far, turns_on}
use Rattle.conversations.proofs.turns.hold.Goals as goal

pub returns-in_err-input-clause-broken_off : goal.returns-in_err-input-clause-broken_off
returns-in_err-input-clause-broken_off g c = on_err _ (broken_at_once g.K.TakesLines.may_come _ _)

pub returns-in_err-told-clause-broken_off : goal.returns-in_err-told-clause-broken_off
returns-in_err-told-clause-broken_off g c = on_err _ (broken_at_once g.K.TakesLines.may_come _ _)

pub loop-before-init : goal.loop-before-init
loop-before-init g c =
    none_so_far g.K.TakesLines.may_come _ _ _ _ c.in_ok-input.ensures.unread c.requires

pub returns-in_err-end-clause-broken_off : goal.returns-in_err-end-clause-broken_off
returns-in_err-end-clause-broken_off g c =
    on_err _
    (broken g.K.TakesLines.may_come _ _ _ _ _ _ _ c.loop-before.invariant _ _ _ _ refl c.in_err-end.ensures.broke)

pub returns-then-end-clause-held : goal.returns-then-end-clause-held
returns-then-end-clause-held g c =
    all_held g.K.TakesLines.may_come _ _ _ _ _ _ _ c.loop-before.invariant _ _ _ _ _ _ c.in_ok-end.ensures.turned refl
    _ c.if-end.true (λ words written. written) _ refl

pub loop-before-preserved : goal.loop-before-preserved
loop-before-preserved g c =
    turns_on g.K.TakesLines.may_come _ _ _ _ _ _ _ c.loop-before.invariant _ _ _ _ _ _ c.in_ok-end.ensures.turned refl
    _ c.if-end.false (λ words written. written) _ refl

pub returns-clause-broken_off : goal.returns-clause-broken_off
returns-clause-broken_off g c =
    broken_before g.K.TakesLines.may_come _ _ _ _ _ _ _ c.loop-before.invariant _ (Keeps-refl _)
