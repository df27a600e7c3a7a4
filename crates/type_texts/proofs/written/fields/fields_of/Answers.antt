use Rattle.std.proofs.Common.{◌≡◌, ◌∷◌, [], true, ap, map, sym, ◌∙◌}
use Rattle.std.proofs.lemmas.Bool.{false≢true}
use Rattle.std.proofs.lemmas.List.{map-append}
use Rattle.type_texts.specs.Words.{named}
use Rattle.type_texts.proofs.Refusing.{closed_already, closing_lacks, no_field_due, no_type_due, not_again}
use Rattle.type_texts.proofs.Spelling.{all_fields, brace_more, field_more, name_due, not_field}
use Rattle.type_texts.proofs.written.fields.fields_of.Goals as goal

pub loop-word-preserved-in-Some-due : goal.loop-word-preserved-in-Some-due
loop-word-preserved-in-Some-due c =
    let field = c.in_ok-field_of-in-Some-due.field-0 in
    rw c.if-is_closed.false
    (field_more _ _ _ _ _ c.in-Some-due.name.now c.in-Some.word.now (named field) c.loop-word.is_closed
    (rw c.in-Some-due.is at c.loop-word.invariant) c.in-Some.ensures.steps
    c.in_ok-field_of-in-Some-due.ensures.same c.in_ok-field_of-in-Some-due.ensures.is_name
    (ap (map named) c.in_ok-push-in-Some-due.ensures.items ∙ map-append named c.loop-word.fields.items (field ∷ [])))

pub loop-word-preserved-then-is_brace : goal.loop-word-preserved-then-is_brace
loop-word-preserved-then-is_brace c =
    let is : c.is_brace.result ≡ true = c.if-is_brace.true in
    rw c.in-None-due.is
    (brace_more _ _ _ _ c.in-Some.word.now (rw (c.in-None-due.is, c.if-is_closed.false) at c.loop-word.invariant)
    c.in-Some.ensures.steps (c.is_brace.ensures.0 is))

pub loop-word-preserved : goal.loop-word-preserved
loop-word-preserved c =
    let name = c.in_ok-field_name-in-None-2 in
    rw c.if-is_closed.false
    (name_due _ _ _ _ name.field-0.now c.in-Some.word.now
    (rw (c.in-None-2.is, c.if-is_closed.false) at c.loop-word.invariant) c.in-Some.ensures.steps
    name.ensures.spelled name.ensures.is_name
    (not_field c.loop-word.fields.items name.field-0.now (rw c.as_slice.ensures.value at name.ensures.is_new)))

pub returns-then-is_closed-2-clause-spelled : goal.returns-then-is_closed-2-clause-spelled
returns-then-is_closed-2-clause-spelled c =
    all_fields _ _ _ _ _ c.loop-word.invariant c.if-is_closed-2.true c.in-None.ensures.steps.0

pub returns-then-is_closed-clause-malformed : goal.returns-then-is_closed-clause-malformed
returns-then-is_closed-clause-malformed c = λ _. closed_already _ _ _ _ _ c.in-Some.word.now
    (rw c.if-is_closed.true at c.loop-word.invariant) c.in-Some.ensures.steps

pub returns-in_err-field_of-in-Some-due-clause-malformed : goal.returns-in_err-field_of-in-Some-due-clause-malformed
returns-in_err-field_of-in-Some-due-clause-malformed c =
    λ _. no_type_due _ _ _ _ c.in-Some-due.name.now c.in-Some.word.now c.loop-word.is_closed
    (rw c.in-Some-due.is at c.loop-word.invariant) c.in-Some.ensures.steps
    c.in_err-field_of-in-Some-due.ensures.malformed

pub returns-in_err-field_name-in-None-2-clause-malformed : goal.returns-in_err-field_name-in-None-2-clause-malformed
returns-in_err-field_name-in-None-2-clause-malformed c =
    λ _. no_field_due _ _ _ _ c.in-Some.word.now
    (rw (c.in-None-2.is, c.if-is_closed.false) at c.loop-word.invariant) c.in-Some.ensures.steps
    (λ f. false≢true (sym c.if-is_brace.false ∙ c.is_brace.ensures.1 f))
    (λ name later e is distinct. not_again c.loop-word.fields.items name later
    (rw c.as_slice.ensures.value at c.in_err-field_name-in-None-2.ensures.malformed name e is) distinct)

pub returns-clause-malformed : goal.returns-clause-malformed
returns-clause-malformed c =
    λ _. closing_lacks _ _ _ _ (rw c.if-is_closed-2.false at c.loop-word.invariant) c.in-None.ensures.steps.0
