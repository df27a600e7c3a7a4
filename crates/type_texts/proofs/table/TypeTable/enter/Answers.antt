use Rattle.std.proofs.Common.{[], ◌∷◌, ◌++◌, refl, sym, ap, ◌∙◌}
use Rattle.std.proofs.lemmas.List.{append-nil}
use Rattle.type_texts.specs.Words.{forms_in, questions_of}
use Rattle.type_texts.proofs.Adding.{adds}
use Rattle.type_texts.proofs.table.TypeTable.enter.Goals as goal

pub returns-in-PassedOver-clause-added : goal.returns-in-PassedOver-clause-added
returns-in-PassedOver-clause-added c = rw c.in-PassedOver.is
    (adds _ c.args.self.now c.args.self.now refl (λ n x at. at) [] (sym (append-nil (forms_in c.args.self.now))) tt []
    (sym (append-nil (questions_of c.args.self.now))) tt)

pub returns-in_ok-declare-in-Type-clause-added : goal.returns-in_ok-declare-in-Type-clause-added
returns-in_ok-declare-in-Type-clause-added c =
    let grows = c.in_ok-form-in-Type.ensures.grows in
    rw c.in-Type.is
    (adds _ c.args.self.now _ grows.names grows.kept (c.in_ok-form-in-Type.form ∷ [])
    (c.in_ok-declare-in-Type.ensures.declared ∙ ap (λ fs. fs ++ c.in_ok-form-in-Type.form ∷ []) grows.forms)
    (c.in_ok-form-in-Type.ensures.form, tt)
    [] (grows.questions ∙ sym (append-nil (questions_of c.args.self.now))) tt)

pub returns-in_ok-push-in-Ask-clause-added : goal.returns-in_ok-push-in-Ask-clause-added
returns-in_ok-push-in-Ask-clause-added c =
    rw c.in-Ask.is
    (adds _ c.args.self.now _ refl (λ n x at. at) [] (sym (append-nil (forms_in c.args.self.now))) tt
    _ c.in_ok-push-in-Ask.ensures.items
    (record { left = c.in_ok-left-in-Ask.ensures.number; right = c.in_ok-right-in-Ask.ensures.number }, tt))
