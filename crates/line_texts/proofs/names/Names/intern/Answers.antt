use Rattle.std.proofs.Common.{◌≡◌, ◌∙◌, ◌+◌, ◌*◌, ◌<◌, ◌++◌, ◌∷◌, [], Some, refl, ap, arith, length, subst, sym, rules}
use Rattle.std.specs.Prelude.{slice_get}
use Rattle.std.proofs.lemmas.Option.{slice_get-map}
use Rattle.std.specs.Option.{option_map}
use Rattle.line_texts.specs.Letters.{head_of}
use Rattle.line_texts.specs.Names.{AreLinked, LeadsTo, text_of}
use Rattle.line_texts.proofs.LinkLemmas.{found_more}
use Rattle.line_texts.proofs.NameLemmas.{at_end, texts_grown, with_known}
use Rattle.line_texts.proofs.names.Names.intern.Goals.{then-number-self+in_ok-self-inside, else-number-self}
use Rattle.line_texts.proofs.names.Names.intern.Goals as goal

pub returns-in-Some-clause-names : goal.returns-in-Some-clause-names
returns-in-Some-clause-names c = with_known c.args.self.now c.args.name.now c.in-Some.number
    (subst (λ name. slice_get c.args.self.now c.in-Some.number ≡ Some name) c.new-name.ensures
    (rw (← c.self.view_is, ← c.as_slice.ensures.value)
    ((c.in-Some.ensures c.in-Some.number).0 (refl {a = Some c.in-Some.number}))))

pub invariant_of-self-2 : goal.invariant_of-self-2
invariant_of-self-2 c =
    let keys = c.self.inside.names.items in
    let inside = c.if-number-self.self-inside in
    let names = c.in_ok-reserve.ensures.items in
    let is : c.len-number.result ≡ length keys = omega (arith, c.len-number.ensures) in
    let ready : AreLinked inside.heads inside.links.items keys (length keys) × (length keys < inside.heads)
    × (inside.names.items ≡ keys) = elim c.if-number-self.branch [
      | then-number-self+in_ok-self-inside w ↦ rw w.self-inside-is (
        subst (λ ks. AreLinked w.max-heads.result w.in_ok-self-inside.field-0.items ks (length ks))
            (w.as_slice-then-number-self.ensures.value ∙ names) w.in_ok-self-inside.ensures,
        omega (
          arith,
          w.max-heads.ensures,
          w.saturating_mul.ensures,
          c.len-number.ensures,
          c.self.invariant.enough,
          c.self.invariant.linked.few,
        ),
        names,
      )
      | else-number-self w ↦ rw w.self-inside-is (
        c.self.invariant.linked,
        omega (arith, w.if-number-self.false, c.len-number.ensures, c.self.invariant.enough),
        names,
      )
    ] in
    let pushed = c.push_reserved.ensures.items ∙ ap (λ xs. xs ++ c.new-name.result ∷ []) ready.2 in
    found_more inside.heads inside.links.items c.link.new.links.items keys c.push_reserved.new.self.items
    c.new-name.result c.len-number.result (subst (AreLinked inside.heads inside.links.items keys) (sym is) ready.0)
    c.self.invariant.distinct is (omega (arith, c.len-number.ensures, ready.1)) pushed
    (λ n at. let there = (c.in_default.ensures n).1 (rw c.as_slice.ensures.value at) in cc)
    c.link.ensures.room
    (subst (λ l. LeadsTo c.link.new.links.items (inside.heads + 2 * c.len-number.result) (head_of l inside.heads) l)
    c.letters.ensures c.link.ensures.linked) c.link.ensures.kept

pub returns-clause-number : goal.returns-clause-number
returns-clause-number c =
    let same : c.if-number-self.self-inside.names.items ≡ c.self.inside.names.items =
    elim c.if-number-self.branch [
      | then-number-self+in_ok-self-inside w ↦
          ap (λ inside. inside.names.items) w.self-inside-is ∙ c.in_ok-reserve.ensures.items
      | else-number-self w ↦ ap (λ inside. inside.names.items) w.self-inside-is ∙ c.in_ok-reserve.ensures.items
    ] in
    let items = c.push_reserved.new.self.items in
    let pushed = c.push_reserved.ensures.items ∙ ap (λ xs. xs ++ c.new-name.result ∷ []) same in
    let last =
    at_end c.self.inside.names.items c.new-name.result c.len-number.result (omega (arith, c.len-number.ensures)) in
    let stored : slice_get items c.len-number.result ≡ Some c.new-name.result =
    subst (λ xs. slice_get xs c.len-number.result ≡ Some c.new-name.result) (sym pushed) last in
    slice_get-map text_of items c.len-number.result ∙ (ap (option_map text_of) stored ∙ ap Some c.new-name.ensures)

pub returns-clause-names : goal.returns-clause-names
returns-clause-names c =
    let same : c.if-number-self.self-inside.names.items ≡ c.self.inside.names.items =
    elim c.if-number-self.branch [
      | then-number-self+in_ok-self-inside w ↦ search rules
      | else-number-self w ↦ search rules
    ] in
    let pushed = c.push_reserved.ensures.items ∙ ap (λ xs. xs ++ c.new-name.result ∷ []) same in
    rw (← c.self.view_is) (texts_grown c.self.inside.names.items _ c.new-name.result c.args.name.now c.new-name.ensures
    pushed (λ n at.
    let there = (c.in_default.ensures n).1 (rw (c.as_slice.ensures.value, c.new-name.ensures) at) in cc))
