use Rattle.std.proofs.Common.{◌≡◌, true, false, ap, not, refl, ◌∙◌}
use Rattle.std.specs.Prelude.{is_some}
use Rattle.type_texts.specs.Words.{words_left}
use Rattle.type_texts.proofs.Refusing.{base_alone, none_comes}
use Rattle.type_texts.proofs.written.base_of.Goals as goal
use Rattle.type_texts.proofs.written.base_of.Goals.{else-eq-via-then-eq+then-is_name+else-is_none}
use Rattle.type_texts.proofs.written.base_of.Goals.{else-eq-via-then-eq+else-is_name, else-eq-via-else-eq}

pub returns-else-eq-clause-malformed : goal.returns-else-eq-clause-malformed
returns-else-eq-clause-malformed c = λ _ meaning h.
    let only = base_alone c.args.first.now c.args.word.now _ meaning c.requires.opens_none
    c.requires.no_arrow c.requires.no_bar h in
    elim c.else-eq.branch [
      | else-eq-via-then-eq+then-is_name+else-is_none w ↦
          let none : is_some w.next.result ≡ false =
          none_comes words_left c.args.words w.next.new.self w.next.result w.next.ensures.steps only.2 in
          let some : is_some w.next.result ≡ true = w.is_none.ensures ∙ ap not w.if-is_none.false in
          absurd cc
      | else-eq-via-then-eq+else-is_name w ↦
          let t : w.is_name.result ≡ true = w.is_name.ensures.1 only.1 in let n = w.if-is_name.false in absurd cc
      | else-eq-via-else-eq w ↦ let t : c.eq.result ≡ true = c.eq.ensures ∙ rw (only.0, c.as_slice.ensures) refl in
          let n = w.if-eq.false in absurd cc
    ]
