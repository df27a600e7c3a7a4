use Rattle.std.proofs.Common.{◌≡◌, ◌∷◌, [], ℕ, List, true, false, ap, not, subst, sym, ◌∙◌}
use Rattle.std.proofs.lemmas.Bool.{false≢true}
use Rattle.std.specs.Prelude.{is_some}
use Rattle.type_texts.specs.Words.{IsName, words_left}
use Rattle.type_texts.proofs.Refusing.{function_alone, none_comes}
use Rattle.type_texts.proofs.written.function_of.Goals as goal
use Rattle.type_texts.proofs.written.function_of.Goals.{else-is_name-via-then-is_name+then-is_name-2+else-is_none}
use Rattle.type_texts.proofs.written.function_of.Goals.{else-is_name-via-then-is_name+else-is_name-2}
use Rattle.type_texts.proofs.written.function_of.Goals.{else-is_name-via-else-is_name}

only_word : (word other : List ℕ) (rest : List (List ℕ)) → word ∷ rest ≡ other ∷ [] → (other ≡ word) × (rest ≡ [])
only_word word other rest e = (cc, cc)

pub returns-else-is_name-clause-malformed : goal.returns-else-is_name-clause-malformed
returns-else-is_name-clause-malformed c = λ _ meaning h.
    let alone = function_alone c.args.argument.now _ meaning c.requires.opens_none h in
    let only =
    only_word c.in-Some.result.now alone.1 (words_left c.next.new.self) (sym c.in-Some.ensures.steps ∙ alone.2) in
    elim c.else-is_name.branch [
      | else-is_name-via-then-is_name+then-is_name-2+else-is_none w ↦
          let none : is_some w.next-then-is_name-2.result ≡ false = none_comes words_left c.next.new.self
          w.next-then-is_name-2.new.self w.next-then-is_name-2.result w.next-then-is_name-2.ensures.steps only.1 in
          let some : is_some w.next-then-is_name-2.result ≡ true = w.is_none.ensures ∙ ap not w.if-is_none.false in
          absurd (false≢true (sym none ∙ some))
      | else-is_name-via-then-is_name+else-is_name-2 w ↦ absurd
          (false≢true (sym w.if-is_name-2.false ∙ w.is_name-then-is_name.ensures.1 (subst IsName only.0 alone.3)))
      | else-is_name-via-else-is_name w ↦ absurd (false≢true (sym w.if-is_name.false ∙ c.is_name.ensures.1 alone.0))
    ]
