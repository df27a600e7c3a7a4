-- Reading the questions of a rule, one word after another.
use Rattle.std.proofs.Common.{◌≡◌, ℕ, List, [], ◌∷◌, ◌++◌, ◌∙◌, ap, sym, subst, append_assoc, map}
use Rattle.std.specs.List.{AllZip}
use Rattle.std.proofs.lemmas.List.{map-append}
pub use Rattle.line_texts.proofs.Lines.{AllZip-append_one}
use Rattle.rule_tables.specs.declared.reading.question.Question.{Question}
use Rattle.rule_tables.specs.Words.{NamedQuestion, IsQuestion, named}

-- the words so far are these questions, and the others are left
pub record AreReadTo (words left : List (List ℕ)) (questions : List NamedQuestion) : Type 0 where
  pub read : List (List ℕ)
  pub whole : words ≡ read ++ left
  pub are_questions : AllZip IsQuestion read questions

module _ {A B : Type 0} (R : A → B → Type 0) where
  AllZip-inside : (xs : List A) (x : A) (rest : List A) (ys : List B) → AllZip R (xs ++ x ∷ rest) ys → (y : B) × R x y
  AllZip-inside [] x rest [] h = absurd h
  AllZip-inside [] x rest (y ∷ ys) h = (y, h.0)
  AllZip-inside (w ∷ xs) x rest [] h = absurd h
  AllZip-inside (w ∷ xs) x rest (z ∷ ys) h = AllZip-inside xs x rest ys h.1

-- one word more
pub read_more : (words left rest : List (List ℕ)) (questions all : List Question) (word : List ℕ)
    (question : Question) → AreReadTo words left (map named questions) → left ≡ word ∷ rest →
    IsQuestion word (named question) → all ≡ questions ++ question ∷ [] → AreReadTo words rest (map named all)
read_more words left rest questions all word question so_far e is pushed = record {
  read = so_far.read ++ word ∷ [];
  whole = so_far.whole ∙ ap (λ ws. so_far.read ++ ws) e ∙ sym (append_assoc so_far.read (word ∷ []) rest);
  are_questions = rw (pushed, map-append)
      (AllZip-append_one IsQuestion so_far.read (map named questions) word (named question) so_far.are_questions is);
}

-- a word that is no question
pub refused : (words left rest : List (List ℕ)) (questions : List NamedQuestion) (word : List ℕ) →
    AreReadTo words left questions → left ≡ word ∷ rest → ((q : NamedQuestion) → IsQuestion word q → ⊥) →
    (all : List NamedQuestion) → AllZip IsQuestion words all → ⊥
refused words left rest questions word so_far e none all h =
    let w = AllZip-inside IsQuestion so_far.read word rest all
    (subst (λ ws. AllZip IsQuestion ws all) (so_far.whole ∙ ap (λ ws. so_far.read ++ ws) e) h) in
    none w.0 w.1
