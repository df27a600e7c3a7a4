-- Reading a text, one line after another.
use Rattle.std.proofs.Common.{◌≡◌, ℕ, ◌+◌, List, [], ◌∷◌, ◌++◌, length, take, Some, sym, subst}
use Rattle.std.proofs.Common.{◌∙◌}
use Rattle.std.specs.Prelude.{slice_get, All, map}
use Rattle.std.specs.List.{AllZip, AllByRecursion, enumerate_from, filter_map}
use Rattle.std.proofs.lemmas.List.Elements.{All-from_recursion}
use Rattle.rule_tables.specs.declared.reading.question.Question.{Question}
use Rattle.rule_tables.specs.Question.{HasShortName, named}
use Rattle.rule_tables.specs.Grammar.{IsQuestion}
use Rattle.rule_tables.specs.Words.{Draft, Rules, Statement, Says, lines_of, IsDraftOf, IsMadeOf}
use Rattle.rule_tables.specs.Words.{IsTableOf, IsCandidate, IsToBeAnswered, Adds, Reads, number_of}
use Rattle.rule_tables.specs.Words.{candidates_of, questions_of, candidate_in, question_in}
pub use Rattle.line_texts.proofs.Lines.{line_at}
use Rattle.line_texts.proofs.Lines.{says_all, says_more}

-- the first lines make the table
pub record IsReadTo (text : List ℕ) (count : ℕ) (rules : Draft) : Type 0 where
  pub statements : List Statement
  pub lines : AllZip Says (take count (lines_of text)) statements
  pub table : IsDraftOf statements rules

-- one line more
pub read_more : (text : List ℕ) (i : ℕ) (old new : Draft) (line : List ℕ) → IsReadTo text i old
    → slice_get (lines_of text) i ≡ Some line
    → (s : Statement) × Says line s × Adds s old new → IsReadTo text (i + 1) new
read_more text i old new line so_far e w = record {
  statements = so_far.statements ++ w.0 ∷ [];
  lines = says_more Says text i line so_far.statements w.0 so_far.lines e w.1;
  table = w.2 so_far.statements so_far.table;
}

-- the table that is made of a draft
table_of : (ss : List Statement) (draft : Draft) (rules : Rules) → IsDraftOf ss draft
    → IsMadeOf draft rules → IsTableOf ss rules
table_of ss draft rules h made = record {
  names = made.names ∙ h.names;
  candidates = λ goal name e.
      let is : slice_get draft.names (number_of goal) ≡ Some name =
      subst (λ ns. slice_get ns (number_of goal) ≡ Some name) made.names e in
      subst (λ ns. AllZip (IsCandidate ns) (candidates_of rules goal) (filter_map (candidate_in name) ss))
      (sym made.names)
      (subst (λ cs. AllZip (IsCandidate draft.names) cs (filter_map (candidate_in name) ss))
      (sym (made.candidates goal name is)) (h.candidates goal name is));
  questions = subst (λ ns. AllZip (IsToBeAnswered ns) (questions_of rules) (filter_map question_in ss)) (sym made.names)
      (subst (λ qs. AllZip (IsToBeAnswered draft.names) qs (filter_map question_in ss))
      (sym made.questions) h.questions);
}

-- the last line
pub all_read : (text : List ℕ) (n : ℕ) (draft : Draft) (rules : Rules) → IsReadTo text n draft
    → n ≡ length (enumerate_from 0 (lines_of text)) → IsMadeOf draft rules → Reads text rules
all_read text n draft rules so_far end made = record {
  statements = so_far.statements;
  lines = says_all Says text n so_far.statements so_far.lines end;
  table = table_of so_far.statements draft rules so_far.table made;
}

-- the names of a rule's questions are names
short_from : (words : List (List ℕ)) (questions : List Question) → AllZip IsQuestion words (map named questions)
    → AllByRecursion HasShortName questions
short_from words [] h = tt
short_from [] (q ∷ questions) h = absurd h
short_from (word ∷ words) (q ∷ questions) h = (h.0.is_name.is_short, short_from words questions h.1)

pub short_names : (words : List (List ℕ)) (questions : List Question)
    → AllZip IsQuestion words (map named questions) → All HasShortName questions
short_names words questions h = All-from_recursion HasShortName questions (short_from words questions h)
