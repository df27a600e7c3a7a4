-- A table that is being read.
use Rattle.std.specs.Prelude.{◌≡◌, ℕ, List, [], ◌∷◌, ◌++◌, map, fold, Option, Some, slice_get}
use Rattle.std.specs.List.{AllZip, filter_map, flat_map}
use Rattle.rule_tables.specs.declared.rules.Goal.{Goal}
use Rattle.rule_tables.specs.declared.rules.Asking.{Asking}
use Rattle.rule_tables.specs.declared.rules.Rules.{Rules}
use Rattle.rule_tables.specs.declared.draft.Draft.{Draft}
use Rattle.rule_tables.specs.declared.reading.question.Question.{Question}
use Rattle.line_texts.specs.Names.{with_name}
use Rattle.rule_tables.specs.Candidate.{Candidate, candidate_with}
use Rattle.rule_tables.specs.DraftRule.{rules_of}
use Rattle.rule_tables.specs.Grammar.{Statement}
use Rattle.rule_tables.specs.Question.{named}
use Rattle.rule_tables.specs.Rules as table
use Rattle.rule_tables.specs.Rules.{number_of}
use Rattle.rule_tables.specs.Table.{AreAsked, candidate_in, first_mentions, IsCandidate, IsToBeAnswered}
use Rattle.rule_tables.specs.Table.{names_in, question_in}

-- the names so far, in the order of their numbers
abbrev pub names_of : Draft → List (List ℕ)
names_of draft = draft.names

-- the goal's name
abbrev pub name_of : Draft → Goal → Option (List ℕ)
name_of draft goal = slice_get (names_of draft) (number_of goal)

-- the depths and the goals that are asked
abbrev pub questions_of : Draft → List (ℕ × Goal)
questions_of draft = draft.questions.items

-- the candidates of the goal's rules so far
abbrev pub candidates_of : Draft → Goal → List Candidate
candidates_of draft goal =
    map (λ rule. candidate_with draft.askings.items rule.row) (rules_of (number_of goal) draft.rules.items)

-- the draft has what the table of the statements has
pub record IsDraftOf (statements : List Statement) (draft : Draft) : Type 0 where
  pub names : names_of draft ≡ first_mentions (flat_map names_in statements)
  pub candidates : (goal : Goal) (name : List ℕ) → name_of draft goal ≡ Some name
      → AllZip (IsCandidate (names_of draft)) (candidates_of draft goal) (filter_map (candidate_in name) statements)
  pub questions : AllZip (IsToBeAnswered (names_of draft)) (questions_of draft) (filter_map question_in statements)

-- the new draft has one more statement than the old one
abbrev pub Adds : Statement → Draft → Draft → Type 0
Adds statement old new =
    (statements : List Statement) → IsDraftOf statements old → IsDraftOf (statements ++ statement ∷ []) new

-- the new draft has these names too, and is the same in all else
pub record Mentions (old new : Draft) (more : List (List ℕ)) : Type 0 where
  pub names : names_of new ≡ fold with_name (names_of old) more
  pub candidates : (goal : Goal) → candidates_of new goal ≡ candidates_of old goal
  pub questions : questions_of new ≡ questions_of old

-- the new draft has the names of these questions too, and behind the old askings those of the questions
pub record HasAsked (old new : Draft) (questions : List Question) : Type 0 where
  pub mentions : Mentions old new (map (λ q. q.name.now) questions)
  pub more : List Asking
  pub askings : new.askings.items ≡ old.askings.items ++ more
  pub asked : AreAsked (names_of new) more (map named questions)

-- the table has what the draft has
pub record IsMadeOf (draft : Draft) (rules : Rules) : Type 0 where
  pub names : rules.names ≡ names_of draft
  pub candidates : (goal : Goal) (name : List ℕ) → name_of draft goal ≡ Some name
      → table.candidates_of rules goal ≡ candidates_of draft goal
  pub questions : table.questions_of rules ≡ questions_of draft
