-- The table that a text's statements make.
use Rattle.std.specs.Prelude.{◌≡◌, ℕ, Bool, if◌then◌else◌, List, [], ◌∷◌, map, fold, Option, Some, None, slice_get}
use Rattle.std.specs.List.{AllZip, filter_map, flat_map}
use Rattle.std.specs.Str.{bytes_eq}
use Rattle.rule_tables.specs.declared.rules.Goal.{Goal}
use Rattle.rule_tables.specs.declared.rules.Asking.{Asking}
use Rattle.rule_tables.specs.Candidate.{Candidate}
use Rattle.rule_tables.specs.declared.rules.Rules.{Rules}
use Rattle.rule_tables.specs.Grammar.{NamedQuestion, Statement, Nothing, Rule, Ask}
use Rattle.line_texts.specs.Names.{with_name}
use Rattle.rule_tables.specs.Rules.{number_of, names_of, name_of, candidates_of, questions_of}

-- the names in a statement, in order
abbrev pub names_in : Statement → List (List ℕ)
names_in Nothing = []
names_in (Rule is_marked name questions) = name ∷ map (λ q. q.name) questions
names_in (Ask depth name) = name ∷ []

-- each name once, in the order of first mention
abbrev pub first_mentions : List (List ℕ) → List (List ℕ)
first_mentions = fold with_name []

-- a candidate as its rule writes it
pub record NamedCandidate : Type 0 where
  pub is_marked : Bool
  pub questions : List NamedQuestion

-- the candidate of a rule of this name
abbrev pub candidate_in : List ℕ → Statement → Option NamedCandidate
candidate_in name Nothing = None
candidate_in name (Rule is_marked head questions) =
    if bytes_eq head name then Some (record { is_marked = is_marked; questions = questions }) else None
candidate_in name (Ask depth asked) = None

-- the depth and the name of a question to be answered
abbrev pub question_in : Statement → Option (ℕ × List ℕ)
question_in Nothing = None
question_in (Rule is_marked head questions) = None
question_in (Ask depth name) = Some (depth, name)

-- the same question, by its goal and by that goal's name
pub record IsAsked (names : List (List ℕ)) (asking : Asking) (question : NamedQuestion) : Type 0 where
  pub kind : asking.kind ≡ question.kind
  pub goal : slice_get names (number_of asking.goal) ≡ Some question.name

-- the same questions, in order
abbrev pub AreAsked : List (List ℕ) → List Asking → List NamedQuestion → Type 0
AreAsked names = AllZip (IsAsked names)

-- the same candidate
pub record IsCandidate (names : List (List ℕ)) (candidate : Candidate) (written : NamedCandidate) : Type 0 where
  pub is_marked : candidate.is_marked ≡ written.is_marked
  pub questions : AreAsked names candidate.questions written.questions

-- the same question to be answered
pub record IsToBeAnswered (names : List (List ℕ)) (question : ℕ × Goal) (written : ℕ × List ℕ) : Type 0 where
  pub depth : question.0 ≡ written.0
  pub goal : slice_get names (number_of question.1) ≡ Some written.1

-- The names are those that the statements mention, each name has the candidates of its rules, and the questions are
-- those to be answered, all in order.
pub record IsTableOf (statements : List Statement) (rules : Rules) : Type 0 where
  pub names : names_of rules ≡ first_mentions (flat_map names_in statements)
  pub candidates : (goal : Goal) (name : List ℕ) → name_of rules goal ≡ Some name
      → AllZip (IsCandidate (names_of rules)) (candidates_of rules goal) (filter_map (candidate_in name) statements)
  pub questions : AllZip (IsToBeAnswered (names_of rules)) (questions_of rules) (filter_map question_in statements)
