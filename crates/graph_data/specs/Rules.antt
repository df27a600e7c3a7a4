-- The rules on a page of data, and those that are read of it.
use Rattle.std.specs.Prelude.{◌≡◌, ℕ, List, [], ◌∷◌, Some}
use Rattle.std.specs.List.{AllZip}
use Rattle.rule_tables.specs.Grammar.{Ask, Nothing, Rule, Says, Statement}
use Rattle.rule_tables.specs.Candidate.{Candidate}
use Rattle.graph_data.specs.Below.{candidates_of, Goal, name_of, names_of, questions_of, Reads, Rules}

-- a statement that says something, alone
abbrev pub if_something : Statement → List Statement
if_something Nothing = []
if_something (Rule is_marked name questions) = Rule is_marked name questions ∷ []
if_something (Ask depth name) = Ask depth name ∷ []

-- these lines say what the line says, if it says something
abbrev pub SayTheSame : List ℕ → List (List ℕ) → Type 0
SayTheSame line lines = (s : Statement) → Says line s → AllZip Says lines (if_something s)

-- the other text makes each table that the text makes
abbrev pub MakesTheSame : List ℕ → List ℕ → Type 0
MakesTheSame text other = (rules : Rules) → Reads text rules → Reads other rules

-- a rule that asks the same questions, in order, and is marked where the other is
pub record IsSameCandidate (one other : Candidate) : Type 0 where
  pub is_marked : other.is_marked ≡ one.is_marked
  pub questions : other.questions ≡ one.questions

-- The same table: the same names and the same questions to be answered, and each goal has the same rules, all in order.
pub record AreSameRules (rules others : Rules) : Type 0 where
  pub names : names_of others ≡ names_of rules
  pub questions : questions_of others ≡ questions_of rules
  pub candidates : (goal : Goal) (name : List ℕ) → name_of rules goal ≡ Some name
      → AllZip IsSameCandidate (candidates_of rules goal) (candidates_of others goal)
