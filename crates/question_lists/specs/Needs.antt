-- What proves and refutes a goal that needs all of its questions, or any of them.
use Rattle.std.specs.Prelude.{Bool, List}
use Rattle.question_lists.specs.Below.{Question, IsWithin, Overlap, Outcome, Yes, No, is_yes, is_no}
use Rattle.question_lists.specs.declared.needs.Needs.{Needs}
use Rattle.question_lists.specs.declared.needs.Needs.TheVariants.{All, Any}

-- a goal that needs all of its questions holds where each of them does, and one that needs any where some does
abbrev pub Proves : {I : Type 0} → Needs → (questions held : List (Question I)) → Type 0
Proves All questions held = IsWithin questions held
Proves Any questions held = Overlap questions held

-- the first does not hold where some question does not, and the second where none does
abbrev pub Refutes : {I : Type 0} → Needs → (questions failed : List (Question I)) → Type 0
Refutes All questions failed = Overlap questions failed
Refutes Any questions failed = IsWithin questions failed

-- one answer of this verdict is enough for the goal's result
abbrev pub is_enough : Needs → Outcome → Bool
is_enough All = is_no
is_enough Any = is_yes

-- the goal needs all answers to be of the other one
abbrev pub is_filling : Needs → Outcome → Bool
is_filling All = is_yes
is_filling Any = is_no

-- the result for which one answer is enough
abbrev pub early_outcome : Needs → Outcome
early_outcome All = No
early_outcome Any = Yes

-- the result that takes all answers
abbrev pub full_outcome : Needs → Outcome
full_outcome All = Yes
full_outcome Any = No
