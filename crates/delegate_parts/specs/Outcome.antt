-- The results of a goal, and which verdicts they have.
use Rattle.std.specs.Prelude.{ℕ, Bool, true, false, List, codes, Option, Some, None}
use Rattle.delegate_parts.specs.Below.{PathKind, Inductive, Unknown, Coinductive, ForcedAmbiguity, Verdicts}
use Rattle.delegate_parts.specs.declared.outcome.Outcome.{Outcome}
use Rattle.delegate_parts.specs.declared.outcome.Outcome.TheVariants.{Yes, No, Maybe, Overflow}

-- the goal holds
abbrev pub is_yes : Outcome → Bool
is_yes Yes = true
is_yes No = false
is_yes Maybe = false
is_yes Overflow = false

-- the goal does not hold
abbrev pub is_no : Outcome → Bool
is_no Yes = false
is_no No = true
is_no Maybe = false
is_no Overflow = false

-- which outcomes say yes, and which say no
abbrev pub outcome_verdicts : Verdicts Outcome
outcome_verdicts = record { is_yes = is_yes; is_no = is_no }

-- the first answer over a cycle of this kind
abbrev pub initial_outcome : PathKind → Outcome
initial_outcome Inductive = No
initial_outcome Unknown = Maybe
initial_outcome Coinductive = Yes
initial_outcome ForcedAmbiguity = Maybe

-- the kind of cycle whose first answer this can be
abbrev pub kind_of : Outcome → Option PathKind
kind_of Yes = Some Coinductive
kind_of No = Some Inductive
kind_of Maybe = None
kind_of Overflow = None

-- that neither is known
abbrev pub ambiguity_of : Outcome → Option (Unit {0})
ambiguity_of Yes = None
ambiguity_of No = None
ambiguity_of Maybe = Some tt
ambiguity_of Overflow = Some tt

-- what a goal comes to whose result is not stable after the most runs
abbrev pub after_most_runs : (overflow : Bool) → Outcome
after_most_runs true = Overflow
after_most_runs false = Maybe

-- the word for the outcome
abbrev pub word_of : Outcome → List ℕ
word_of Yes = codes "yes"
word_of No = codes "no"
word_of Maybe = codes "maybe"
word_of Overflow = codes "overflow"
