-- The rule of a pair of types, as a list of questions.
use Rattle.std.specs.Prelude.{◌≡◌, ℕ, ◌+◌, ◌==◌, if◌then◌else◌, List, [], ◌∷◌, map, length, sum_by, slice_get, Option}
use Rattle.std.specs.Prelude.{Some, None}
use Rattle.std.specs.Option.{unwrap_or}
use Rattle.type_order.specs.Below.{Coinductive, Question, Needs, All, Any}
use Rattle.type_order.specs.Fields.{Field, has_all, part_of}
use Rattle.type_order.specs.Subtypes.{Base, Bottom, Form, Function, Record, Top, Union}
use Rattle.type_order.specs.declared.delegate.Pair.{Pair}
pub use Rattle.type_order.specs.declared.delegate.Case.{Case}
pub use Rattle.type_order.specs.declared.delegate.Case.TheVariants.{BetweenFunctions, BetweenRecords, Fails, Holds}
pub use Rattle.type_order.specs.declared.delegate.Case.TheVariants.{SplitsLeft, SplitsRight}

-- how a pair is decided
abbrev pub case_between : Option Form → Option Form → Case
case_between (Some Bottom) right = Holds
case_between left (Some Top) = Holds
case_between (Some (Union ls)) right = SplitsLeft
case_between left (Some (Union rs)) = SplitsRight
case_between (Some (Base l)) (Some (Base r)) = if l == r then Holds else Fails
case_between (Some (Function a b)) (Some (Function c d)) = BetweenFunctions
case_between (Some (Record ls)) (Some (Record rs)) = if has_all ls.items rs.items then BetweenRecords else Fails
case_between left right = Fails

-- the alternatives of a union
abbrev pub alternatives_in : Option Form → List ℕ
alternatives_in (Some (Union alternatives)) = alternatives.items
alternatives_in form = []

-- the fields of a record
abbrev pub fields_in : Option Form → List Field
fields_in (Some (Record fields)) = fields.items
fields_in form = []

-- the argument and the result of a function
abbrev pub parts_in : Option Form → Option (ℕ × ℕ)
parts_in (Some (Function a b)) = Some (a, b)
parts_in form = None

abbrev pub pair : ℕ → ℕ → Pair
pair l r = record { left = l; right = r }

-- each alternative of the left type against the right one
abbrev pub left_pairs : Option Form → ℕ → List Pair
left_pairs left r = map (λ x. pair x r) (alternatives_in left)

-- the left type against each alternative of the right one
abbrev pub right_pairs : ℕ → Option Form → List Pair
right_pairs l right = map (λ y. pair l y) (alternatives_in right)

-- the arguments turned round, and the results
abbrev pub function_pairs : Option (ℕ × ℕ) → Option (ℕ × ℕ) → List Pair
function_pairs (Some l) (Some r) = pair r.0 l.0 ∷ pair l.1 r.1 ∷ []
function_pairs _ _ = []

-- the type of a field that is there
abbrev pub part_at : List Field → ℕ → ℕ
part_at fields name = unwrap_or (part_of fields name) 0

-- for each field of the right record that of the left one against it
abbrev pub record_pairs : List Field → List Field → List Pair
record_pairs ls rs = map (λ field. pair (part_at ls field.name) (part_at rs field.name)) rs

-- the pairs that are asked
abbrev pub pairs_in : Case → Pair → Option Form → Option Form → List Pair
pairs_in Holds asked left right = []
pairs_in Fails asked left right = []
pairs_in SplitsLeft asked left right = left_pairs left asked.right
pairs_in SplitsRight asked left right = right_pairs asked.left right
pairs_in BetweenFunctions asked left right = function_pairs (parts_in left) (parts_in right)
pairs_in BetweenRecords asked left right = record_pairs (fields_in left) (fields_in right)

-- a pair that fails needs any of no questions
abbrev pub needs_in : Case → Needs
needs_in Fails = Any
needs_in SplitsRight = Any
needs_in _ = All

abbrev pub asks : Pair → Question Pair
asks goal = record { kind = Coinductive; goal = goal }

abbrev pub case_of : List Form → Pair → Case
case_of forms goal = case_between (slice_get forms goal.left) (slice_get forms goal.right)

abbrev pub pairs_of : List Form → Pair → List Pair
pairs_of forms goal = pairs_in (case_of forms goal) goal (slice_get forms goal.left) (slice_get forms goal.right)

abbrev pub needs_of : List Form → Pair → Needs
needs_of forms goal = needs_in (case_of forms goal)

-- all that is asked for the pair is needed
abbrev pub NeedsAll : List Form → Pair → Type 0
NeedsAll forms goal = needs_of forms goal ≡ All

abbrev pub questions_of : List Form → Pair → List (Question Pair)
questions_of forms goal = map asks (pairs_of forms goal)

-- how many parts a union or a record has
abbrev pub size_of : Form → ℕ
size_of form = length (alternatives_in (Some form)) + length (fields_in (Some form))

-- no pair has more questions than all types have parts, or than two functions
abbrev pub most_questions : List Form → ℕ
most_questions forms = 2 + sum_by size_of forms
