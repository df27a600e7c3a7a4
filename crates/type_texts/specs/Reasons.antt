-- Why a type is not below another: a way from their pair to one that fails, whatever else there is.
use Rattle.std.specs.Prelude.{◌≡◌, ◌≢◌, ℕ, List, [], ◌∷◌, ◌++◌, Contains, Option, Some, None, codes, slice_get}
use Rattle.std.specs.List.{filter_map, flat_map}
use Rattle.std.specs.Option.{unwrap_or}
use Rattle.type_order.specs.Fields.{part_of}
use Rattle.type_order.specs.Subtypes.{IsBelow, IsRecord, IsUnion}
use Rattle.type_order.specs.declared.delegate.Pair.{Pair}
use Rattle.type_order.specs.declared.fields.Field.{Field}
use Rattle.type_order.specs.declared.types.Form.{Form}
use Rattle.type_order.specs.declared.types.Form.TheVariants.{Base, Bottom, Function, Record, Top, Union}
use Rattle.type_texts.specs.Table.{forms_in, labels_of, names_of}
use Rattle.type_texts.specs.declared.reasons.End.{End}
use Rattle.type_texts.specs.declared.reasons.End.TheVariants.{Apart, Lacks, NoAlternative}
use Rattle.type_texts.specs.declared.reasons.Step.{Step}
use Rattle.type_texts.specs.declared.reasons.Step.TheVariants as step
use Rattle.type_texts.specs.declared.table.TypeTable.{TypeTable}

-- the forms keep the left type from being below the right one, whatever their parts are
abbrev pub AreApart : (left right : Option Form) → Type 0
AreApart (Some Bottom) right = ⊥
AreApart left (Some Top) = ⊥
AreApart (Some (Union ls)) right = ⊥
AreApart left (Some (Union rs)) = ⊥
AreApart (Some (Base v)) (Some (Base w)) = v ≢ w
AreApart (Some (Function a b)) (Some (Function c d)) = ⊥
AreApart (Some (Record ls)) (Some (Record rs)) = ⊥
AreApart left right = Unit {0}

-- below a union only if it is below one of the alternatives: neither a union nor the bottom
abbrev pub IsWhole : Option Form → Type 0
IsWhole (Some Bottom) = ⊥
IsWhole (Some (Union parts)) = ⊥
IsWhole form = Unit {0}

module _ (forms : List Form) where
  -- The step leads from a pair to one of its parts. The arguments of functions stand the other way round.
  abbrev pub IsStep : Step → (whole part : Pair) → Type 0
  IsStep step.Alternative whole part =
      (alternatives : List ℕ) × IsUnion (slice_get forms whole.left) alternatives
      × Contains alternatives part.left × (part.right ≡ whole.right)
  IsStep step.Argument whole part =
      (b d : ℕ) × (slice_get forms whole.left ≡ Some (Function part.right b))
      × (slice_get forms whole.right ≡ Some (Function part.left d))
  IsStep step.Result whole part =
      (a c : ℕ) × (slice_get forms whole.left ≡ Some (Function a part.left))
      × (slice_get forms whole.right ≡ Some (Function c part.right))
  IsStep (step.Field name) whole part =
      (ls rs : List Field) × IsRecord (slice_get forms whole.left) ls × IsRecord (slice_get forms whole.right) rs ×
      (part_of ls name ≡ Some part.left) × (part_of rs name ≡ Some part.right)

  -- the steps lead from the pair to the last one, each from where the one before it led
  abbrev pub Leads : List Step → (pair last : Pair) → Type 0
  Leads [] pair last = pair ≡ last
  Leads (step ∷ way) pair last = (part : Pair) × IsStep step pair part × Leads way part last

  -- the pair fails as is told
  abbrev pub Fails : End → Pair → Type 0
  Fails Apart pair = AreApart (slice_get forms pair.left) (slice_get forms pair.right)
  Fails NoAlternative pair =
      (alternatives : List ℕ) × IsUnion (slice_get forms pair.right) alternatives
      × IsWhole (slice_get forms pair.left) ×
      ((y : ℕ) → Contains alternatives y → IsBelow forms pair.left y → ⊥)
  Fails (Lacks name) pair =
      (ls rs : List Field) × IsRecord (slice_get forms pair.left) ls × IsRecord (slice_get forms pair.right) rs ×
      (part_of ls name ≡ None) × (y : ℕ) × (part_of rs name ≡ Some y)

-- the fields, if it is a record
abbrev pub record_in : Option Form → Option (List Field)
record_in (Some (Record fields)) = Some fields.items
record_in form = None

-- the name of the type of a number
abbrev pub name_of : TypeTable → ℕ → List ℕ
name_of table number = unwrap_or (slice_get (names_of table) number) []

-- the name of the field of a number
abbrev pub label_of : TypeTable → ℕ → List ℕ
label_of table number = unwrap_or (slice_get (labels_of table) number) []

-- the name of a step; that to an alternative has none
abbrev pub step_name : TypeTable → Step → Option (List ℕ)
step_name table step.Alternative = None
step_name table step.Argument = Some (codes "argument")
step_name table step.Result = Some (codes "result")
step_name table (step.Field name) = slice_get (labels_of table) name

-- where the pair is found, as ` at tail.head`
abbrev pub place_words : List (List ℕ) → List ℕ
place_words [] = []
place_words (name ∷ names) = codes " at " ++ name ++ flat_map (λ later. codes "." ++ later) names

abbrev pub way_words : TypeTable → List Step → List ℕ
way_words table way = place_words (filter_map (step_name table) way) ++ codes ": "

-- how a pair fails
abbrev pub failure_words : End → List ℕ
failure_words Apart = codes " is not below "
failure_words NoAlternative = codes " fits no alternative of "
failure_words (Lacks name) = codes " has no "

-- what it fails to fit, or lacks
abbrev pub missed_word : TypeTable → Pair → End → List ℕ
missed_word table pair Apart = name_of table pair.right
missed_word table pair NoAlternative = name_of table pair.right
missed_word table pair (Lacks name) = label_of table name

abbrev pub end_words : TypeTable → Pair → End → List ℕ
end_words table pair end = name_of table pair.left ++ failure_words end ++ missed_word table pair end

-- The text says how the pair's left type fails to be below its right one: steps lead from the pair to one that fails as
-- is told, and the text is the names of these steps and what is said of that pair.
pub record IsReason (table : TypeTable) (pair : Pair) (text : List ℕ) : Type 0 where
  pub way : List Step
  pub last : Pair
  pub end : End
  pub leads : Leads (forms_in table) way pair last
  pub fails : Fails (forms_in table) end last
  pub words : text ≡ way_words table way ++ end_words table last end

-- a reason shows that the left type is not below the right one
abbrev pub ReasonsShowIt : Type 0
ReasonsShowIt = (table : TypeTable) (pair : Pair) (text : List ℕ) → IsReason table pair text
    → IsBelow (forms_in table) pair.left pair.right → ⊥
