-- What the grammar allows has short names.
use Rattle.std.proofs.Common.{◌≡◌, ℕ, zero, suc, ◌<◌, ◌≤◌, List, [], ◌∷◌, length, map, get_or, Some, sym, subst, arith}
use Rattle.std.specs.Prelude.{All}
use Rattle.std.specs.List.{AllByRecursion, AllZip}
use Rattle.std.proofs.lemmas.List.Elements.{All-from_recursion, All-weaker, recursion_from_All}
use Rattle.type_texts.specs.Grammar.{Ask, Base, Bottom, Declare, Function, Nothing, Record, Top, Union}
use Rattle.type_texts.specs.Words.{HasShortName, HasShortParts, HasShortWords, IsField, Meaning, name_in, named, Says}
use Rattle.type_texts.specs.Words.{Spell, Statement, statement_of}
use Rattle.type_texts.specs.declared.line.Line.{Line}
use Rattle.type_texts.specs.declared.written.WrittenField.{WrittenField}

short_parts : (words : List (List ℕ)) (meaning : Meaning) → Spell words meaning → HasShortParts meaning
short_parts words (Base word) h = h.1.is_short
short_parts words Top h = tt
short_parts words Bottom h = tt
short_parts words (Function argument outcome) h = tt
short_parts words (Record fields) h =
    All-weaker IsField HasShortName (λ field is. is.is_name.is_short) fields h.2.are_fields
short_parts words (Union names) h = tt

short_words : (line : List ℕ) (statement : Statement) → Says line statement → HasShortWords statement
short_words line Nothing h = tt
short_words line (Declare name meaning) h = (h.is_name.is_short, short_parts h.written meaning h.means)
short_words line (Ask left right) h = tt

short_by : (lines : List (List ℕ)) (statements : List Statement) → AllZip Says lines statements
    → AllByRecursion HasShortWords statements
short_by lines [] h = tt
short_by [] (s ∷ statements) h = absurd h
short_by (line ∷ lines) (s ∷ statements) h = (short_words line s h.0, short_by lines statements h.1)

-- so have all that lines say
pub all_short : (lines : List (List ℕ)) (statements : List Statement)
    → AllZip Says lines statements → All HasShortWords statements
all_short lines statements h = All-from_recursion HasShortWords statements (short_by lines statements h)

-- ---- one of them

at_by : (lines : List Line) (i : ℕ) (line : Line) → AllByRecursion HasShortWords (map statement_of lines)
    → i < length lines → line ≡ get_or lines i line → HasShortWords (statement_of line)
at_by [] i line h l e = absurd (omega arith)
at_by (x ∷ lines) zero line h l e = subst (λ y. HasShortWords (statement_of y)) (sym e) h.0
at_by (x ∷ lines) (suc i) line h l e = at_by lines i line h.1 (omega arith) e

pub short_at : (lines : List Line) (i : ℕ) (line : Line) → All HasShortWords (map statement_of lines) → i < length lines
    → line ≡ get_or lines i line → HasShortWords (statement_of line)
short_at lines i line h = at_by lines i line (recursion_from_All HasShortWords (map statement_of lines) h)

pub short_declared : (statement : Statement) (name : List ℕ) → HasShortWords statement
    → name_in statement ≡ Some name → length name ≤ 16
short_declared Nothing name h is = absurd cc
short_declared (Declare declared meaning) name h is =
    let same : declared ≡ name = cc in subst (λ text. length text ≤ 16) same h.0
short_declared (Ask left right) name h is = absurd cc

field_by : (fields : List WrittenField) (i : ℕ) (d : WrittenField) → AllByRecursion HasShortName (map named fields)
    → i < length fields → length (get_or fields i d).name.now ≤ 16
field_by [] i d h l = absurd (omega arith)
field_by (x ∷ fields) zero d h l = h.0
field_by (x ∷ fields) (suc i) d h l = field_by fields i d h.1 (omega arith)

pub short_field : (fields : List WrittenField) (i : ℕ) (d : WrittenField) → All HasShortName (map named fields)
    → i < length fields → length (get_or fields i d).name.now ≤ 16
short_field fields i d h = field_by fields i d (recursion_from_All HasShortName (map named fields) h)
