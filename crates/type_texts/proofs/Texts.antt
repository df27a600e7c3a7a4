-- Tables of whole texts.
use Rattle.std.proofs.Common.{◌≡◌, ℕ, zero, suc, ◌<◌, List, [], ◌∷◌, length, map, get_or, Some, refl, ap, sym, ◌∙◌}
use Rattle.std.proofs.Common.{subst, arith}
use Rattle.std.specs.Prelude.{Contains, slice_get}
use Rattle.std.specs.List.{AllZip, filter_map}
use Rattle.std.proofs.lemmas.List.{length-map}
use Rattle.std.proofs.lemmas.Option.{slice_get_within}
use Rattle.type_order.specs.Rule.{alternatives_in}
use Rattle.type_order.specs.declared.fields.Field.{Field}
use Rattle.type_order.specs.declared.types.Form.{Form}
use Rattle.type_order.specs.declared.types.Form.TheVariants as types
use Rattle.type_order.specs.Order.{AreDeclared, parts_of}
use Rattle.type_texts.specs.Grammar.{Ask, Base, Bottom, Declare, Function, Meaning, NamedField, Nothing, Record}
use Rattle.type_texts.specs.Grammar.{Top, Union}
use Rattle.type_texts.specs.Table.{meaning_in}
use Rattle.type_texts.specs.Words.{declared_by, forms_in, IsForm, IsNumberOf, IsSameField, IsTableOf, IsUnionOfItself}
use Rattle.type_texts.specs.Words.{names_of, Statement, statement_of, union_lists}
use Rattle.type_texts.proofs.Unions.{step_within}
use Rattle.type_texts.specs.declared.line.Line.{Line}
use Rattle.type_texts.specs.declared.table.TypeTable.{TypeTable}

-- the statement of a line
pub statement_at : (lines : List Line) (i : ℕ) (line : Line) → i < length lines → line ≡ get_or lines i line
    → slice_get (map statement_of lines) i ≡ Some (statement_of line)
statement_at [] i line l e = absurd (omega arith)
statement_at (x ∷ lines) zero line l e = ap (λ y. Some (statement_of y)) (sym e)
statement_at (x ∷ lines) (suc i) line l e = statement_at lines i line (omega arith) e

-- as many names as types are declared
pub as_many : (ss : List Statement) → length (declared_by ss) ≡ length (filter_map meaning_in ss)
as_many [] = refl
as_many (Nothing ∷ ss) = as_many ss
as_many (Declare name meaning ∷ ss) = ap suc (as_many ss)
as_many (Ask left right ∷ ss) = as_many ss

zip_long : {A B : Type 0} (R : A → B → Type 0) (xs : List A) (ys : List B) → AllZip R xs ys → length xs ≡ length ys
zip_long R [] [] h = refl
zip_long R [] (y ∷ ys) h = absurd h
zip_long R (x ∷ xs) [] h = absurd h
zip_long R (x ∷ xs) (y ∷ ys) h = ap suc (zip_long R xs ys h.1)

-- each type has its name
pub as_many_forms : (ss : List Statement) (table : TypeTable) → IsTableOf ss table → names_of table ≡ declared_by ss
    → length (names_of table) ≡ length (forms_in table)
as_many_forms ss table is names = ap length names ∙ as_many ss
    ∙ sym (zip_long (IsForm (names_of table) table.words) (forms_in table) (filter_map meaning_in ss) is.forms)

-- what is a union of itself is declared
pub unguarded_is_declared : (ss : List Statement) (table : TypeTable) (n : ℕ) → IsTableOf ss table
    → IsUnionOfItself (forms_in table) n → n < length (declared_by ss)
unguarded_is_declared ss table n is union =
    let forms = forms_in table in
    let within = step_within (union_lists forms) n union.part union.is_part in
    let rows = length-map forms (λ form. alternatives_in (Some form)) in
    let many = as_many ss in
    let long = zip_long (IsForm (names_of table) table.words) forms (filter_map meaning_in ss) is.forms in
    omega (arith, within, rows, many, long)

module _ (names labels : List (List ℕ)) where
  number_within : (number : ℕ) (name : List ℕ) → IsNumberOf names number name → number < length names
  number_within number name at = slice_get_within names number name at

  numbers_within : (numbers : List ℕ) (written : List (List ℕ)) → AllZip (IsNumberOf names) numbers written → (x : ℕ)
      → Contains numbers x → x < length names
  numbers_within [] written h x has = absurd (let l = has.1 in omega arith)
  numbers_within (n ∷ numbers) [] h x has = absurd h
  numbers_within (n ∷ numbers) (name ∷ written) h x (zero, l, e) =
      subst (λ k. k < length names) e (number_within n name h.0)
  numbers_within (n ∷ numbers) (name ∷ written) h x (suc k, l, e) =
      numbers_within numbers written h.1 x (k, omega arith, e)

  fields_within : (fields : List Field) (written : List NamedField) → AllZip (IsSameField names labels) fields written
      → (x : ℕ) → Contains (map (λ field. field.part) fields) x → x < length names
  fields_within [] written h x has = absurd (let l = has.1 in omega arith)
  fields_within (f ∷ fields) [] h x has = absurd h
  fields_within (f ∷ fields) (w ∷ written) h x (zero, l, e) =
      subst (λ k. k < length names) e (number_within f.part w.part h.0.part)
  fields_within (f ∷ fields) (w ∷ written) h x (suc k, l, e) = fields_within fields written h.1 x (k, omega arith, e)

  nothing : (x : ℕ) → Contains [] x → x < length names
  nothing x has = absurd (let l = has.1 in omega arith)

  parts_within : (form : Form) (meaning : Meaning) → IsForm names labels form meaning → (x : ℕ)
      → Contains (parts_of form) x → x < length names
  parts_within (types.Base n) meaning h x has = nothing x has
  parts_within types.Top meaning h x has = nothing x has
  parts_within types.Bottom meaning h x has = nothing x has
  parts_within (types.Function a b) (Function l r) h x (zero, w, e) =
      subst (λ k. k < length names) e (number_within a l h.0)
  parts_within (types.Function a b) (Function l r) h x (suc zero, w, e) =
      subst (λ k. k < length names) e (number_within b r h.1)
  parts_within (types.Function a b) (Function l r) h x (suc (suc k), w, e) = absurd (omega arith)
  parts_within (types.Function a b) (Base word) h x has = absurd h
  parts_within (types.Function a b) Top h x has = absurd h
  parts_within (types.Function a b) Bottom h x has = absurd h
  parts_within (types.Function a b) (Record written) h x has = absurd h
  parts_within (types.Function a b) (Union written) h x has = absurd h
  parts_within (types.Record fields) (Record written) h x has = fields_within fields.items written h x has
  parts_within (types.Record fields) (Base word) h x has = absurd h
  parts_within (types.Record fields) Top h x has = absurd h
  parts_within (types.Record fields) Bottom h x has = absurd h
  parts_within (types.Record fields) (Function l r) h x has = absurd h
  parts_within (types.Record fields) (Union written) h x has = absurd h
  parts_within (types.Union numbers) (Union written) h x has = numbers_within numbers.items written h x has
  parts_within (types.Union numbers) (Base word) h x has = absurd h
  parts_within (types.Union numbers) Top h x has = absurd h
  parts_within (types.Union numbers) Bottom h x has = absurd h
  parts_within (types.Union numbers) (Function l r) h x has = absurd h
  parts_within (types.Union numbers) (Record written) h x has = absurd h

  forms_within : (forms : List Form) (meanings : List Meaning) → AllZip (IsForm names labels) forms meanings
      → (n : ℕ) (form : Form) → slice_get forms n ≡ Some form → (x : ℕ) → Contains (parts_of form) x → x < length names
  forms_within [] meanings h n form e x has = absurd cc
  forms_within (f ∷ forms) [] h n form e x has = absurd h
  forms_within (f ∷ forms) (m ∷ meanings) h zero form e x has =
      let same : f ≡ form = cc in parts_within f m h.0 x (subst (λ g. Contains (parts_of g) x) (sym same) has)
  forms_within (f ∷ forms) (m ∷ meanings) h (suc n) form e x has = forms_within forms meanings h.1 n form e x has

-- each part of each type is declared
pub all_declared : (ss : List Statement) (table : TypeTable) → IsTableOf ss table
    → names_of table ≡ declared_by ss → AreDeclared (forms_in table)
all_declared ss table is names = λ n form e part has.
    let many = as_many_forms ss table is names in
    let l =
    forms_within (names_of table) table.words (forms_in table) (filter_map meaning_in ss) is.forms n form e part has in
    omega (arith, many, l)
