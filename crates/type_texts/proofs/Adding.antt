-- Entering what a statement says.
use Rattle.std.proofs.Common.{◌≡◌, ℕ, zero, suc, ◌+◌, ◌<◌, List, [], ◌∷◌, ◌++◌, length, map, take, get_or, Some, refl}
use Rattle.std.proofs.Common.{ap, sym, ◌∙◌, subst, arith}
use Rattle.std.specs.Prelude.{Contains, slice_get}
use Rattle.std.specs.List.{AllZip, filter_map}
use Rattle.std.proofs.lemmas.List.Elements.{filter_map-append}
use Rattle.type_order.specs.declared.delegate.Pair.{Pair}
use Rattle.type_order.specs.declared.types.Form.{Form}
use Rattle.type_order.specs.declared.types.Form.TheVariants as types
use Rattle.type_order.specs.declared.fields.Field.{Field}
use Rattle.type_texts.specs.declared.table.TypeTable.{TypeTable}
use Rattle.type_texts.specs.declared.written.WrittenField.{WrittenField}
use Rattle.type_texts.specs.Grammar.{Base, Bottom, Function, Meaning, NamedField, Record, Top, Union}
use Rattle.type_texts.specs.Table.{meaning_in, question_in}
use Rattle.type_texts.specs.Words.{Adds, forms_in, GrowsLabels, HasUndeclared, IsAsked, IsForm, IsNumberOf, IsSameField}
use Rattle.type_texts.specs.Words.{labels_of, named, names_of, questions_of, Statement}
use Rattle.line_texts.proofs.Lines.{AllZip-append_one}
use Rattle.type_texts.proofs.Lists.{AllZip-append, AllZip-weaker, contains_later, map_take_next}

module _ (names old new : List (List ℕ))
    (kept : (n : ℕ) (x : List ℕ) → slice_get old n ≡ Some x → slice_get new n ≡ Some x) where
  form_kept : (form : Form) (meaning : Meaning) → IsForm names old form meaning → IsForm names new form meaning
  form_kept (types.Base n) (Base word) h = kept n word h
  form_kept (types.Base n) Top h = absurd h
  form_kept (types.Base n) Bottom h = absurd h
  form_kept (types.Base n) (Function argument outcome) h = absurd h
  form_kept (types.Base n) (Record written) h = absurd h
  form_kept (types.Base n) (Union written) h = absurd h
  form_kept types.Top (Base word) h = absurd h
  form_kept types.Top Top h = h
  form_kept types.Top Bottom h = absurd h
  form_kept types.Top (Function argument outcome) h = absurd h
  form_kept types.Top (Record written) h = absurd h
  form_kept types.Top (Union written) h = absurd h
  form_kept types.Bottom (Base word) h = absurd h
  form_kept types.Bottom Top h = absurd h
  form_kept types.Bottom Bottom h = h
  form_kept types.Bottom (Function argument outcome) h = absurd h
  form_kept types.Bottom (Record written) h = absurd h
  form_kept types.Bottom (Union written) h = absurd h
  form_kept (types.Function a b) (Base word) h = absurd h
  form_kept (types.Function a b) Top h = absurd h
  form_kept (types.Function a b) Bottom h = absurd h
  form_kept (types.Function a b) (Function argument outcome) h = h
  form_kept (types.Function a b) (Record written) h = absurd h
  form_kept (types.Function a b) (Union written) h = absurd h
  form_kept (types.Record fields) (Base word) h = absurd h
  form_kept (types.Record fields) Top h = absurd h
  form_kept (types.Record fields) Bottom h = absurd h
  form_kept (types.Record fields) (Function argument outcome) h = absurd h
  form_kept (types.Record fields) (Record written) h = AllZip-weaker (IsSameField names old) (IsSameField names new)
      (λ x y same. record { name = kept x.name y.name same.name; part = same.part }) fields.items written h
  form_kept (types.Record fields) (Union written) h = absurd h
  form_kept (types.Union numbers) (Base word) h = absurd h
  form_kept (types.Union numbers) Top h = absurd h
  form_kept (types.Union numbers) Bottom h = absurd h
  form_kept (types.Union numbers) (Function argument outcome) h = absurd h
  form_kept (types.Union numbers) (Record written) h = absurd h
  form_kept (types.Union numbers) (Union written) h = h

  pub forms_kept : (forms : List Form) (meanings : List Meaning) → AllZip (IsForm names old) forms meanings
      → AllZip (IsForm names new) forms meanings
  forms_kept = AllZip-weaker (IsForm names old) (IsForm names new) form_kept

  pub fields_kept : (fields : List Field) (written : List NamedField) → AllZip (IsSameField names old) fields written
      → AllZip (IsSameField names new) fields written
  fields_kept = AllZip-weaker (IsSameField names old) (IsSameField names new)
      (λ x y same. record { name = kept x.name y.name same.name; part = same.part })

-- The table has one more statement if it grew by what that says.
pub adds : (s : Statement) (old new : TypeTable) → names_of new ≡ names_of old →
    ((n : ℕ) (x : List ℕ) → slice_get (labels_of old) n ≡ Some x → slice_get (labels_of new) n ≡ Some x) →
    (fs : List Form) → forms_in new ≡ forms_in old ++ fs →
    AllZip (IsForm (names_of new) (labels_of new)) fs (filter_map meaning_in (s ∷ [])) →
    (qs : List Pair) → questions_of new ≡ questions_of old ++ qs →
    AllZip (IsAsked (names_of new)) qs (filter_map question_in (s ∷ [])) → Adds s old new
adds s old new names kept fs forms is_forms qs questions are_asked = record {
  names = names;
  more = λ statements is all e. record {
    forms = subst (λ xs. AllZip (IsForm (names_of new) (labels_of new)) xs (filter_map meaning_in all)) (sym forms)
        (subst (λ ms. AllZip (IsForm (names_of new) (labels_of new)) (forms_in old ++ fs) ms)
        (sym (ap (filter_map meaning_in) e ∙ filter_map-append meaning_in statements (s ∷ [])))
        (AllZip-append (IsForm (names_of new) (labels_of new)) (forms_in old)
        (filter_map meaning_in statements) fs (filter_map meaning_in (s ∷ []))
        (subst (λ ns. AllZip (IsForm ns (labels_of new)) (forms_in old) (filter_map meaning_in statements)) (sym names)
        (forms_kept (names_of old) (labels_of old) (labels_of new) kept (forms_in old)
        (filter_map meaning_in statements) is.forms)) is_forms));
    questions = subst (λ xs. AllZip (IsAsked (names_of new)) xs (filter_map question_in all)) (sym questions)
        (subst (λ ms. AllZip (IsAsked (names_of new)) (questions_of old ++ qs) ms)
        (sym (ap (filter_map question_in) e ∙ filter_map-append question_in statements (s ∷ [])))
        (AllZip-append (IsAsked (names_of new)) (questions_of old) (filter_map question_in statements)
        qs (filter_map question_in (s ∷ []))
        (subst (λ ns. AllZip (IsAsked ns) (questions_of old) (filter_map question_in statements))
        (sym names) is.questions) are_asked));
  };
}

-- one more name of a union
pub numbers_more : (names : List (List ℕ)) (old new : List ℕ) (number : ℕ) {B : Type 0} (f : B → List ℕ)
    (written : List B) (i : ℕ) (d : B) → i < length written → AllZip (IsNumberOf names) old (map f (take i written)) →
    IsNumberOf names number (f (get_or written i d)) → new ≡ old ++ number ∷ [] →
    AllZip (IsNumberOf names) new (map f (take (i + 1) written))
numbers_more names old new number f written i d l so_far is pushed =
    rw (map_take_next f written i d l, pushed)
    (AllZip-append_one (IsNumberOf names) old (map f (take i written)) number (f (get_or written i d)) so_far is)

-- one more field of a record
pub fields_more : (mid new : TypeTable) (old all : List Field) (field : Field) (written : List WrittenField) (i : ℕ)
    (d : WrittenField) → i < length written →
    AllZip (IsSameField (names_of mid) (labels_of mid)) old (map named (take i written)) → GrowsLabels mid new →
    IsSameField (names_of new) (labels_of new) field (named (get_or written i d)) →
    all ≡ old ++ field ∷ [] → AllZip (IsSameField (names_of new) (labels_of new)) all (map named (take (i + 1) written))
fields_more mid new old all field written i d l so_far grows is pushed =
    let kept = subst (λ ns. AllZip (IsSameField ns (labels_of new)) old (map named (take i written))) (sym grows.names)
    (fields_kept (names_of mid) (labels_of mid) (labels_of new) grows.kept old (map named (take i written)) so_far) in
    rw (map_take_next named written i d l, pushed) (AllZip-append_one (IsSameField (names_of new) (labels_of new)) old
    (map named (take i written)) field (named (get_or written i d)) kept is)

pub grows_more : (a b c : TypeTable) → GrowsLabels a b → GrowsLabels b c → GrowsLabels a c
grows_more a b c g h = record {
  kept = λ n x at. h.kept n x (g.kept n x at);
  names = h.names ∙ g.names;
  forms = h.forms ∙ g.forms;
  questions = h.questions ∙ g.questions;
}

part_among : (written : List WrittenField) (i : ℕ) (d : WrittenField) → i < length written
    → Contains (map (λ field. field.part) (map named written)) (get_or written i d).part.now
part_among [] i d l = absurd (omega arith)
part_among (w ∷ written) zero d l = (0, omega arith, refl)
part_among (w ∷ written) (suc i) d l = contains_later (get_or written i d).part.now w.part.now
    (map (λ field. field.part) (map named written)) (part_among written i d (omega arith))

only_one : {A : Type 0} (x y : A) → Contains (x ∷ []) y → x ≡ y
only_one x y (zero, l, e) = e
only_one x y (suc n, l, e) = absurd (omega arith)

-- a field's type is undeclared
pub undeclared_field : (names : List (List ℕ)) (written : List WrittenField) (i : ℕ) (d : WrittenField) →
    i < length written → HasUndeclared names ((get_or written i d).part.now ∷ []) →
    HasUndeclared names (map (λ field. field.part) (map named written))
undeclared_field names written i d l h = record {
  name = h.name;
  is_used = subst (Contains (map (λ field. field.part) (map named written)))
      (only_one (get_or written i d).part.now h.name h.is_used) (part_among written i d l);
  is_undeclared = h.is_undeclared;
}
