-- Reading unions and records, one word after another.
use Rattle.std.proofs.Common.{◌≡◌, ℕ, zero, suc, ◌+◌, ◌≤◌, inl, inr, Bool, true, false, ◌||◌, List, [], ◌∷◌, ◌++◌}
use Rattle.std.proofs.Common.{length, map, Option, Some, None, refl, ap, sym, ◌∙◌, subst, append_assoc, arith}
use Rattle.std.specs.Prelude.{All, codes, slice_get}
use Rattle.std.specs.List.{flat_map, list_any}
use Rattle.std.specs.Str.{bytes_eq}
use Rattle.std.proofs.lemmas.Bool.{cases_Bool}
use Rattle.std.proofs.lemmas.Slice.Eq.{bytes_eq-Decides}
use Rattle.std.proofs.lemmas.Grind.{flat_map-append}
use Rattle.std.proofs.lemmas.List.{append-nil, length_push, map-append}
use Rattle.std.proofs.lemmas.List.Elements.{All-push}
use Rattle.type_texts.specs.Words.{AreDistinct, AreFields, barred, field_words, IsField, IsName, named, NamedField}
use Rattle.type_texts.specs.declared.written.WrittenField.{WrittenField}
use Rattle.type_texts.proofs.Declared.{distinct_more}

-- The words so far are these names, each but the last with a bar after it; that has one, too, if a name is due.
pub record AreNamesTo (all left : List (List ℕ)) (names : List (List ℕ)) (is_due : Bool) : Type 0 where
  pub read : List (List ℕ)
  pub whole : all ≡ read ++ left
  pub if_due : is_due ≡ true → read ≡ flat_map barred names
  pub if_not : is_due ≡ false → read ++ codes "|" ∷ [] ≡ flat_map barred names
  pub are_names : All IsName names
  pub are_some : 1 ≤ length names
  pub are_two : is_due ≡ false → 2 ≤ length names

pub first_name : (word : List ℕ) (rest : List (List ℕ)) → IsName word
    → AreNamesTo (word ∷ codes "|" ∷ rest) rest (word ∷ []) true
first_name word rest is = record {
  read = word ∷ codes "|" ∷ [];
  whole = refl;
  if_due = λ _. refl;
  if_not = λ e. absurd cc;
  are_names = All-push IsName [] word (λ k d l. absurd (omega arith)) is;
  are_some = omega arith;
  are_two = λ e. absurd cc;
}

pub name_more : (all left rest names : List (List ℕ)) (word : List ℕ) → AreNamesTo all left names true
    → left ≡ word ∷ rest → IsName word → AreNamesTo all rest (names ++ word ∷ []) false
name_more all left rest names word so_far e is = record {
  read = so_far.read ++ word ∷ [];
  whole = so_far.whole ∙ ap (λ ws. so_far.read ++ ws) e ∙ sym (append_assoc so_far.read (word ∷ []) rest);
  if_due = λ f. absurd cc;
  if_not = λ _. append_assoc so_far.read (word ∷ []) (codes "|" ∷ [])
      ∙ ap (λ ws. ws ++ word ∷ codes "|" ∷ []) (so_far.if_due refl) ∙ sym (flat_map-append barred names (word ∷ []));
  are_names = All-push IsName names word so_far.are_names is;
  are_some = let l : length (names ++ word ∷ []) ≡ length names + 1 = rw length_push refl in omega (arith, l);
  are_two = λ _. let l : length (names ++ word ∷ []) ≡ length names + 1 = rw length_push refl in
      let s = so_far.are_some in omega (arith, l, s);
}

pub bar_more : (all left rest names : List (List ℕ)) (word : List ℕ) → AreNamesTo all left names false
    → left ≡ word ∷ rest → word ≡ codes "|" → AreNamesTo all rest names true
bar_more all left rest names word so_far e is = record {
  read = so_far.read ++ word ∷ [];
  whole = so_far.whole ∙ ap (λ ws. so_far.read ++ ws) e ∙ sym (append_assoc so_far.read (word ∷ []) rest);
  if_due = λ _. ap (λ w. so_far.read ++ w ∷ []) is ∙ so_far.if_not refl;
  if_not = λ f. absurd cc;
  are_names = so_far.are_names;
  are_some = so_far.are_some;
  are_two = λ f. absurd cc;
}

-- the words of a field without its type, and the closing brace
abbrev pub last_words : Option (List ℕ) → Bool → List (List ℕ)
last_words None false = []
last_words None true = codes "}" ∷ []
last_words (Some name) is_closed = (name ++ codes ":") ∷ []

abbrev pub names_in : List NamedField → List (List ℕ)
names_in fields = map (λ field. field.name) fields

-- The words so far are these fields, and maybe the name of one more or the closing brace.
pub record AreFieldsTo (all left : List (List ℕ)) (fields : List NamedField)
    (due : Option (List ℕ)) (is_closed : Bool) : Type 0 where
  pub read : List (List ℕ)
  pub whole : all ≡ read ++ left
  pub spelled : read ≡ flat_map field_words fields ++ last_words due is_closed
  pub are_fields : All IsField fields
  pub distinct : AreDistinct (names_in fields)
  pub none_due : is_closed ≡ true → due ≡ None
  pub is_due : (name : List ℕ) → due ≡ Some name
      → IsName name × ((n : ℕ) → slice_get (names_in fields) n ≡ Some name → ⊥)

pub field_more : (all left rest : List (List ℕ)) (fields after : List NamedField) (name word : List ℕ)
    (field : NamedField) (is_closed : Bool) → AreFieldsTo all left fields (Some name) is_closed → left ≡ word ∷ rest →
    field ≡ record { name = name; part = word } → IsName word → after ≡ fields ++ field ∷ [] →
    AreFieldsTo all rest after None false
field_more all left rest fields after name word field is_closed so_far e same is pushed =
    let longer : after ≡ fields ++ record { name = name; part = word } ∷ [] =
    pushed ∙ ap (λ f. fields ++ f ∷ []) same in
    let due = so_far.is_due name refl in
    subst (λ fs. AreFieldsTo all rest fs None false) (sym longer) (record {
      read = so_far.read ++ word ∷ [];
      whole = so_far.whole ∙ ap (λ ws. so_far.read ++ ws) e ∙ sym (append_assoc so_far.read (word ∷ []) rest);
      spelled = ap (λ ws. ws ++ word ∷ []) so_far.spelled
          ∙ append_assoc (flat_map field_words fields) ((name ++ codes ":") ∷ []) (word ∷ [])
          ∙ sym (flat_map-append field_words fields (record { name = name; part = word } ∷ []))
          ∙ sym (append-nil (flat_map field_words (fields ++ record { name = name; part = word } ∷ [])));
      are_fields = All-push IsField fields (record { name = name; part = word }) so_far.are_fields
          (record { is_name = due.0; is_part = is });
      distinct = subst AreDistinct (sym (map-append (λ f. f.name) fields (record { name = name; part = word } ∷ [])))
          (distinct_more (names_in fields) name so_far.distinct due.1);
      none_due = λ f. refl;
      is_due = λ n f. absurd cc;
    })

pub name_due : (all left rest : List (List ℕ)) (fields : List NamedField) (name word : List ℕ) →
    AreFieldsTo all left fields None false → left ≡ word ∷ rest → word ≡ name ++ codes ":" → IsName name →
    ((n : ℕ) → slice_get (names_in fields) n ≡ Some name → ⊥) → AreFieldsTo all rest fields (Some name) false
name_due all left rest fields name word so_far e spelled is new = record {
  read = so_far.read ++ word ∷ [];
  whole = so_far.whole ∙ ap (λ ws. so_far.read ++ ws) e ∙ sym (append_assoc so_far.read (word ∷ []) rest);
  spelled = ap (λ ws. ws ++ word ∷ []) (so_far.spelled ∙ append-nil (flat_map field_words fields))
      ∙ ap (λ w. flat_map field_words fields ++ w ∷ []) spelled;
  are_fields = so_far.are_fields;
  distinct = so_far.distinct;
  none_due = λ f. absurd cc;
  is_due = λ n f. let same : name ≡ n = cc in
      subst (λ m. IsName m × ((k : ℕ) → slice_get (names_in fields) k ≡ Some m → ⊥)) same (is, new);
}

pub brace_more : (all left rest : List (List ℕ)) (fields : List NamedField) (word : List ℕ)
    → AreFieldsTo all left fields None false → left ≡ word ∷ rest → word ≡ codes "}"
    → AreFieldsTo all rest fields None true
brace_more all left rest fields word so_far e is = record {
  read = so_far.read ++ word ∷ [];
  whole = so_far.whole ∙ ap (λ ws. so_far.read ++ ws) e ∙ sym (append_assoc so_far.read (word ∷ []) rest);
  spelled = ap (λ ws. ws ++ word ∷ []) (so_far.spelled ∙ append-nil (flat_map field_words fields))
      ∙ ap (λ w. flat_map field_words fields ++ w ∷ []) is;
  are_fields = so_far.are_fields;
  distinct = so_far.distinct;
  none_due = λ f. refl;
  is_due = λ n f. absurd cc;
}

pub all_fields : (all left : List (List ℕ)) (fields : List NamedField) (due : Option (List ℕ)) (is_closed : Bool)
    → AreFieldsTo all left fields due is_closed → is_closed ≡ true → left ≡ [] → AreFields all fields
all_fields all left fields due is_closed so_far closed e = record {
  spelled = so_far.whole ∙ ap (λ ws. so_far.read ++ ws) e ∙ append-nil so_far.read ∙ so_far.spelled
      ∙ ap (λ d. flat_map field_words fields ++ last_words d is_closed) (so_far.none_due closed)
      ∙ ap (λ b. flat_map field_words fields ++ last_words None b) closed;
  are_fields = so_far.are_fields;
  distinct = so_far.distinct;
}

-- no field has the name
pub not_field : (fields : List WrittenField) (name : List ℕ)
    → list_any (λ field. bytes_eq field.name.now name) fields ≡ false → (n : ℕ)
    → slice_get (names_in (map named fields)) n ≡ Some name → ⊥
not_field [] name e n at = absurd cc
not_field (f ∷ fields) name e zero at =
    let same : f.name.now ≡ name = cc in
    let is : bytes_eq f.name.now name ≡ true = (bytes_eq-Decides f.name.now name).1 same in
    let g : (true || list_any (λ field. bytes_eq field.name.now name) fields) ≡ false =
    subst (λ b. (b || list_any (λ field. bytes_eq field.name.now name) fields) ≡ false) is e in
    absurd cc
not_field (f ∷ fields) name e (suc n) at = elim (cases_Bool (bytes_eq f.name.now name)) [
  | inl is ↦ let g : (true || list_any (λ field. bytes_eq field.name.now name) fields) ≡ false =
      subst (λ b. (b || list_any (λ field. bytes_eq field.name.now name) fields) ≡ false) is e in absurd cc
  | inr is ↦ not_field fields name
      (subst (λ b. (b || list_any (λ field. bytes_eq field.name.now name) fields) ≡ false) is e) n at
]
