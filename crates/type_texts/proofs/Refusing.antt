-- Why words that are refused are none of the grammar's.
use Rattle.std.proofs.Common.{◌≡◌, ℕ, suc, ◌+◌, ◌<◌, inl, inr, Bool, true, false, ◌||◌, List, [], ◌∷◌, ◌++◌, length}
use Rattle.std.proofs.Common.{map, Option, Some, None, refl, ap, sym, ◌∙◌, subst, append_assoc, arith, get_or, Bor}
use Rattle.std.specs.Prelude.{◌≢◌, All, codes, is_some, slice_get}
use Rattle.std.specs.Iterator.{YieldsFirstRef}
use Rattle.std.specs.List.{flat_map, list_any}
use Rattle.std.specs.Str.{bytes_eq}
use Rattle.std.proofs.Math.Seq.{get_or-append_seam}
use Rattle.std.proofs.lemmas.Bool.{cases_Bool}
use Rattle.std.proofs.lemmas.Slice.Eq.{bytes_eq-Decides}
use Rattle.std.proofs.lemmas.List.{append-nil, append_cancel_right, length-append, map-append}
use Rattle.std.proofs.lemmas.List.Elements.{All-head}
use Rattle.line_texts.specs.Lines.{is_name_byte}
use Rattle.type_texts.specs.Grammar.{Base, Bottom, Function, Record, Top, Union}
use Rattle.type_texts.specs.Words.{AreAlternatives, AreDistinct, AreFields, barred, field_words, IsField, IsName}
use Rattle.type_texts.specs.Words.{Meaning, named, NamedField, Spell}
use Rattle.type_texts.specs.declared.written.WrittenField.{WrittenField}
use Rattle.type_texts.proofs.Spelling.{AreFieldsTo, AreNamesTo, last_words, names_in}

-- what holds of each item holds of one in the middle
middle : {X : Type 0} (P : X → Type 0) (xs : List X) (x : X) (ys : List X) → All P (xs ++ x ∷ ys) → P x
middle P xs x ys h =
    subst P (get_or-append_seam xs x ys x) (h (length xs) x (let l = length-append xs (x ∷ ys) in omega (arith, l)))

first_byte : (b : ℕ) (bs : List ℕ) → IsName (b ∷ bs) → is_name_byte b ≡ true
first_byte b bs is = All-head (λ x. is_name_byte x ≡ true) b bs is.bytes

no_name-arrow : IsName (codes "->") → ⊥
no_name-arrow is = let e = first_byte _ _ is in absurd cc

no_name-brace : IsName (codes "{") → ⊥
no_name-brace is = let e = first_byte _ _ is in absurd cc

-- where no word is left, none comes next
pub none_comes : {S : Type 0} (left : S → List (List ℕ)) (old new : S) (next : Option (Bor (List ℕ)))
    → YieldsFirstRef left old next new → left old ≡ [] → is_some next ≡ false
none_comes left old new None step e = refl
none_comes left old new (Some word) step e = let s : word.now ∷ left new ≡ [] = sym step ∙ e in absurd cc

-- Unions.

-- alternatives that begin as others do
barred_front : (xs ys left : List (List ℕ)) → flat_map barred xs ++ left ≡ flat_map barred ys
    → (zs : List (List ℕ)) × (left ≡ flat_map barred zs) × (ys ≡ xs ++ zs)
barred_front [] ys left e = (ys, e, refl)
barred_front (x ∷ xs) [] left e = absurd cc
barred_front (x ∷ xs) (y ∷ ys) left e =
    let same : y ≡ x = cc in
    let later : flat_map barred xs ++ left ≡ flat_map barred ys = cc in
    let r = barred_front xs ys left later in
    (r.0, r.1, ap (λ z. z ∷ ys) same ∙ ap (λ zs. x ∷ zs) r.2)

first_of : (word : List ℕ) (rest zs names others : List (List ℕ)) → word ∷ rest ≡ flat_map barred zs
    → others ≡ names ++ zs → All IsName others → IsName word
first_of word rest [] names others e at are = absurd cc
first_of word rest (z ∷ zs) names others e at are =
    let same : z ≡ word = cc in subst IsName same (middle IsName names z zs (subst (All IsName) at are))

-- the first alternative is a name
pub is_first_name : (word : List ℕ) (rest others : List (List ℕ)) → AreAlternatives (word ∷ rest) others → IsName word
is_first_name word rest others are =
    first_of word (rest ++ codes "|" ∷ []) others [] others are.spelled refl are.are_names

-- the words that are left after names with bars
left_after : (all left names : List (List ℕ)) → AreNamesTo all left names true
    → (others : List (List ℕ)) → AreAlternatives all others
    → (zs : List (List ℕ)) × (left ++ codes "|" ∷ [] ≡ flat_map barred zs) × (others ≡ names ++ zs)
left_after all left names so_far others are =
    let bar = codes "|" ∷ [] in
    barred_front names others (left ++ bar)
    (ap (λ r. r ++ (left ++ bar)) (sym (so_far.if_due refl)) ∙ sym (append_assoc so_far.read left bar)
    ∙ ap (λ ws. ws ++ bar) (sym so_far.whole) ∙ are.spelled)

-- a word that is no name where one is due
pub no_name_due : (all left rest names : List (List ℕ)) (word : List ℕ) → AreNamesTo all left names true
    → left ≡ word ∷ rest → (IsName word → ⊥) → (others : List (List ℕ)) → AreAlternatives all others → ⊥
no_name_due all left rest names word so_far e refused others are =
    let r = left_after all left names so_far others are in
    refused (first_of word (rest ++ codes "|" ∷ []) r.0 names others
    (ap (λ ws. ws ++ codes "|" ∷ []) (sym e) ∙ r.1) r.2 are.are_names)

-- no word where a name is due
pub name_lacks : (all left names : List (List ℕ)) → AreNamesTo all left names true → left ≡ []
    → (others : List (List ℕ)) → AreAlternatives all others → ⊥
name_lacks all left names so_far e others are =
    let r = left_after all left names so_far others are in
    ends r.0 (ap (λ ws. ws ++ codes "|" ∷ []) (sym e) ∙ r.1)
  where
    ends : (zs : List (List ℕ)) → codes "|" ∷ [] ≡ flat_map barred zs → ⊥
    ends [] f = absurd cc
    ends (z ∷ zs) f = absurd cc

-- where one reading has a bar, each has one
bar_at : (read xs ys rest : List (List ℕ)) (word : List ℕ) → read ++ codes "|" ∷ [] ≡ flat_map barred xs
    → read ++ word ∷ rest ≡ flat_map barred ys → word ≡ codes "|"
bar_at [] [] ys rest word e f = absurd cc
bar_at [] (x ∷ xs) ys rest word e f = absurd cc
bar_at (r ∷ []) xs [] rest word e f = absurd cc
bar_at (r ∷ []) xs (y ∷ ys) rest word e f = cc
bar_at (r ∷ s ∷ read) [] ys rest word e f = absurd cc
bar_at (r ∷ s ∷ read) (x ∷ xs) [] rest word e f = absurd cc
bar_at (r ∷ s ∷ read) (x ∷ xs) (y ∷ ys) rest word e f =
    let g : read ++ codes "|" ∷ [] ≡ flat_map barred xs = cc in
    let h : read ++ word ∷ rest ≡ flat_map barred ys = cc in
    bar_at read xs ys rest word g h

-- a word that is no bar where one is due
pub no_bar_due : (all left rest names : List (List ℕ)) (word : List ℕ) → AreNamesTo all left names false
    → left ≡ word ∷ rest → word ≢ codes "|" → (others : List (List ℕ)) → AreAlternatives all others → ⊥
no_bar_due all left rest names word so_far e refused others are =
    refused (bar_at so_far.read names others (rest ++ codes "|" ∷ []) word (so_far.if_not refl)
    (sym (append_assoc so_far.read (word ∷ rest) (codes "|" ∷ []))
    ∙ ap (λ ws. ws ++ codes "|" ∷ []) (ap (λ ws. so_far.read ++ ws) (sym e) ∙ sym so_far.whole) ∙ are.spelled))

-- Records.

colon_brace : (name : List ℕ) → name ++ codes ":" ≡ codes "}" → ⊥
colon_brace [] e = let b : 58 ≡ 125 = ap (λ bs. get_or bs 0 0) e in absurd (omega (arith, b))
colon_brace (c ∷ name) e =
    let l : suc (length (name ++ codes ":")) ≡ 1 = ap length e in
    let k : length (name ++ codes ":") ≡ length name + 1 = length-append name (codes ":") in
    absurd (omega (arith, l, k))

-- fields that begin as others do
field_front : (fs gs : List NamedField) (left : List (List ℕ)) →
    flat_map field_words fs ++ left ≡ flat_map field_words gs ++ codes "}" ∷ [] →
    (hs : List NamedField) × (left ≡ flat_map field_words hs ++ codes "}" ∷ []) × (gs ≡ fs ++ hs)
field_front [] gs left e = (gs, e, refl)
field_front (f ∷ fs) [] left e = absurd cc
field_front (f ∷ fs) (g ∷ gs) left e =
    let spelled : g.name ++ codes ":" ≡ f.name ++ codes ":" = cc in
    let name : g.name ≡ f.name = append_cancel_right g.name f.name (codes ":") spelled in
    let part : g.part ≡ f.part = cc in
    let same : g ≡ f =
    ap (λ n. record { name = n; part = g.part }) name ∙ ap (λ p. record { name = f.name; part = p }) part in
    let later : flat_map field_words fs ++ left ≡ flat_map field_words gs ++ codes "}" ∷ [] = cc in
    let r = field_front fs gs left later in
    (r.0, r.1, ap (λ h. h ∷ gs) same ∙ ap (λ hs. f ∷ hs) r.2)

-- the words that are left after fields
fields_left : (all left : List (List ℕ)) (fields : List NamedField) (due : Option (List ℕ)) (is_closed : Bool) →
    AreFieldsTo all left fields due is_closed → (others : List NamedField) → AreFields all others →
    (hs : List NamedField) × (last_words due is_closed ++ left ≡ flat_map field_words hs ++ codes "}" ∷ [])
    × (others ≡ fields ++ hs)
fields_left all left fields due is_closed so_far others are =
    field_front fields others (last_words due is_closed ++ left)
    (sym (append_assoc (flat_map field_words fields) (last_words due is_closed) left)
    ∙ ap (λ ws. ws ++ left) (sym so_far.spelled) ∙ sym so_far.whole ∙ are.spelled)

-- a word after the closing brace
pub closed_already : (all left rest : List (List ℕ)) (fields : List NamedField) (due : Option (List ℕ)) (word : List ℕ)
    → AreFieldsTo all left fields due true → left ≡ word ∷ rest → (others : List NamedField) → AreFields all others → ⊥
closed_already all left rest fields due word so_far e others are =
    let r = fields_left all left fields due true so_far others are in
    ends r.0 (ap (λ ws. codes "}" ∷ ws) (sym e)
    ∙ ap (λ d. last_words d true ++ left) (sym (so_far.none_due refl)) ∙ r.1)
  where
    ends : (hs : List NamedField) → codes "}" ∷ word ∷ rest ≡ flat_map field_words hs ++ codes "}" ∷ [] → ⊥
    ends [] f = absurd cc
    ends (h ∷ hs) f = let g : h.name ++ codes ":" ≡ codes "}" = cc in colon_brace h.name g

-- a word that is no name where a field's type is due
pub no_type_due : (all left rest : List (List ℕ)) (fields : List NamedField) (name word : List ℕ) (is_closed : Bool) →
    AreFieldsTo all left fields (Some name) is_closed → left ≡ word ∷ rest → (IsName word → ⊥) →
    (others : List NamedField) → AreFields all others → ⊥
no_type_due all left rest fields name word is_closed so_far e refused others are =
    let r = fields_left all left fields (Some name) is_closed so_far others are in
    ends r.0 (ap (λ ws. (name ++ codes ":") ∷ ws) (sym e) ∙ r.1) (subst (All IsField) r.2 are.are_fields)
  where
    ends : (hs : List NamedField) → (name ++ codes ":") ∷ word ∷ rest ≡ flat_map field_words hs ++ codes "}" ∷ []
        → All IsField (fields ++ hs) → ⊥
    ends [] f is = absurd cc
    ends (h ∷ hs) f is =
        let same : h.part ≡ word = cc in refused (subst IsName same (middle IsField fields h hs is).is_part)

-- a word that is neither the closing brace nor a new field
pub no_field_due : (all left rest : List (List ℕ)) (fields : List NamedField) (word : List ℕ) →
    AreFieldsTo all left fields None false → left ≡ word ∷ rest → word ≢ codes "}" →
    ((name : List ℕ) (later : List (List ℕ)) → word ≡ name ++ codes ":" → IsName name →
    AreDistinct (names_in fields ++ name ∷ later) → ⊥) → (others : List NamedField) → AreFields all others → ⊥
no_field_due all left rest fields word so_far e no_brace refused others are =
    let r = fields_left all left fields None false so_far others are in
    ends r.0 (sym e ∙ r.1) (subst (All IsField) r.2 are.are_fields)
    (subst (λ gs. AreDistinct (names_in gs)) r.2 are.distinct)
  where
    ends : (hs : List NamedField) → word ∷ rest ≡ flat_map field_words hs ++ codes "}" ∷ [] → All IsField (fields ++ hs)
        → AreDistinct (names_in (fields ++ hs)) → ⊥
    ends [] f is distinct = let same : word ≡ codes "}" = cc in no_brace same
    ends (h ∷ hs) f is distinct =
        let same : word ≡ h.name ++ codes ":" = cc in
        refused h.name (names_in hs) same (middle IsField fields h hs is).is_name
        (subst AreDistinct (map-append (λ g. g.name) fields (h ∷ hs)) distinct)

-- no word more where the record is not closed
pub closing_lacks : (all left : List (List ℕ)) (fields : List NamedField) (due : Option (List ℕ))
    → AreFieldsTo all left fields due false → left ≡ [] → (others : List NamedField) → AreFields all others → ⊥
closing_lacks all left fields due so_far e others are =
    let r = fields_left all left fields due false so_far others are in
    ends due r.0 (sym (append-nil (last_words due false)) ∙ ap (λ ws. last_words due false ++ ws) (sym e) ∙ r.1)
  where
    ends : (due : Option (List ℕ)) (hs : List NamedField)
        → last_words due false ≡ flat_map field_words hs ++ codes "}" ∷ [] → ⊥
    ends None [] f = absurd cc
    ends None (h ∷ hs) f = absurd cc
    ends (Some name) [] f = let g : name ++ codes ":" ≡ codes "}" = cc in colon_brace name g
    ends (Some name) (h ∷ hs) f = absurd cc

-- a name that an earlier field has cannot be that of one more
pub not_again : (fields : List WrittenField) (name : List ℕ) (later : List (List ℕ))
    → list_any (λ field. bytes_eq field.name.now name) fields ≡ true
    → AreDistinct (names_in (map named fields) ++ name ∷ later) → ⊥
not_again fields name later e distinct =
    let r = found fields e in
    let same = distinct r.0 (length (names_in (map named fields))) name r.2 (seam (names_in (map named fields))) in
    let l = r.1 in
    absurd (omega (arith, l, same))
  where
    seam : (names : List (List ℕ)) → slice_get (names ++ name ∷ later) (length names) ≡ Some name
    seam [] = refl
    seam (n ∷ names) = seam names

    found : (fields : List WrittenField) → list_any (λ field. bytes_eq field.name.now name) fields ≡ true →
        (n : ℕ) × (n < length (names_in (map named fields)))
        × (slice_get (names_in (map named fields) ++ name ∷ later) n ≡ Some name)
    found [] f = absurd cc
    found (field ∷ fields) f = elim (cases_Bool (bytes_eq field.name.now name)) [
      | inl is ↦ (0, omega arith, ap Some ((bytes_eq-Decides field.name.now name).0 is))
      | inr is ↦ let r =
          found fields (subst (λ b. (b || list_any (λ field. bytes_eq field.name.now name) fields) ≡ true) is f) in
          let l = r.1 in (suc r.0, omega (arith, l), r.2)
    ]

-- Right sides.

-- what begins with a brace is a record
record_alone : (rest : List (List ℕ)) (meaning : Meaning) → Spell (codes "{" ∷ rest) meaning
    → (fields : List NamedField) × AreFields rest fields
record_alone rest (Base word) h = let e = h.0 in absurd cc
record_alone rest Top h = absurd cc
record_alone rest Bottom h = absurd cc
record_alone rest (Function a b) h =
    let e = h.0 in let same : a ≡ codes "{" = cc in absurd (no_name-brace (subst IsName same h.1))
record_alone rest (Record fields) h =
    let e = h.1 in let same : h.0 ≡ rest = cc in (fields, subst (λ ws. AreFields ws fields) same h.2)
record_alone rest (Union names) h = absurd (no_name-brace (is_first_name _ rest names h))

pub record_refused : (rest : List (List ℕ)) → ((fields : List NamedField) → AreFields rest fields → ⊥)
    → (meaning : Meaning) → Spell (codes "{" ∷ rest) meaning → ⊥
record_refused rest refused meaning h = let r = record_alone rest meaning h in refused r.0 r.1

-- what has an arrow second, and begins with no brace, is a function
pub function_alone : (argument : List ℕ) (rest : List (List ℕ)) (meaning : Meaning) → argument ≢ codes "{"
    → Spell (argument ∷ codes "->" ∷ rest) meaning
    → IsName argument × (outcome : List ℕ) × (rest ≡ outcome ∷ []) × IsName outcome
function_alone argument rest (Base word) opens h =
    let e = h.0 in let same : word ≡ codes "->" = cc in absurd (no_name-arrow (subst IsName same h.1))
function_alone argument rest Top opens h = absurd cc
function_alone argument rest Bottom opens h = absurd cc
function_alone argument rest (Function a b) opens h =
    let e = h.0 in
    let same : a ≡ argument = cc in
    let later : rest ≡ b ∷ [] = cc in
    (subst IsName same h.1, b, later, h.2)
function_alone argument rest (Record fields) opens h =
    let e = h.1 in let same : argument ≡ codes "{" = cc in absurd (opens same)
function_alone argument rest (Union []) opens h = let e = h.spelled in absurd cc
function_alone argument rest (Union (n ∷ names)) opens h = let e = h.spelled in absurd cc

-- what has neither an arrow nor a bar second, and begins with no brace, is a base type
pub base_alone : (first word : List ℕ) (rest : List (List ℕ)) (meaning : Meaning) → first ≢ codes "{"
    → word ≢ codes "->" → word ≢ codes "|" → Spell (first ∷ word ∷ rest) meaning
    → (first ≡ codes "base") × IsName word × (rest ≡ [])
base_alone first word rest (Base w) opens arrow bar h =
    let e = h.0 in
    let same : w ≡ word = cc in
    let begins : first ≡ codes "base" = cc in
    let ends : rest ≡ [] = cc in
    (begins, subst IsName same h.1, ends)
base_alone first word rest Top opens arrow bar h = absurd cc
base_alone first word rest Bottom opens arrow bar h = absurd cc
base_alone first word rest (Function a b) opens arrow bar h =
    let e = h.0 in let same : word ≡ codes "->" = cc in absurd (arrow same)
base_alone first word rest (Record fields) opens arrow bar h =
    let e = h.1 in let same : first ≡ codes "{" = cc in absurd (opens same)
base_alone first word rest (Union []) opens arrow bar h = let e = h.spelled in absurd cc
base_alone first word rest (Union (n ∷ names)) opens arrow bar h =
    let e = h.spelled in let same : word ≡ codes "|" = cc in absurd (bar same)
