-- The names that lines declare.
use Rattle.std.proofs.Common.{◌≡◌, ℕ, ◌+◌, ◌<◌, true, false, List, [], ◌∷◌, ◌++◌, length, map, take, get_or, Option}
use Rattle.std.proofs.Common.{Some, None, refl, ap, sym, ◌∙◌, subst, arith, inl, inr, ◌↔◌}
use Rattle.std.specs.Prelude.{is_some, slice_get}
use Rattle.std.specs.List.{list_any}
use Rattle.std.specs.Str.{bytes_eq}
use Rattle.std.proofs.lemmas.Bool.{cases_Bool}
use Rattle.std.proofs.lemmas.List.{append-nil, length-append}
use Rattle.std.proofs.lemmas.List.Elements.{filter_map-append}
use Rattle.type_texts.specs.declared.line.Line.{Line}
use Rattle.type_texts.specs.declared.line.Line.TheVariants as said
use Rattle.type_texts.specs.Words.{AreDistinct, declared_by, DeclaresAgain, name_in, Statement, statement_of, with_name}
use Rattle.type_texts.proofs.Lists.{map_take, map_take_more}
use Rattle.type_texts.proofs.Texts.{statement_at}
use Rattle.line_texts.proofs.NameLemmas.{has_place, place_in_longer}

-- the first lines declare these names, none twice
pub record AreDeclaredTo (lines : List Line) (count : ℕ) (names : List (List ℕ)) : Type 0 where
  pub are_names : names ≡ declared_by (map statement_of (take count lines))
  pub distinct : AreDistinct names

pub next_declared : (lines : List Line) (i : ℕ) (line : Line) → i < length lines → line ≡ get_or lines i line →
    declared_by (map statement_of (take (i + 1) lines))
    ≡ declared_by (map statement_of (take i lines)) ++ declared_by (statement_of line ∷ [])
next_declared lines i line l e = ap declared_by (map_take_more statement_of lines i line l e)
    ∙ filter_map-append name_in (map statement_of (take i lines)) (statement_of line ∷ [])

unplaced : (names : List (List ℕ)) (name : List ℕ) (r : Option ℕ) → is_some r ≡ false
    → ((n : ℕ) → (r ≡ Some n) ↔ (slice_get names n ≡ Some name)) → (n : ℕ) → slice_get names n ≡ Some name → ⊥
unplaced names name None e is n at = let f = (is n).1 at in absurd cc
unplaced names name (Some m) e is n at = absurd cc

pub new_name : (names after : List (List ℕ)) (name : List ℕ) (r : Option ℕ) → is_some r ≡ false →
    ((n : ℕ) → (r ≡ Some n) ↔ (slice_get names n ≡ Some name)) →
    after ≡ with_name names name → after ≡ names ++ name ∷ []
new_name names after name r e is grown = elim (cases_Bool (list_any (bytes_eq name) names)) [
  | inl w ↦ absurd (let p = has_place names name w in unplaced names name r e is p.0 p.1)
  | inr w ↦ grown ∙ rw w refl
]

-- one more name, which is new
pub distinct_more : (names : List (List ℕ)) (name : List ℕ) → AreDistinct names
    → ((n : ℕ) → slice_get names n ≡ Some name → ⊥) → AreDistinct (names ++ name ∷ [])
distinct_more names name distinct none i j x p q = elim (place_in_longer names name i x p) [
  | inl a ↦ elim (place_in_longer names name j x q) [
    | inl b ↦ distinct i j x a b
    | inr b ↦ absurd (none i (subst (λ y. slice_get names i ≡ Some y) b.1 a))
  ]
  | inr a ↦ elim (place_in_longer names name j x q) [
    | inl b ↦ absurd (none j (subst (λ y. slice_get names j ≡ Some y) a.1 b))
    | inr b ↦ a.0 ∙ sym b.0
  ]
]

one_name : (s : Statement) (x : List ℕ) → name_in s ≡ Some x → declared_by (s ∷ []) ≡ x ∷ []
one_name s x w = rw w refl

pub declared_more : (lines : List Line) (i : ℕ) (line : Line) (names after : List (List ℕ)) (name : List ℕ)
    (r : Option ℕ) → i < length lines → line ≡ get_or lines i line → name_in (statement_of line) ≡ Some name →
    is_some r ≡ false → ((n : ℕ) → (r ≡ Some n) ↔ (slice_get names n ≡ Some name)) → after ≡ with_name names name →
    AreDeclaredTo lines i names → AreDeclaredTo lines (i + 1) after
declared_more lines i line names after name r l e declares none is grown so_far =
    let longer = new_name names after name r none is grown in
    record {
      are_names = longer ∙ ap (λ ns. ns ++ name ∷ []) so_far.are_names ∙ ap
          (λ xs. declared_by (map statement_of (take i lines)) ++ xs) (sym (one_name (statement_of line) name declares))
          ∙ sym (next_declared lines i line l e);
      distinct =
          subst AreDistinct (sym longer) (distinct_more names name so_far.distinct (unplaced names name r none is));
    }

pub declared_same : (lines : List Line) (i : ℕ) (line : Line) (names : List (List ℕ)) → i < length lines
    → line ≡ get_or lines i line → name_in (statement_of line) ≡ None
    → AreDeclaredTo lines i names → AreDeclaredTo lines (i + 1) names
declared_same lines i line names l e none so_far = record {
  are_names = so_far.are_names ∙ sym (next_declared lines i line l e ∙ rw none append_nothing);
  distinct = so_far.distinct;
}
  where
    append_nothing : declared_by (map statement_of (take i lines)) ++ [] ≡ declared_by (map statement_of (take i lines))
    append_nothing = append-nil (declared_by (map statement_of (take i lines)))

-- how many names the first lines declare, with one line more
pub counted_more : (lines : List Line) (i : ℕ) (line : Line) (count : ℕ) (name : List ℕ) → i < length lines →
    line ≡ get_or lines i line → name_in (statement_of line) ≡ Some name →
    count ≡ length (declared_by (map statement_of (take i lines))) →
    count + 1 ≡ length (declared_by (map statement_of (take (i + 1) lines)))
counted_more lines i line count name l e declares so_far =
    let before = declared_by (map statement_of (take i lines)) in
    let more : declared_by (map statement_of (take (i + 1) lines)) ≡ before ++ name ∷ [] =
    next_declared lines i line l e ∙ ap (λ xs. before ++ xs) (one_name (statement_of line) name declares) in
    let long = ap (length {A = List ℕ}) more in
    let parts = length-append before (name ∷ []) in
    omega (arith, long, parts)

-- a line that is no declaration declares no name
pub undeclaring : (line : Line) → ((name : _) (written : _) → line ≡ said.Type name written → ⊥)
    → name_in (statement_of line) ≡ None
undeclaring said.PassedOver none = refl
undeclaring (said.Type name written) none = absurd (none name written refl)
undeclaring (said.Ask left right) none = refl

pub counted_same : (lines : List Line) (i : ℕ) (line : Line) (count : ℕ) → i < length lines →
    line ≡ get_or lines i line → name_in (statement_of line) ≡ None →
    count ≡ length (declared_by (map statement_of (take i lines))) →
    count ≡ length (declared_by (map statement_of (take (i + 1) lines)))
counted_same lines i line count l e none so_far =
    so_far ∙ ap (length {A = List ℕ})
    (sym (next_declared lines i line l e ∙ rw none (append-nil (declared_by (map statement_of (take i lines))))))

placed : (names : List (List ℕ)) (name : List ℕ) (r : Option ℕ) → is_some r ≡ true
    → ((n : ℕ) → (r ≡ Some n) ↔ (slice_get names n ≡ Some name)) → (n : ℕ) × (slice_get names n ≡ Some name)
placed names name None e is = absurd cc
placed names name (Some n) e is = (n, (is n).0 refl)

-- a name that has a number is declared once more
pub is_declared_again : (lines : List Line) (i : ℕ) (line : Line) (names : List (List ℕ)) (name : List ℕ)
    (r : Option ℕ) → i < length lines → line ≡ get_or lines i line → name_in (statement_of line) ≡ Some name →
    is_some r ≡ true → ((n : ℕ) → (r ≡ Some n) ↔ (slice_get names n ≡ Some name)) → AreDeclaredTo lines i names →
    DeclaresAgain (map statement_of lines) (i + 1)
is_declared_again lines i line names name r l e declares found is so_far =
    let at = placed names name r found is in
    record {
      before = i;
      count = refl;
      statement = statement_of line;
      is_at = statement_at lines i line l e;
      name = name;
      declares = declares;
      earlier = at.0;
      is_earlier = subst (λ ns. slice_get ns at.0 ≡ Some name)
          (so_far.are_names ∙ ap declared_by (map_take statement_of i lines)) at.1;
    }
