-- The names of a table that was read from a text stand in lines of their own.
use Rattle.std.proofs.Common.{◌≡◌, ℕ, List, [], ◌∷◌, ◌++◌, map, Contains, Bool, true, false, cond, eqb}
use Rattle.std.proofs.Common.{zero, suc, refl, sym, ap, ◌∙◌, subst, inl, inr, arith}
use Rattle.std.specs.Prelude.{fold}
use Rattle.std.specs.List.{AllZip, flat_map, list_any}
use Rattle.std.specs.Str.{bytes_eq}
use Rattle.std.proofs.lemmas.Bool.{false≢true}
use Rattle.std.proofs.lemmas.Bool.Decides.{eqb_tells}
use Rattle.std.proofs.lemmas.List.{append_assoc}
use Rattle.std.proofs.lemmas.List.Elements.{Contains-append_cases, Contains-push_cases}
use Rattle.std.proofs.lemmas.List.Splits.{slice_split_at}
use Rattle.line_texts.specs.Lines.{IsName, is_name_byte, lines_of}
use Rattle.line_texts.specs.Names.{with_name}
use Rattle.rule_tables.specs.Grammar.{Ask, IsQuestion, NamedQuestion, Nothing, Rule, Says, Statement}
use Rattle.rule_tables.specs.Rules as tables
use Rattle.rule_tables.specs.Table.{names_in}
use Rattle.rule_tables.specs.Text.{Reads}
use Rattle.rule_tables.specs.declared.rules.Rules.{Rules}
use Rattle.rule_arrays.specs.Rows.{names_text}

abbrev AreNames : List (List ℕ) → Type 0
AreNames names = (name : List ℕ) → Contains names name → IsName name

are_with : (b : Bool) (names : List (List ℕ)) (name : List ℕ) → AreNames names → IsName name →
    AreNames (cond b names (names ++ name ∷ []))
are_with true names name are is = are
are_with false names name are is = λ other has. elim (Contains-push_cases names name other has) [
  | inl w ↦ are other w
  | inr same ↦ subst IsName same is
]

are_folded : (names more : List (List ℕ)) → AreNames names → AreNames more → AreNames (fold with_name names more)
are_folded names [] are others = are
are_folded names (name ∷ more) are others =
    are_folded (with_name names name) more
    (are_with (list_any (bytes_eq name) names) names name are (others name (0, omega arith, refl)))
    (λ other has. others other (suc has.0, omega (arith, has.1), has.2))

are_asked : (words : List (List ℕ)) (questions : List NamedQuestion) → AllZip IsQuestion words questions →
    AreNames (map (λ q. q.name) questions)
are_asked [] [] are name has = absurd (omega (arith, has.1))
are_asked [] (q ∷ questions) are name has = absurd are
are_asked (w ∷ words) [] are name has = absurd are
are_asked (w ∷ words) (q ∷ questions) are name (zero, l, e) = subst IsName e are.0.is_name
are_asked (w ∷ words) (q ∷ questions) are name (suc k, l, e) = are_asked words questions are.1 name (k, omega arith, e)

are_said : (line : List ℕ) (statement : Statement) → Says line statement → AreNames (names_in statement)
are_said line Nothing says name has = absurd (omega (arith, has.1))
are_said line (Rule is_marked head questions) says name (zero, l, e) = subst IsName e says.is_name
are_said line (Rule is_marked head questions) says name (suc k, l, e) =
    are_asked says.asked questions says.are_questions name (k, omega arith, e)
are_said line (Ask depth asked) says name (zero, l, e) = subst IsName e says.is_name
are_said line (Ask depth asked) says name (suc k, l, e) = absurd (omega (arith, l))

are_all_said : (lines : List (List ℕ)) (statements : List Statement) → AllZip Says lines statements →
    AreNames (flat_map names_in statements)
are_all_said [] [] are name has = absurd (omega (arith, has.1))
are_all_said [] (s ∷ statements) are name has = absurd are
are_all_said (l ∷ lines) [] are name has = absurd are
are_all_said (l ∷ lines) (s ∷ statements) are name has =
    elim (Contains-append_cases (names_in s) (flat_map names_in statements) name has) [
      | inl w ↦ are_said l s are.0 name w
      | inr w ↦ are_all_said lines statements are.1 name w
    ]

no_newline : (byte : ℕ) → is_name_byte byte ≡ true → eqb byte 10 ≡ false
no_newline byte is = elim (eqb_tells byte 10) [
  | inl w ↦ absurd (false≢true (subst (λ b. is_name_byte b ≡ true) w.1 is))
  | inr w ↦ w.0
]

lines_are : (names : List (List ℕ)) → AreNames names → lines_of (names_text names) ≡ names ++ [] ∷ []
lines_are [] are = refl
lines_are (name ∷ names) are =
    ap lines_of (append_assoc name (10 ∷ []) (names_text names))
    ∙ slice_split_at (λ byte. eqb byte 10) name 10 (names_text names)
    (λ k d l. no_newline _ ((are name (0, omega arith, refl)).bytes k d l)) refl
    ∙ ap (λ xs. name ∷ xs) (lines_are names (λ other has. are other (suc has.0, omega (arith, has.1), has.2)))

pub names_lines : (text : List ℕ) (rules : Rules) → Reads text rules →
    lines_of (names_text (tables.names_of rules)) ≡ tables.names_of rules ++ [] ∷ []
names_lines text rules reads =
    lines_are (tables.names_of rules)
    (subst AreNames (sym reads.table.names)
    (are_folded [] (flat_map names_in reads.statements) (λ name has. absurd (omega (arith, has.1)))
    (are_all_said (lines_of text) reads.statements reads.lines)))
