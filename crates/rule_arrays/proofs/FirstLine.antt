-- The lines before the one that is found are others.
use Rattle.std.proofs.Common.{◌≡◌, ℕ, ◌+◌, ◌<◌, ◌≤◌, List, length, slice_get, Some, arith, sym, ap, ◌∙◌}
use Rattle.std.proofs.Common.{Option, None, inl, inr, MatchOption, false, eqb, [], ◌∷◌}
use Rattle.std.proofs.lemmas.Bool.{false≢true}
use Rattle.std.proofs.lemmas.Bool.Decides.{eqb_tells}
use Rattle.std.proofs.lemmas.Option.{slice_get_within}
use Rattle.line_texts.specs.Lines.{lines_of}
use Rattle.rule_arrays.specs.Names.{IsFirstLine, IsInNoLine}

-- none of the first so many lines is the name
abbrev pub IsLater : List ℕ → List ℕ → ℕ → Type 0
IsLater text name count = (place : ℕ) → place < count → slice_get (lines_of text) place ≡ Some name → ⊥

first : (text name line : List ℕ) (count place : ℕ) → 0 < length name → IsLater text name count → place ≡ count →
    slice_get (lines_of text) count ≡ Some line → line ≡ name → IsFirstLine text name place
first text name line count place is_some later same at is = record {
  is_some = is_some;
  is_line = ap (slice_get (lines_of text)) same ∙ at ∙ ap Some is;
  others = λ other l. later other (omega arith);
}

past : (text name : List ℕ) (count place : ℕ) → IsLater text name count → place ≡ count → 4294967296 ≤ place →
    IsInNoLine text name
past text name count place later same large = λ other l e. absurd (later other (omega arith) e)

pub later_more : (text name line : List ℕ) (count : ℕ) → IsLater text name count →
    slice_get (lines_of text) count ≡ Some line → (line ≡ name → ⊥) → IsLater text name (count + 1)
later_more text name line count later at other = λ place l e. elim (eqb_tells place count) [
  | inl w ↦
      let same : Some line ≡ Some name = sym at ∙ ap (slice_get (lines_of text)) (sym w.1) ∙ e in
      other cc
  | inr w ↦ later place (omega (arith, w.1)) e
]

pub nowhere : (text name : List ℕ) (count : ℕ) → IsLater text name count → length (lines_of text) ≤ count →
    IsInNoLine text name
nowhere text name count later all = λ place l e.
    absurd (later place (let w = slice_get_within (lines_of text) place name e in omega arith) e)

-- the line is the name, and its place is told if 32 bits have room for it
pub told : (text name line : List ℕ) (count place : ℕ) (number : Option ℕ) → 0 < length name →
    IsLater text name count → place ≡ count → slice_get (lines_of text) count ≡ Some line → line ≡ name →
    MatchOption number (4294967296 ≤ place) (λ n. n ≡ place) →
    MatchOption number (IsInNoLine text name) (IsFirstLine text name)
told text name line count place None is_some later same at is large = past text name count place later same large
told text name line count place (Some n) is_some later same at is e =
    first text name line count n is_some later (e ∙ same) at is

pub has_bytes : (name : List ℕ) → false ≡ eqb (length name) 0 → 0 < length name
has_bytes [] e = absurd (false≢true e)
has_bytes (x ∷ xs) e = omega arith
