-- A text is read, and its questions are answered one after another, each on a line of its own, whatever they ask.
use Rattle.std.specs.Prelude.{◌≡◌, ℕ, Bool, IfSome, List, map, Option, take}
use Rattle.std.specs.Io.KnownBytes.{Appends}
use Rattle.std.specs.List.{flat_map, list_all}
use Rattle.line_texts.specs.Writing.{AppendsBeginning}

-- The text, which is the known one where one is known, was read as a table of which this holds.
pub record IsReadAs {T : Type 0} (Reads : List ℕ → T → Type 0) (known : Option (List ℕ)) (P : T → Type 0) : Type 0 where
  pub text : List ℕ
  pub is_known : IfSome known (λ bytes. text ≡ bytes)
  pub table : T
  pub reads : Reads text table
  pub holds : P table

-- a question, and what it came to
pub record AnsweredQuestion (Q C : Type 0) : Type 0 where
  pub question : Q
  pub came : C

-- `line_of` is the line of a question that was answered, and `Hold` what is true of the answers so far.
module _ {Q C : Type 0} (line_of : AnsweredQuestion Q C → List ℕ) (is_fine : C → Bool)
    (Hold : List (AnsweredQuestion Q C) → Type 0) where
  -- The questions, all of them and in this order, were answered, and this holds of the answers. The lines are theirs,
  -- and `all_fine` says that what each came to is fine.
  pub record AreTold (questions : List Q) (lines : List ℕ) (all_fine : Bool) : Type 0 where
    pub answered : List (AnsweredQuestion Q C)
    pub are_questions : map (λ a. a.question) answered ≡ questions
    pub hold : Hold answered
    pub are_lines : lines ≡ flat_map line_of answered
    pub fine : all_fine ≡ list_all (λ a. is_fine a.came) answered

  -- they were answered, and their lines were written
  pub record AreAllTold (questions : List Q) (old new : Option (List ℕ)) (all_fine : Bool) : Type 0 where
    pub lines : List ℕ
    pub are_told : AreTold questions lines all_fine
    pub written : Appends old new lines

  -- the first of them were answered, and a beginning of their lines was written
  pub record AreFirstTold (questions : List Q) (old new : Option (List ℕ)) : Type 0 where
    pub count : ℕ
    pub lines : List ℕ
    pub all_fine : Bool
    pub are_told : AreTold (take count questions) lines all_fine
    pub written : AppendsBeginning old new lines
