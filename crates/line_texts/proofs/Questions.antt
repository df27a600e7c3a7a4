-- Questions of a text that were told, and their lines.
use Rattle.std.proofs.Common.{◌≡◌, ◌∙◌, ℕ, ◌+◌, ◌<◌, ◌≤◌, Bool, ◌&&◌, length, take, get_or, List, [], ◌∷◌, ◌++◌, Option}
use Rattle.std.proofs.Common.{Result, Ok, Err, ap, inr, refl, subst, sym, true, ◌⊎◌}
use Rattle.std.proofs.Math.Bool.{and-true}
use Rattle.std.proofs.KnownBytes.{Appends-nil}
use Rattle.std.proofs.lemmas.List.{flat_map_more, map-append, take_all, take_more}
use Rattle.std.proofs.lemmas.List.Folds.{list_all-append}
use Rattle.std.specs.Prelude.{IfOk, IfSome, OnErr}
use Rattle.std.specs.Io.KnownBytes.{Appends}
use Rattle.std.specs.List.{list_all}
use Rattle.line_texts.specs.Questions.{AnsweredQuestion, AreAllTold, AreFirstTold, AreTold, IsReadAs}
use Rattle.line_texts.specs.Writing.{AppendsBeginning, Passes}
use Rattle.line_texts.proofs.Written.{all_written, begins_more, passes_more, waits_more}

-- ---- a text that was read

module _ {T : Type 0} (Reads : List ℕ → T → Type 0) (known : Option (List ℕ)) (text : List ℕ) (table : T)
    (is_known : IfSome known (λ bytes. text ≡ bytes)) (reads : Reads text table) where
  read_as : (P : T → Type 0) → P table → IsReadAs Reads known P
  read_as P holds = record { text = text; is_known = is_known; table = table; reads = reads; holds = holds }

  pub told_of_text : {A E : Type 0} (r : Result A E) (P : A → T → Type 0) → IfOk r (λ x. P x table)
      → IfOk r (λ x. IsReadAs Reads known (P x))
  told_of_text (Ok x) P h = read_as (P x) h
  told_of_text (Err stop) P h = tt

  pub begun_of_text : {A E : Type 0} (r : Result A E) (Else : Type 0) (P : T → Type 0) → OnErr r (P table)
      → OnErr r (Else ⊎ IsReadAs Reads known P)
  begun_of_text (Ok x) Else P h = tt
  begun_of_text (Err stop) Else P h = inr (read_as P h)

-- ---- its questions

module _ {Q C : Type 0} (line_of : AnsweredQuestion Q C → List ℕ) (is_fine : C → Bool) where
  -- The questions were told, and some of their lines wait to be written.
  pub record AreToldTo (Hold : List (AnsweredQuestion Q C) → Type 0) (questions : List Q) (old new : Option (List ℕ))
      (waits : List ℕ) (all_fine : Bool) : Type 0 where
    pub lines : List ℕ
    pub are_told : AreTold line_of is_fine Hold questions lines all_fine
    pub passed : Passes old new lines waits

  module _ (Hold : List (AnsweredQuestion Q C) → Type 0) (none : Hold []) where
    -- no question was told
    none_told : AreTold line_of is_fine Hold [] [] true
    none_told = record { answered = []; are_questions = refl; hold = none; are_lines = refl; fine = refl }

    pub none_begun : (questions : List Q) (known : Option (List ℕ))
        → AreFirstTold line_of is_fine Hold questions known known
    none_begun questions known =
        record { count = 0; lines = []; all_fine = true; are_told = none_told; written = (0, Appends-nil known) }

    pub none_waits : (known : Option (List ℕ)) (waits : List ℕ) → waits ≡ [] → AreToldTo Hold [] known known waits true
    none_waits known waits empty = record {
      lines = [];
      are_told = none_told;
      passed = record { bytes = []; written = Appends-nil known; others = sym empty };
    }

  module _ (Hold Also : List (AnsweredQuestion Q C) → Type 0) (last : AnsweredQuestion Q C)
      (more : (all : List (AnsweredQuestion Q C)) → Hold all → Also (all ++ last ∷ [])) (questions : List Q) (n : ℕ)
      (d : Q) (within : n < length questions) (asked : last.question ≡ get_or questions n d) (fine all_fine : Bool)
      (both : all_fine ≡ (fine && is_fine last.came)) where
    -- one question more, after the first n
    told_more : (lines : List ℕ) → AreTold line_of is_fine Hold (take n questions) lines fine
        → AreTold line_of is_fine Also (take (n + 1) questions) (lines ++ line_of last) all_fine
    told_more lines so_far = record {
      answered = so_far.answered ++ last ∷ [];
      are_questions = map-append (λ a. a.question) so_far.answered (last ∷ [])
          ∙ ap (λ qs. qs ++ last.question ∷ []) so_far.are_questions ∙ ap (λ q. take n questions ++ q ∷ []) asked
          ∙ sym (take_more questions n d within);
      hold = more so_far.answered so_far.hold;
      are_lines = ap (λ ls. ls ++ line_of last) so_far.are_lines ∙ flat_map_more line_of [] so_far.answered last;
      fine = both ∙ ap (λ b. b && is_fine last.came) so_far.fine
          ∙ sym (list_all-append (λ a. is_fine a.came) so_far.answered (last ∷ [])
          ∙ ap (λ b. list_all (λ a. is_fine a.came) so_far.answered && b) (and-true (is_fine last.came)));
    }

    -- its line waits with the others
    pub line_waits : (old new : Option (List ℕ)) (waits line : List ℕ)
        → AreToldTo Hold (take n questions) old new waits fine → line ≡ line_of last
        → AreToldTo Also (take (n + 1) questions) old new (waits ++ line) all_fine
    line_waits old new waits line so_far told = record {
      lines = so_far.lines ++ line_of last;
      are_told = told_more so_far.lines so_far.are_told;
      passed = subst (λ l. Passes old new (so_far.lines ++ line_of last) (waits ++ l)) (sym told)
          (waits_more old new so_far.lines waits (line_of last) so_far.passed);
    }

  module _ (Hold : List (AnsweredQuestion Q C) → Type 0) (old mid new : Option (List ℕ))
      (waits : List ℕ) (fine : Bool) where
    -- some of what waited was written
    pub told_on : (questions : List Q) (left : List ℕ) → AreToldTo Hold questions old mid waits fine
        → Passes mid new waits left → AreToldTo Hold questions old new left fine
    told_on questions left so_far more = record {
      lines = so_far.lines;
      are_told = so_far.are_told;
      passed = passes_more old mid new so_far.lines waits so_far.passed left more;
    }

    module _ (Also : List (AnsweredQuestion Q C) → Type 0)
        (so : (all : List (AnsweredQuestion Q C)) → Hold all → Also all) (questions all : List Q) (n : ℕ)
        (whole : questions ≡ all) (so_far : AreToldTo Hold (take n questions) old mid waits fine) where
      told_so : (asked : List Q) → take n questions ≡ asked → AreTold line_of is_fine Also asked so_far.lines fine
      told_so asked same = subst (λ qs. AreTold line_of is_fine Also qs so_far.lines fine) same (record {
        answered = so_far.are_told.answered;
        are_questions = so_far.are_told.are_questions;
        hold = so so_far.are_told.answered so_far.are_told.hold;
        are_lines = so_far.are_told.are_lines;
        fine = so_far.are_told.fine;
      })

      -- all of it was
      pub all_told : length questions ≤ n → Appends mid new waits → AreAllTold line_of is_fine Also all old new fine
      all_told end more = record {
        lines = so_far.lines;
        are_told = told_so all (take_all n questions end ∙ whole);
        written = all_written old mid new so_far.lines waits so_far.passed more;
      }

      -- a beginning of it was
      pub first_told : AppendsBeginning mid new waits → AreFirstTold line_of is_fine Also all old new
      first_told more = record {
        count = n;
        lines = so_far.lines;
        all_fine = fine;
        are_told = told_so (take n all) (ap (take n) whole);
        written = begins_more old mid new so_far.lines waits so_far.passed more;
      }
