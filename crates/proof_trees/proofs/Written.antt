-- What was written of the lines of entries.
use Rattle.std.proofs.Common.{◌≡◌, ◌∙◌, ℕ, ◌+◌, ◌<◌, List, [], ◌∷◌, ◌++◌, Option, Result, Ok, Err, ap, get_or, length}
use Rattle.std.proofs.Common.{refl, subst, sym, take}
use Rattle.std.proofs.KnownBytes.{Appends-trans}
use Rattle.std.proofs.lemmas.List.{flat_map_more, take_more}
use Rattle.std.specs.Io.KnownBytes.{Appends}
use Rattle.std.specs.Prelude.{codes, OnOk}
use Rattle.proof_trees.specs.Text.{indentation, line_at, line_of, part_words, text_of, WordsOf}
use Rattle.proof_trees.specs.declared.entry.Entry.{Entry}
use Rattle.proof_trees.specs.declared.entry.Part.{Part}
use Rattle.proof_trees.specs.declared.entry.Part.TheVariants.{Run, Candidate, FinishedCandidate, IgnoredCandidate}
use Rattle.proof_trees.specs.declared.entry.Part.TheVariants.{Question, RunEnd}

-- an entry that is no end of a candidate has a line
line_is : {I R : Type 0} (words : WordsOf I R) (level : ℕ) (part : Part I R)
    → ((number : ℕ) → part ≡ FinishedCandidate number → ⊥)
    → indentation level ++ part_words words part ++ codes "\n" ≡ line_at words level part
line_is words level (Run kind goal number) some = refl
line_is words level (Candidate number) some = refl
line_is words level (FinishedCandidate number) some = absurd (some number refl)
line_is words level (IgnoredCandidate number) some = refl
line_is words level (Question kind goal r) some = refl
line_is words level (RunEnd r) some = refl

-- which is written where the last of its parts is
pub line_written : {I R T E : Type 0} (words : WordsOf I R) (entry : Entry I R) (result : Result T E)
    (start indented between end : Option (List ℕ)) → ((number : ℕ) → entry.part ≡ FinishedCandidate number → ⊥)
    → Appends start indented (indentation entry.level) → Appends indented between (part_words words entry.part)
    → OnOk result (Appends between end (codes "\n")) → OnOk result (Appends start end (line_of words entry))
line_written words entry (Ok value) start indented between end some spaces part last =
    subst (λ bytes. Appends start end bytes) (line_is words entry.level entry.part some)
    (Appends-trans start between end (indentation entry.level ++ part_words words entry.part) (codes "\n")
    (Appends-trans start indented between (indentation entry.level) (part_words words entry.part) spaces part) last)
line_written words entry (Err error) start indented between end some spaces part last = tt

-- one entry more is written
pub one_more : {I R : Type 0} (words : WordsOf I R) (entries : List (Entry I R)) (n : ℕ) (entry : Entry I R)
    (start between end : Option (List ℕ))
    → n < length entries → entry ≡ get_or entries n entry → Appends start between (text_of words (take n entries))
    → Appends between end (line_of words entry)
    → Appends start end (text_of words (take (n + 1) entries))
one_more words entries n entry start between end within is before line =
    let more : take (n + 1) entries ≡ take n entries ++ entry ∷ [] =
    take_more entries n entry within ∙ ap (λ e. take n entries ++ e ∷ []) (sym is) in
    subst (λ bytes. Appends start end bytes)
    (flat_map_more (line_of words) [] (take n entries) entry ∙ ap (text_of words) (sym more))
    (Appends-trans start between end (text_of words (take n entries)) (line_of words entry) before line)
