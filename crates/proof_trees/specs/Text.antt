-- The lines of a tree.
use Rattle.std.specs.Prelude.{ℕ, ◌*◌, nat_lt, if◌then◌else◌, List, [], ◌++◌, take, codes, decimal, Option, None, Some}
use Rattle.std.specs.List.{flat_map}
use Rattle.proof_trees.specs.Below.{PathKind}
use Rattle.proof_trees.specs.declared.entry.Entry.{Entry}
use Rattle.proof_trees.specs.declared.entry.Part.{Part}
use Rattle.proof_trees.specs.declared.entry.Part.TheVariants.{Run, Candidate, FinishedCandidate, IgnoredCandidate}
use Rattle.proof_trees.specs.declared.entry.Part.TheVariants.{Question, RunEnd}

-- those of 20 levels
abbrev pub spaces : List ℕ
spaces = codes "                                        "

-- past 20 levels their number follows
abbrev pub deep_indentation : ℕ → List ℕ
deep_indentation level = spaces ++ (codes "[" ++ decimal level ++ codes "] ")

-- two spaces a level, as far as they go
abbrev pub indentation : ℕ → List ℕ
indentation level = if nat_lt 20 level then deep_indentation level else take (2 * level) spaces

-- how kinds, goals and results are written
pub record WordsOf (I R : Type 0) : Type 0 where
  pub kind : PathKind → List ℕ
  pub goal : I → List ℕ
  pub outcome : R → List ℕ

module _ {I R : Type 0} (words : WordsOf I R) where
  -- `i:B`
  abbrev pub question_words : PathKind → I → List ℕ
  question_words kind goal = words.kind kind ++ codes ":" ++ words.goal goal

  -- the same, and the root's goal alone
  abbrev pub asked_words : Option PathKind → I → List ℕ
  asked_words None goal = words.goal goal
  asked_words (Some kind) goal = question_words kind goal

  -- what stands on the line of an entry
  abbrev pub part_words : Part I R → List ℕ
  part_words (Run kind goal number) = asked_words kind goal ++ codes ", run " ++ decimal number
  part_words (Candidate number) = codes "candidate " ++ decimal number
  part_words (FinishedCandidate number) = []
  part_words (IgnoredCandidate number) = codes "candidate " ++ decimal number ++ codes " is ignored"
  part_words (Question kind goal r) = question_words kind goal ++ codes " = " ++ words.outcome r
  part_words (RunEnd r) = codes "= " ++ words.outcome r

  -- the line of an entry; the end of a candidate has none, since the indentation shows it
  abbrev pub line_at : ℕ → Part I R → List ℕ
  line_at level (FinishedCandidate number) = []
  line_at level part = indentation level ++ part_words part ++ codes "\n"

  abbrev pub line_of : Entry I R → List ℕ
  line_of entry = line_at entry.level entry.part

  -- the lines of all entries
  abbrev pub text_of : List (Entry I R) → List ℕ
  text_of entries = flat_map line_of entries
