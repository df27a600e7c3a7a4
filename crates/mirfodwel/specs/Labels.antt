-- What goals are called.
use Rattle.std.specs.Prelude.{◌==◌, ℕ, if◌then◌else◌, List, decimal, length, map}
use Rattle.std.specs.List.{enumerate_from}
use Rattle.line_texts.specs.Lines.{lines_of}

-- the name, or where that is empty the goal's number
abbrev pub label_of : ℕ → List ℕ → List ℕ
label_of place name = if length name == 0 then decimal place else name

-- what the goals of these names are called, each by a line
abbrev pub labels_of : List ℕ → List (List ℕ)
labels_of names = map (λ line. label_of line.0 line.1) (enumerate_from 0 (lines_of names))
