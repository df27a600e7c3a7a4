-- The candidates of a goal as a search takes them: those that are known, and where they are not, one that asks the goal
-- itself by forced ambiguity, so that the goal says maybe. A number that is no goal's has none.
use Rattle.std.specs.Prelude.{ℕ, ◌+◌, false, List, [], ◌∷◌, length, map, slice_get, sum_by, Option, Some, None}
use Rattle.std.specs.Option.{option_map_or}
use Rattle.path_kinds.specs.declared.path.PathKind.{PathKind}
use Rattle.path_kinds.specs.declared.path.PathKind.TheVariants.{ForcedAmbiguity}
use Rattle.search_context.specs.Question.{Question}
use Rattle.candidate_lists.specs.Candidate as lists
use Rattle.trait_goals.specs.Known.{Table, candidates_at, kind_at}
use Rattle.trait_goals.specs.declared.asked.Asked.{Asked}
use Rattle.trait_goals.specs.declared.asked.Candidate.{Candidate}
use Rattle.trait_goals.specs.declared.asked.Candidates.{Candidates}

-- the goal of this number, asked by a step of this kind
abbrev pub asks : PathKind → ℕ → Question ℕ
asks kind number = record { kind = kind; goal = number }

abbrev pub candidate_by : PathKind → Candidate → lists.Candidate (Question ℕ)
candidate_by kind candidate = record { is_marked = false; questions = map (asks kind) candidate.questions.items }

-- the one candidate of a goal that says maybe
abbrev pub unknown : ℕ → lists.Candidate (Question ℕ)
unknown goal = record { is_marked = false; questions = asks ForcedAmbiguity goal ∷ [] }

-- the candidates of a number where none are known
abbrev pub unknown_by : ℕ → Option Asked → List (lists.Candidate (Question ℕ))
unknown_by goal None = []
unknown_by goal (Some asked) = unknown goal ∷ []

abbrev pub candidates_by : PathKind → ℕ → Option Asked → Option Candidates → List (lists.Candidate (Question ℕ))
candidates_by kind goal asked None = unknown_by goal asked
candidates_by kind goal asked (Some known) = map (candidate_by kind) known.all.items

abbrev pub candidates_of : Table → ℕ → List (lists.Candidate (Question ℕ))
candidates_of table goal =
    candidates_by (kind_at table goal) goal (slice_get table.asked goal) (candidates_at table goal)

-- the steps that the known candidates of a goal take at most
abbrev pub steps_at : Option Candidates → ℕ
steps_at known =
    option_map_or (λ k. sum_by (λ c. length c.questions.items + 3) k.all.items + length k.all.items) known 0

-- no goal takes more: the one that says maybe takes 7
abbrev pub most_steps : Table → ℕ
most_steps table = sum_by steps_at table.known + 7
