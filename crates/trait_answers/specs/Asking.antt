-- The goals that are asked, and which of them were wanted. `table_of` gives what is known of those that a lender lends.
use Rattle.std.specs.Prelude.{ℕ, Bool, ◌&&◌, ◌||◌, is_some}
use Rattle.std.specs.Option.{is_none}
use Rattle.delegate_parts.specs.declared.lends.Lends.{Ghosts as LendsGoalsOf}
use Rattle.trait_answers.specs.declared.answers.Answers.{Answers}
use Rattle.trait_answers.specs.Below.{Success, Table, WithOverflow, candidates_at, stored_at}

-- what is known of the goals
abbrev pub known_by : {L : Type 0} {G : LendsGoalsOf L Table} → (L → Table) → Answers L G → Table
known_by table_of answers = table_of answers.cache.cx.0.0.lender

-- the candidates of the goal are not known, and a result of it is stored; one that was cut off had no depth left
abbrev pub was_wanted : {L : Type 0} {G : LendsGoalsOf L Table} → (L → Table) → (ℕ → ℕ → Bool) → Answers L G → ℕ → Bool
was_wanted table_of same answers goal = is_none (candidates_at (known_by table_of answers) goal)
    && (is_some (stored_at same answers.cache.results goal Success)
    || is_some (stored_at same answers.cache.results goal (WithOverflow 0)))
