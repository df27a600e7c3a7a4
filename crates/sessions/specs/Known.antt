-- What a session knows. `table_of` gives the rows that a lender lends.
use Rattle.std.specs.Prelude.{◌||◌, ◌&&◌, ℕ, Bool, List, is_some}
use Rattle.sessions.specs.Below.{CacheNode, Outcome, Store, StoredResult, Success, Table, WithOverflow, stored_at}
use Rattle.sessions.specs.Rules.{is_unknown}
use Rattle.sessions.specs.declared.session.Session.{Session}

-- the rules that it is about
abbrev pub rules_of : {L : Type 0} → (L → Table) → Session L → Table
rules_of table_of session = table_of session.cache.cx.0.0.lender

-- the nodes of which the graphs of its answers are made
abbrev pub nodes_of : {L : Type 0} → Session L → List (CacheNode ℕ Outcome)
nodes_of session = session.cache.nodes

-- A result is stored of a goal that asks itself alone. One that was cut off had no depth left, and no other is.
abbrev pub has_result : {R T : Type 0} → (ℕ → ℕ → Bool) → Store ℕ (StoredResult ℕ R T) → ℕ → Bool
has_result same results goal =
    is_some (stored_at same results goal Success) || is_some (stored_at same results goal (WithOverflow 0))

-- the candidates of the goal are not known, and a result of it is stored
abbrev pub is_wanted : {R T : Type 0} → Table → (ℕ → ℕ → Bool) → Store ℕ (StoredResult ℕ R T) → ℕ → Bool
is_wanted rules same results goal = is_unknown rules goal && has_result same results goal
