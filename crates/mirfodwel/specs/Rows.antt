-- The rows of a session, and its nodes.
use Rattle.std.specs.Prelude.{ℕ, List, length}
use Rattle.rule_arrays.specs.Table.{Table, table_with}
use Rattle.sessions.specs.Below.{CacheNode, Outcome}
use Rattle.sessions.specs.Known.{nodes_of, rules_of}
use Rattle.mirfodwel.specs.declared.inside.Inside.{Inside}
use Rattle.mirfodwel.specs.declared.lent.Lent.{Lent}

abbrev pub rows_of : Lent → Table
rows_of lent = table_with lent.goals.now lent.candidates.now lent.questions.now

-- the rows that it is about
abbrev pub rows_in : Inside → Table
rows_in inside = rules_of rows_of inside.session

-- how many goals there are
abbrev pub goals_in : Inside → ℕ
goals_in inside = length (rows_in inside).goals

-- the nodes of its graphs
abbrev pub nodes_in : Inside → List (CacheNode ℕ Outcome)
nodes_in inside = nodes_of inside.session
