-- How a session begins.
use Rattle.std.specs.Prelude.{◌≡◌, ◌==◌, if◌then◌else◌, [], None}
use Rattle.rule_arrays.specs.Table.{Table}
use Rattle.rule_arrays.specs.declared.faults.RowFault.{RowFault}
use Rattle.rule_arrays.specs.declared.faults.RowFault.TheVariants.{Goal, Candidate, Question}
use Rattle.mirfodwel.specs.declared.inside.Inside.{Inside}
use Rattle.mirfodwel.specs.declared.opening.BadRow.{BadRow}
use Rattle.mirfodwel.specs.Rows.{nodes_in, rows_in}

-- the fault that a bad row tells
abbrev pub fault_of : BadRow → RowFault
fault_of row = if row.list == 0 then Goal row.place
    else (if row.list == 1 then Candidate row.place else Question row.place)

-- It is about these rows, and nothing is known of their goals.
pub record IsNew (rows : Table) (inside : Inside) : Type 0 where
  pub same_rows : rows_in inside ≡ rows
  pub no_nodes : nodes_in inside ≡ []
  pub no_results : inside.session.cache.results ≡ []
  pub no_fault : inside.session.last_fault ≡ None
