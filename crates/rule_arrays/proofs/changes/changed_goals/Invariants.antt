use Rattle.std.proofs.Common.{◌<◌, ℕ}
use Rattle.std.specs.Prelude.{◌↔◌}
use Rattle.rule_arrays.specs.Changes.{IsChanged}
use Rattle.rule_arrays.specs.Compared.{table_in}
use Rattle.rule_arrays.specs.Found.{AreListed, IsFound}
use Rattle.rule_arrays.proofs.changes.changed_goals.Given as goal

abbrev pub invariant-loop-place : goal.invariant-loop-place
invariant-loop-place l = record {
  listed : AreListed l.found;
  exact : (goal : ℕ) → IsFound l.found goal
      ↔ ((goal < l.place) × IsChanged (table_in l.old) (table_in l.new) goal);
}
