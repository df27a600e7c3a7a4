use Rattle.rule_arrays.specs.Compared.{table_in}
use Rattle.rule_arrays.proofs.Concerning.{all_found, concerned_first, none_concerned}
use Rattle.rule_arrays.proofs.changes.found_from.Goals as goal
use Rattle.rule_arrays.proofs.changes.found_from.Goals.{then-not-is_empty+in_ok-find_askers}
use Rattle.rule_arrays.proofs.changes.found_from.Goals.{else-not-is_empty}

pub returns-clause-found : goal.returns-clause-found
returns-clause-found c =
    let old = table_in c.args.old in
    let new = table_in c.args.new in
    let count = c.in_ok-count.count in
    elim c.if-not-is_empty.branch [
      | then-not-is_empty+in_ok-find_askers w ↦ rw w.found-is
          (all_found old new count c.in_ok-count.ensures.old c.in_ok-count.ensures.new c.in_ok-found.found
          c.in_ok-found.ensures.found w.find_askers.new.found w.in_ok-find_askers.ensures)
      | else-not-is_empty w ↦ rw w.found-is (λ one. (
        concerned_first old new count c.in_ok-count.ensures.old c.in_ok-count.ensures.new c.in_ok-found.found
            c.in_ok-found.ensures.found one,
        none_concerned old new count c.in_ok-count.ensures.old c.in_ok-count.ensures.new c.in_ok-found.found
            c.in_ok-found.ensures.found (c.is_empty.ensures.0 w.if-not-is_empty.false) one,
      ))
    ]
