use Rattle.std.proofs.Common.{◌≡◌, drop}
use Rattle.std.specs.List.{list_any}
use Rattle.search_rules.specs.Words.{could_be_used}
use Rattle.search_rules.proofs.look_up.OverStack.meets_entry.Given as goal

-- the entries that are left decide
abbrev pub invariant-loop-entry : goal.invariant-loop-entry
invariant-loop-entry g l = list_any (could_be_used l.fn.self l.fn.paths) (drop l.entry-index l.entries)
    ≡ list_any (could_be_used l.fn.self l.fn.paths) l.entries
