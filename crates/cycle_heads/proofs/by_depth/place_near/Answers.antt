use Rattle.std.proofs.Common.{rules, sym}
use Rattle.cycle_heads.proofs.Places.{below_guess, place_before}
use Rattle.cycle_heads.proofs.by_depth.place_near.Goals as goal

pub returns-then-eq : goal.returns-then-eq
returns-then-eq g c = sym (place_before c.args.depth c.args.entries.now c.requires c.in-Some.before
    c.index-entries-before.result (search rules) (search rules))

pub place_from-requires-else-lt-clause-below : goal.place_from-requires-else-lt-clause-below
place_from-requires-else-lt-clause-below g c = below_guess c.args.depth c.args.entries.now c.requires c.min-guess.result
    c.in-Some.before c.index-entries-before.result (search rules) (search rules) (search rules)
