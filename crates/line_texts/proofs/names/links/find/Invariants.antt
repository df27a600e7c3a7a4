use Rattle.std.proofs.Common.{◌-◌, ◌+◌, ◌*◌, ◌≡◌, length}
use Rattle.line_texts.specs.Names.{link_of, text_of}
use Rattle.line_texts.proofs.LinkLemmas.{IsAhead}
use Rattle.line_texts.proofs.names.links.find.Given as goal

abbrev pub invariant-loop-slot : goal.invariant-loop-slot
invariant-loop-slot l = (l.link ≡ link_of l.links l.slot)
    × IsAhead l.heads l.links l.names (text_of l.name) l.slot l.rest

abbrev pub decreases-loop-slot : goal.decreases-loop-slot
decreases-loop-slot l = (l.heads + 2 * length l.names + 2) - l.slot
