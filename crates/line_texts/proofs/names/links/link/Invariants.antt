use Rattle.std.proofs.Common.{◌-◌, ◌≡◌, ◌<◌}
use Rattle.line_texts.specs.Letters.{head_of}
use Rattle.line_texts.specs.Names.{link_of}
use Rattle.line_texts.proofs.LinkLemmas.{IsWay}
use Rattle.line_texts.proofs.names.links.link.Given as goal

abbrev pub invariant-loop-slot : goal.invariant-loop-slot
invariant-loop-slot l = (l.slot < l.goal) × (l.link ≡ link_of l.links.items l.slot)
    × IsWay l.links.items l.goal (head_of l.letters l.heads) l.letters l.slot l.rest

abbrev pub decreases-loop-slot : goal.decreases-loop-slot
decreases-loop-slot l = l.goal - l.slot
