use Rattle.std.proofs.Common.{rules}
use Rattle.trait_texts.specs.WellFormed.{itself, below}
use Rattle.trait_texts.proofs.draft.Draft.outermost.Goals as goal

pub returns-in-Constructor : goal.returns-in-Constructor
returns-in-Constructor c = c.loop.invariant c.in-Constructor.constructor (itself (search rules))

pub loop-preserved : goal.loop-preserved
loop-preserved c = λ n h. c.loop.invariant n (below {x = c.in-Applied.field-1} (search rules) h)
