use Rattle.trait_texts.proofs.Told.{told_types}
use Rattle.trait_texts.proofs.program.Program.of_none.Goals as goal

pub invariant_of-self : goal.invariant_of-self
invariant_of-self c = told_types _ _ _ _ c.self.invariant c.constructor.ensures.keeps

pub invariant_of-self-2 : goal.invariant_of-self-2
invariant_of-self-2 c = told_types _ _ _ _ c.self.invariant c.constructor.ensures.keeps
