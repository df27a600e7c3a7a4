use Rattle.std.proofs.Common.{refl}
use Rattle.trait_texts.proofs.Each.{each_set}
use Rattle.trait_texts.proofs.Told.{length_set_le, told_traits}
use Rattle.trait_texts.proofs.program.Program.set_trait.Goals as goal

pub invariant_of-self-2 : goal.invariant_of-self-2
invariant_of-self-2 c =
    told_traits c.self.inside.rules _ _ _ c.self.invariant refl
    (each_set _ c.self.inside.rules.traits.items c.args.number c.in-Some.found.now _
    c.self.invariant.sound.traits c.in-Some.ensures.value (λ a. a))
    (length_set_le c.self.inside.rules.traits.items c.args.number _)
