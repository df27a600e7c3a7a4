use Rattle.std.proofs.Common.{refl}
use Rattle.trait_texts.proofs.Each.{each_empty, each_push}
use Rattle.trait_texts.proofs.Told.{length_push_le, told_traits}
use Rattle.trait_texts.proofs.program.Program.add_trait.Goals as goal

pub invariant_of-self-2 : goal.invariant_of-self-2
invariant_of-self-2 c =
    told_traits c.self.inside.rules _ _ _ c.self.invariant refl
    (each_push _ c.self.inside.rules.traits.items c.push.new.self.items _ c.self.invariant.sound.traits
    (each_empty _ _ c.new.ensures.items) c.in_ok-push.ensures.items)
    (length_push_le c.self.inside.rules.traits.items c.push.new.self.items _ c.in_ok-push.ensures.items)
