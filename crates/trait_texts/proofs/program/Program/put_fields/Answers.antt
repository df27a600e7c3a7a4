use Rattle.std.proofs.Common.{refl}
use Rattle.trait_texts.specs.WellFormed.{IsAbout}
use Rattle.trait_texts.proofs.Each.{each_set}
use Rattle.trait_texts.proofs.Told.{told_constructors}
use Rattle.trait_texts.proofs.program.Program.put_fields.Goals as goal

pub invariant_of-self-2 : goal.invariant_of-self-2
invariant_of-self-2 c =
    told_constructors c.self.inside.rules _ _ _ c.self.invariant refl
    (each_set IsAbout c.self.inside.rules.constructors.items c.args.constructor c.in-Some.found.now
    (record { fields = c.replace.new.dest; impls = c.in-Some.found.now.impls })
    c.self.invariant.sound.constructors c.in-Some.ensures.value
    (λ a. record { fields = rw c.replace.ensures.after c.requires; impls = a.impls }))
