use Rattle.std.proofs.Common.{refl}
use Rattle.trait_texts.proofs.Each.{each_push, each_set}
use Rattle.trait_texts.proofs.Told.{length_set_le, told_traits}
use Rattle.trait_texts.proofs.program.Program.blanket.Goals as goal

pub invariant_of-self-in_err-push : goal.invariant_of-self-in_err-push
invariant_of-self-in_err-push c =
    told_traits c.self.inside.rules _ _ _ c.self.invariant refl
    (each_set _ c.self.inside.rules.traits.items c.args.bound c.in-Some.found.now
    (record { kind = c.in-Some.found.now.kind; is_auto = c.in-Some.found.now.is_auto; blanket = c.push.new.self })
    c.self.invariant.sound.traits c.in-Some.ensures.value (λ a. rw c.in_err-push.ensures.items a))
    (length_set_le c.self.inside.rules.traits.items c.args.bound _)

pub invariant_of-self-2 : goal.invariant_of-self-2
invariant_of-self-2 c =
    told_traits c.self.inside.rules _ _ _ c.self.invariant refl
    (each_set _ c.self.inside.rules.traits.items c.args.bound c.in-Some.found.now _
    c.self.invariant.sound.traits c.in-Some.ensures.value
    (λ a. each_push _ c.in-Some.found.now.blanket.items c.push.new.self.items c.args.rule a c.requires
    c.in_ok-push.ensures.items))
    (length_set_le c.self.inside.rules.traits.items c.args.bound _)
