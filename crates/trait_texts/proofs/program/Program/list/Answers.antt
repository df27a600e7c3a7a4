use Rattle.std.proofs.Common.{refl}
use Rattle.trait_texts.specs.WellFormed.{IsAbout}
use Rattle.trait_texts.proofs.Each.{each_push, each_set}
use Rattle.trait_texts.proofs.Told.{told_constructors}
use Rattle.trait_texts.proofs.program.Program.list.Goals as goal

pub invariant_of-self-in_err-push : goal.invariant_of-self-in_err-push
invariant_of-self-in_err-push c =
    told_constructors c.self.inside.rules _ _ _ c.self.invariant refl
    (each_set IsAbout c.self.inside.rules.constructors.items c.args.constructor c.in-Some.found.now
    (record { fields = c.in-Some.found.now.fields; impls = c.push.new.self })
    c.self.invariant.sound.constructors c.in-Some.ensures.value
    (λ a. record { fields = a.fields; impls = rw c.in_err-push.ensures.items a.impls }))

pub invariant_of-self-2 : goal.invariant_of-self-2
invariant_of-self-2 c =
    told_constructors c.self.inside.rules _ _ _ c.self.invariant refl
    (each_set IsAbout c.self.inside.rules.constructors.items c.args.constructor c.in-Some.found.now _
    c.self.invariant.sound.constructors c.in-Some.ensures.value
    (λ a. record {
      fields = a.fields;
      impls = each_push _ c.in-Some.found.now.impls.items c.push.new.self.items
          (record { bound = c.args.bound; rule = c.args.rule }) a.impls c.requires c.in_ok-push.ensures.items;
    }))
