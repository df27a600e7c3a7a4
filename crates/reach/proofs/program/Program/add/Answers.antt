use Rattle.std.proofs.Common.{◌≡◌, ◌<◌, All, length, rules, subst}
use Rattle.reach.proofs.Growing.{goes_on, passed}
use Rattle.reach.proofs.program.Program.add.Goals as goal

pub invariant_of-self : goal.invariant_of-self
invariant_of-self c =
    let below = passed c.are_below.result _ _ c.if-not-are_below.false c.are_below.ensures in
    let blocks = c.args.self.now.blocks.items in
    let number : c.len-number.result ≡ length c.args.self.now.blocks.items = search rules in
    record {
      go_down = goes_on _ blocks c.push.new.self.items _ c.args.self.now.go_down
          (subst (λ xs. All (λ p. p < length blocks) xs) c.deref.ensures.value
          (subst (λ n. All (λ p. p < n) c.deref.result.now) number below))
          c.push.ensures.items;
    }
