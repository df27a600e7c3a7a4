use Rattle.std.proofs.Common.{◌<◌, ◌++◌, length, subst, sym, ap, ◌∙◌, IfSome, All}
use Rattle.std.specs.Option.{option_to_list}
use Rattle.cycle_heads.specs.Words.{IsRising, highest}
use Rattle.cycle_heads.proofs.HighestHeads.{before_last}
use Rattle.cycle_heads.proofs.heads.CycleHeads.remove_highest_cycle_head.Goals as goal

pub unwrap-requires : goal.unwrap-requires
unwrap-requires c = c.pop.ensures.some (subst (λ heads. 0 < length heads) (sym c.self.view_is) c.requires)

pub invariant_of-self : goal.invariant_of-self
invariant_of-self c =
    let left = c.pop.new.self in
    let old = c.pop.ensures.taken ∙ ap (λ top. left ++ option_to_list top) c.unwrap.ensures in
    (before_last left c.unwrap.result (subst IsRising old c.self.invariant)).0

pub returns-clause-below : goal.returns-clause-below
returns-clause-below c =
    let left = c.pop.new.self in
    let old = c.pop.ensures.taken ∙ ap (λ top. left ++ option_to_list top) c.unwrap.ensures in
    subst (λ heads. IfSome (highest heads) (λ e. All (λ d. d.0.0 < e.0.0) left)) (sym old ∙ c.self.view_is)
    (before_last left c.unwrap.result (subst IsRising old c.self.invariant)).1
