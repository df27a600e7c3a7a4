use Rattle.std.proofs.Common.{◌∙◌, ap, sym}
use Rattle.search_stack.proofs.Places.{position-map}
use Rattle.search_stack.specs.Words.{position_of}
use Rattle.search_stack.proofs.stack.Stack.place_of.Goals as goal

pub returns-then-self : goal.returns-then-self
returns-then-self g c =
    let same = g.X.Input.PartialEq.eq in
    c.copied.ensures ∙ c.get.ensures.value ∙ (c.self.invariant.0.mapped c.if-self.true).agrees c.args.input
    ∙ ap (position_of same c.args.input) c.self.view_is

pub returns : goal.returns
returns g c =
    let same = g.X.Input.PartialEq.eq in
    c.place_among.ensures ∙ sym (position-map (same c.args.input) (λ e. e.input) _)
    ∙ ap (position_of same c.args.input) (c.as_slice.ensures.value ∙ c.self.view_is)
