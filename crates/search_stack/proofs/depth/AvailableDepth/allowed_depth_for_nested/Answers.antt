use Rattle.std.proofs.Common.{Some, ◌/◌, ◌∙◌, ap}
use Rattle.search_stack.proofs.StackReads.{nonempty, none_allowed, divided_allowed, next_allowed}
use Rattle.search_stack.proofs.depth.AvailableDepth.allowed_depth_for_nested.Goals as goal

pub returns-then-depth-eq0 : goal.returns-then-depth-eq0
returns-then-depth-eq0 g c = none_allowed _ _ c.available_depth-depth.result.0 c.last-last.result.now c.args.stack.now
    (nonempty c.args.stack.now c.if-is_empty.ensures.1) c.last-last.ensures
    (ap (λ d. d.0) c.available_depth-depth.ensures) c.if-depth-eq0.true

pub returns-then-last : goal.returns-then-last
returns-then-last g c =
    ap (λ n. Some (c.available_depth-depth.result.0 / n)) c.DIVIDE_AVAILABLE_DEPTH_ON_OVERFLOW.ensures
    ∙ divided_allowed g.D.Delegate.DIVIDE_AVAILABLE_DEPTH_ON_OVERFLOW c.args.root_depth.0
    c.available_depth-depth.result.0 c.last-last.result.now c.args.stack.now
    (nonempty c.args.stack.now c.if-is_empty.ensures.1) c.last-last.ensures
    (ap (λ d. d.0) c.available_depth-depth.ensures) c.if-depth-eq0.false c.if-last.true

pub returns-else-last : goal.returns-else-last
returns-else-last g c = next_allowed _ _ c.available_depth-depth.result.0 c.last-last.result.now c.args.stack.now
    (nonempty c.args.stack.now c.if-is_empty.ensures.1) c.last-last.ensures
    (ap (λ d. d.0) c.available_depth-depth.ensures) c.if-depth-eq0.false c.if-last.false

pub last-last-requires : goal.last-last-requires
last-last-requires g c = record { some = nonempty c.args.stack.now c.if-is_empty.ensures.1 }
