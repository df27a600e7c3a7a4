use Rattle.std.proofs.Common.{Some, ap, ◌∙◌}
use Rattle.trait_goals.proofs.Matching.{head_shaped, head_told, is_apart, nothing_told, read_at}
use Rattle.trait_goals.proofs.instance.match_head.Goals as goal

pub loop-place-init : goal.loop-place-init
loop-place-init c = λ types term stands is. head_told _ _ _ _ c.in_ok-note_head.ensures types term stands is

pub returns-then-not-match_at : goal.returns-then-not-match_at
returns-then-not-match_at c = λ types term stands is.
    absurd (is_apart _ (c.match_at.ensures types term (c.loop-place.invariant types term stands is) is).0
    c.if-not-match_at.true)

pub loop-place-preserved : goal.loop-place-preserved
loop-place-preserved c = λ types term stands is.
    (c.match_at.ensures types term (c.loop-place.invariant types term stands is) is).1

pub returns-in-Some-Constructor : goal.returns-in-Some-Constructor
returns-in-Some-Constructor c = λ types term stands is.
    let head = read_at c.args.rule.now.shapes.items _ _ c.in-Some-Constructor.field-0 c.as_slice.ensures.value
    c.in-Some-Constructor.ensures in
    c.match_shape.ensures types term (nothing_told _ _ types c.clear.ensures.items) stands
    (head_shaped c.args.rule.now types term _ is (head ∙ ap (λ s. Some s) c.in-Some-Constructor.field-0-is))
