use Rattle.std.proofs.Common.{◌≡◌, sym, ap, ◌∙◌}
use Rattle.std.specs.Option.{option_copied, option_map}
use Rattle.trait_goals.specs.Below.{constructor_of}
use Rattle.trait_goals.specs.Trying.{lists_in}
use Rattle.trait_goals.proofs.Grown.{covered, tried_more}
use Rattle.trait_goals.proofs.growing.find_candidates.Goals as goal

pub returns-in_default-rule_at-clause-covers : goal.returns-in_default-rule_at-clause-covers
returns-in_default-rule_at-clause-covers c = λ term stands.
    let is : c.in-Some.constructor ≡ constructor_of term = let e = c.in-Some.ensures term stands in cc in
    covered c.args.rules.now c.args.terms.now c.loop-place.terms c.args.asked.now c.loop-place.asked c.args.goal
    c.in-Some.constructor
    c.loop-place.place (lists_in c.loop-place.all.items) c.loop-place.invariant.tried
    (sym c.rule_at.ensures ∙ ap (option_map (λ o. option_copied o)) c.in_default-rule_at.is) term stands is

pub loop-place-preserved : goal.loop-place-preserved
loop-place-preserved c = record {
  tried = tried_more c.args.rules.now c.args.terms.now c.loop-place.terms c.try_next.new.terms c.args.asked.now
      c.loop-place.asked
      c.try_next.new.asked c.args.goal c.in-Some.constructor c.loop-place.place (option_copied c.in-Some-rule_at.given)
      (lists_in c.loop-place.all.items) (lists_in c.try_next.new.all.items) c.loop-place.invariant.tried
      (sym c.in-Some-rule_at.ensures) c.try_next.ensures.made c.try_next.ensures.asked
      (λ term stands. c.in_ok-try_next.ensures.tried c.if-not-branch.false term stands);
  few = c.try_next.ensures.few c.loop-place.invariant.few;
  inside = λ h. c.try_next.ensures.inside (c.loop-place.invariant.inside h);
}
