use Rattle.std.proofs.Common.{sym}
use Rattle.trait_goals.proofs.Grown.{right_known, right_more}
use Rattle.trait_goals.proofs.Matching.{some_so}
use Rattle.trait_goals.proofs.goals.Goals.expand.Goals as goal

pub invariant_of-self : goal.invariant_of-self
invariant_of-self c =
    right_more c.self.inside.rules c.self.inside.terms c.find_candidates-found.new.terms c.self.inside.asked
    c.find_candidates-found.new.asked c.self.inside.known.items c.self.invariant c.find_candidates-found.ensures.made
    c.find_candidates-found.ensures.asked c.len-count.ensures.first
    (c.find_candidates-found.ensures.inside (record { inside = c.self.invariant.inside }))

pub invariant_of-self-in_default-2 : goal.invariant_of-self-in_default-2
invariant_of-self-in_default-2 c =
    right_more c.self.inside.rules c.self.inside.terms c.find_candidates-found.new.terms c.self.inside.asked
    c.find_candidates-found.new.asked c.self.inside.known.items c.self.invariant c.find_candidates-found.ensures.made
    c.find_candidates-found.ensures.asked c.len-count.ensures.first
    (c.find_candidates-found.ensures.inside (record { inside = c.self.invariant.inside }))

pub invariant_of-self-in_err-note_known : goal.invariant_of-self-in_err-note_known
invariant_of-self-in_err-note_known c =
    right_known c.self.inside.rules c.self.inside.terms c.find_candidates-found.new.terms c.self.inside.asked
    c.find_candidates-found.new.asked c.self.inside.known.items c.self.invariant c.find_candidates-found.ensures.made
    c.find_candidates-found.ensures.asked c.len-count.ensures.first
    (c.find_candidates-found.ensures.inside (record { inside = c.self.invariant.inside }))
    c.note_known.new.known.items c.args.goal
    c.in-Some.asked c.in-Some-2.candidates (sym c.in-Some.ensures.value) c.note_known.ensures.more
    (some_so _ _ _ c.in-Some-2.is c.in_ok-candidates.ensures.covers)

pub invariant_of-self-2 : goal.invariant_of-self-2
invariant_of-self-2 c =
    right_known c.self.inside.rules c.self.inside.terms c.find_candidates-found.new.terms c.self.inside.asked
    c.find_candidates-found.new.asked c.self.inside.known.items c.self.invariant c.find_candidates-found.ensures.made
    c.find_candidates-found.ensures.asked c.len-count.ensures.first
    (c.find_candidates-found.ensures.inside (record { inside = c.self.invariant.inside }))
    c.note_known.new.known.items c.args.goal
    c.in-Some.asked c.in-Some-2.candidates (sym c.in-Some.ensures.value) c.note_known.ensures.more
    (some_so _ _ _ c.in-Some-2.is c.in_ok-candidates.ensures.covers)
