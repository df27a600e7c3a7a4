use Rattle.std.proofs.Common.{◌≡◌, rules, Some, sym, ap, ◌∙◌, subst}
use Rattle.std.proofs.lemmas.Option.{slice_get-get_or}
use Rattle.std.specs.Prelude.{slice_get}
use Rattle.trait_goals.specs.Known.{candidates_at}
use Rattle.trait_goals.proofs.Steps.{not_marked, steps_within}
use Rattle.trait_goals.proofs.delegate.GoalsOfCandidateLists.mark.Goals as goal

pub returns-in_err-_candidate-in-Some-clause-within : goal.returns-in_err-_candidate-in-Some-clause-within
returns-in_err-_candidate-in-Some-clause-within g c =
    steps_within (g.L.Lends.lent_by c.args.self.lender) c.args.goal

pub returns-in_ok-_candidate-in-Some-clause-value : goal.returns-in_ok-_candidate-in-Some-clause-value
returns-in_ok-_candidate-in-Some-clause-value g c =
    let e : candidates_at (g.L.Lends.lent_by c.args.self.lender) c.args.goal ≡ Some c.in-Some.known.now =
    let h = c.in-Some.ensures in let t = c.lent-goals.ensures in search rules in
    let found = c.in_ok-_candidate-in-Some.ensures.lookup in
    let candidate = c.in_ok-_candidate-in-Some._candidate.now in
    let at = subst (λ all. slice_get all c.args.candidate ≡ Some candidate) c.deref.ensures
    (slice_get-get_or c.deref.result.now c.args.candidate candidate found.3.0 ∙ ap Some (sym found.1)) in
    not_marked (g.L.Lends.lent_by c.args.self.lender) c.args.goal c.args.candidate c.in-Some.known.now
    candidate e at

pub returns-in_ok-_candidate-in-Some-clause-within : goal.returns-in_ok-_candidate-in-Some-clause-within
returns-in_ok-_candidate-in-Some-clause-within g c =
    steps_within (g.L.Lends.lent_by c.args.self.lender) c.args.goal
