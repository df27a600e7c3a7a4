use Rattle.std.proofs.Common.{length, subst}
use Rattle.trait_goals.specs.Finding.{IsFound}
use Rattle.trait_goals.specs.Trying.{AreAsked}
use Rattle.trait_goals.proofs.Matching.{some_so}
use Rattle.trait_goals.proofs.Clauses.{candidate_by, inside_more}
use Rattle.trait_goals.proofs.trying.try_rule.Goals as goal

pub returns-in_err-find_instance-clause-inside : goal.returns-in_err-find_instance-clause-inside
returns-in_err-find_instance-clause-inside c = inside_more _ _ _ c.find_instance.ensures.keeps

pub returns-in-Apart-clause-inside : goal.returns-in-Apart-clause-inside
returns-in-Apart-clause-inside c = inside_more _ _ _ c.find_instance.ensures.keeps

pub returns-in-Apart-clause-tried : goal.returns-in-Apart-clause-tried
returns-in-Apart-clause-tried c = λ term stands.
    subst (λ f. IsFound c.find_instance.new.terms c.args.rule.now term c.find_instance.new.instance.all.items f)
    c.in-Apart.is
    (c.in_ok-find_instance.ensures.found term stands)

pub returns-in-Open-clause-inside : goal.returns-in-Open-clause-inside
returns-in-Open-clause-inside c = inside_more _ _ _ c.find_instance.ensures.keeps

pub returns-in_err-asks-clause-inside : goal.returns-in_err-asks-clause-inside
returns-in_err-asks-clause-inside c = λ h.
    c.ask_clauses.ensures.inside _ c.len-types.ensures.len (inside_more _ _ _ c.find_instance.ensures.keeps h)

pub returns-in_default-clause-inside : goal.returns-in_default-clause-inside
returns-in_default-clause-inside c = λ h.
    c.ask_clauses.ensures.inside _ c.len-types.ensures.len (inside_more _ _ _ c.find_instance.ensures.keeps h)

pub returns-then-len-clause-inside : goal.returns-then-len-clause-inside
returns-then-len-clause-inside c = λ h.
    c.ask_clauses.ensures.inside _ c.len-types.ensures.len (inside_more _ _ _ c.find_instance.ensures.keeps h)

pub returns-clause-inside : goal.returns-clause-inside
returns-clause-inside c = λ h.
    c.ask_clauses.ensures.inside _ c.len-types.ensures.len (inside_more _ _ _ c.find_instance.ensures.keeps h)

pub returns-clause-tried : goal.returns-clause-tried
returns-clause-tried c = λ term stands.
    candidate_by c.find_instance.new.terms c.args.asked.now c.ask_clauses.new.asked c.args.rule.now c.args.goal.bound
    term c.find_instance.new.instance.all.items
    c.in-Some.questions.items
    (subst (λ f. IsFound c.find_instance.new.terms c.args.rule.now term c.find_instance.new.instance.all.items f)
    c.in-Types.is
    (c.in_ok-find_instance.ensures.found term stands))
    (subst (λ l. AreAsked l c.args.asked.now c.ask_clauses.new.asked c.args.rule.now c.args.goal.bound
    (length c.args.rule.now.clauses.items) c.in-Some.questions.items) c.types.ensures (some_so _ _ _
    c.in-Some.is c.in_ok-asks.ensures.asked))
