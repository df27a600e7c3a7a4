use Rattle.std.proofs.Common.{sym, subst}
use Rattle.std.specs.Option.{option_copied}
use Rattle.trait_goals.specs.Trying.{IsNextTried, IsTried, lists_in}
use Rattle.trait_goals.proofs.Grown.{apart_next, by_next}
use Rattle.trait_goals.proofs.growing.try_next.Goals as goal

pub returns-in-Apart-clause-tried : goal.returns-in-Apart-clause-tried
returns-in-Apart-clause-tried c = λ yes term stands.
    let made = c.try_rule.new.terms in
    let asked = c.try_rule.new.asked in
    let lists = lists_in c.args.all.now.items in
    subst (λ g. IsNextTried made asked c.args.goal.bound term (option_copied g) lists lists) (sym c.in-Some.is)
    (apart_next made asked c.in-Some.rule.now c.args.goal.bound term lists
    (subst (λ t. IsTried made asked c.in-Some.rule.now c.args.goal.bound term t) c.in-Apart.is
    (c.in_ok-try_rule.ensures.tried term stands)))

pub returns-in_ok-push-in-By-clause-tried : goal.returns-in_ok-push-in-By-clause-tried
returns-in_ok-push-in-By-clause-tried c = λ yes term stands.
    let made = c.try_rule.new.terms in
    let asked = c.try_rule.new.asked in
    subst (λ g. IsNextTried made asked c.args.goal.bound term (option_copied g) (lists_in c.args.all.now.items)
    (lists_in c.push.new.self.items)) (sym c.in-Some.is)
    (by_next made asked c.in-Some.rule.now c.args.goal.bound term c.args.all.now.items c.push.new.self.items
    c.in-By.candidate
    c.in_ok-push-in-By.ensures.ok
    (subst (λ t. IsTried made asked c.in-Some.rule.now c.args.goal.bound term t) c.in-By.is
    (c.in_ok-try_rule.ensures.tried term stands)))
