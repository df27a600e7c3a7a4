use Rattle.std.proofs.Common.{not, rules, tests}
use Rattle.std.proofs.lemmas.Fn.{filter_same}
use Rattle.provisional_cache.specs.Words.{depends_on}
use Rattle.provisional_cache.proofs.RebasedLists.{tells_element}
use Rattle.provisional_cache.proofs.clearing.remove_users_of_list.Goals as goal

pub returns-clause-others : goal.returns-clause-others
returns-clause-others g c = filter_same _ (λ entry. not (depends_on c.args.depth entry)) _
    (λ x b f' called. search (rules, tests)) _ _ c.retain.ensures.filtered

pub returns-clause-left : goal.returns-clause-left
returns-clause-left g c = tells_element c.retain.new.self c.is_empty.result c.is_empty.ensures
