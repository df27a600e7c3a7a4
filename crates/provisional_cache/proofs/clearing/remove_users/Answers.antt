use Rattle.std.proofs.Common.{not, rules}
use Rattle.provisional_cache.specs.Words.{depends_on}
use Rattle.provisional_cache.proofs.Cleared.{others_at, left_at}
use Rattle.provisional_cache.proofs.clearing.remove_users.Goals as goal

pub returns-clause-left : goal.returns-clause-left
returns-clause-left g c = λ input.
    left_at _ (λ entry. not (depends_on c.args.depth entry)) _ (λ k v b w f' called.
    (rw (← called.leaves, ← called.shows.1) (search rules), rw (← called.leaves) (search rules), search rules))
    (g.I.PartialEq.eq input) _ _ c.retain.ensures.filtered

pub returns-clause-others : goal.returns-clause-others
returns-clause-others g c = λ input.
    others_at _ (λ entry. not (depends_on c.args.depth entry)) _ (λ k v b w f' called.
    (rw (← called.leaves, ← called.shows.1) (search rules), rw (← called.leaves) (search rules), search rules))
    g.met.I.Eq.laws _ _ input c.retain.ensures.was_unique c.retain.ensures.filtered
