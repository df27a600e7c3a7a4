use Rattle.std.proofs.Common.{not}
use Rattle.provisional_cache.specs.Words.{lists_of, depends_on}
use Rattle.provisional_cache.proofs.ProvisionalLists.{lists_filtered}
use Rattle.provisional_cache.proofs.ProvisionalCache.clear_for_rerun.Goals as goal

pub invariant_of-self : goal.invariant_of-self
invariant_of-self g c =
    lists_filtered g.D.Cx.Input.PartialEq.eq (λ entry. not (depends_on c.args.index entry))
    (lists_of c.self.inside.lists.entries) (lists_of c.remove_users.new.lists.entries)
    c.self.invariant c.remove_users.ensures.others c.remove_users.ensures.left
