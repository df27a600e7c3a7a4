use Rattle.std.proofs.Common.{ap, sym, ◌∙◌}
use Rattle.provisional_cache.specs.Words.{entries_at, lists_of}
use Rattle.provisional_cache.proofs.ProvisionalLists.{no_entries, no_lists, none_at_all}
use Rattle.provisional_cache.proofs.ProvisionalCache.is_empty.Goals as goal

pub returns-clause-lists : goal.returns-clause-lists
returns-clause-lists g c =
    let entries = c.self.inside.lists.entries in (
      λ empty. sym c.self.view_is ∙ no_lists entries (c.is_empty.ensures.0 empty),
      λ none. c.is_empty.ensures.1 (no_entries entries (c.self.view_is ∙ none)),
    )

pub returns-clause-entries : goal.returns-clause-entries
returns-clause-entries g c =
    let same = g.D.Cx.Input.PartialEq.eq in
    let lists = returns-clause-lists g c in (
      λ empty input. ap (λ l. entries_at same l input) (lists.0 empty),
      λ none. lists.1 (sym c.self.view_is ∙ none_at_all g.met.D.Cx.Input.Eq.laws (lists_of c.self.inside.lists.entries)
          c.self.invariant (rw (← c.self.view_is) at none)),
    )
