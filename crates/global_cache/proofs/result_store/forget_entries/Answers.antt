use Rattle.std.proofs.Common.{not, rules}
use Rattle.std.proofs.lemmas.Map.Made.{filter_same_pairs}
use Rattle.global_cache.specs.Words.{is_among}
use Rattle.global_cache.proofs.result_store.forget_entries.Goals as goal

pub returns : goal.returns
returns g c =
    filter_same_pairs _ (λ e. not (is_among g.I.PartialEq.eq c.args.gone.now.keys e.0.0)) _ (λ k v b w f' called.
    (rw (← called.shows.0) (search rules), rw (← called.leaves, ← called.shows.1) (search rules), search rules))
    _ _ c.retain.ensures.filtered
