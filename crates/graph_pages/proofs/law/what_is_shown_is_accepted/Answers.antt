use Rattle.std.proofs.Common.{refl}
use Rattle.graph_pages.proofs.RoundTrip.{shown_is_read_back}
use Rattle.graph_pages.proofs.law.what_is_shown_is_accepted.Goals as goal

pub returns : goal.returns
returns c = shown_is_read_back _ _ (λ table. refl)
