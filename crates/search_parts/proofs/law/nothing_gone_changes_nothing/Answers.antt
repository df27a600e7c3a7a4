use Rattle.std.proofs.Common.{[], refl}
use Rattle.global_cache.specs.Words.{is_among}
use Rattle.search_parts.proofs.Kept.{nothing_goes}
use Rattle.search_parts.proofs.law.nothing_gone_changes_nothing.Goals as goal

pub returns-clause-nodes : goal.returns-clause-nodes
returns-clause-nodes g c = λ old new kept.
    nothing_goes (is_among g.X.Input.PartialEq.eq []) (λ goal. refl) old new kept

pub returns-clause-results : goal.returns-clause-results
returns-clause-results g c = λ old new kept goal place. kept goal place
