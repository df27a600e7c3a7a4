use Rattle.std.proofs.Common.{ap, subst, sym}
use Rattle.std.proofs.lemmas.Option.{MatchOption-at_none}
use Rattle.global_cache.specs.Below.{IsWhole}
use Rattle.global_cache.proofs.GlobalCache.copied_from.Goals as goal

pub returns-in-Ok-None : goal.returns-in-Ok-None
returns-in-Ok-None g c = λ whole.
    MatchOption-at_none _ _ c.in-Ok-None.field-0-is c.in-Ok-None.ensures
    (subst (λ nodes. IsWhole nodes c.args.root.0) (sym (ap (λ cache. cache.nodes) c.self.view_is)) whole)
