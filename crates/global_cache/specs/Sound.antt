-- What holds of every cache.
use Rattle.std.specs.Prelude.{Bool, List}
use Rattle.search_context.specs.declared.context.Request.{Request}
use Rattle.search_context.specs.declared.context.Reply.{Reply}
use Rattle.global_cache.specs.Cache.{Cache}
use Rattle.global_cache.specs.Findings.{AreSoundFindings, Findings}
use Rattle.search_context.specs.Verdicts.{Verdicts}

-- what a cache has found out
abbrev pub found_by : {X I R T : Type 0} → Cache X I R T → Findings I R T
found_by c = record { nodes = c.nodes; results = c.results }

-- it is sound by the scripts of the cache's context
abbrev pub IsSoundCache : {X I R T : Type 0} → (I → I → Bool) → Verdicts R
    → (X → I → List (Reply R) → Request I R) → Cache X I R T → Type 0
IsSoundCache same says scripts c = AreSoundFindings same says (scripts c.cx) (found_by c)
