use Rattle.std.proofs.Common.{rules}
use Rattle.std.proofs.lemmas.Iterator.Consumers.{YieldsList-from_first}
use Rattle.std.proofs.lemmas.Iterator.Search.{all_from_yields_List}
use Rattle.std.specs.List.{list_all}
use Rattle.provisional_cache.specs.Below.{kinds_in}
use Rattle.provisional_cache.specs.Words.{keeps_kind}
use Rattle.provisional_cache.proofs.kinds.keeps_kinds_from.Goals as goal

pub returns : goal.returns
returns c =
    all_from_yields_List
    (λ to_head. list_all (λ own. keeps_kind c.args.from_head c.args.to_entry own to_head) (kinds_in c.args.to_done)) _ _
    c.all.result c.all.ensures.ran
    (YieldsList-from_first (λ kind. kind) (λ rest. rest) (kinds_in c.args.to_head) c.iter_paths.ensures)
    (λ kind b next called. search rules)
