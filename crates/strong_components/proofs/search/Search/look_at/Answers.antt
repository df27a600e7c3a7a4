use Rattle.std.proofs.Common.{sym, ◌∙◌}
use Rattle.std.proofs.lemmas.List.{get_or_read}
use Rattle.strong_components.specs.Words.{New}
use Rattle.strong_components.proofs.Merge.{merge_keeps}
use Rattle.strong_components.proofs.Opening.{open_along}
use Rattle.strong_components.proofs.search.Search.look_at.Goals as goal

pub returns-in_ok-open_place-in-New-clause-ongoing : goal.returns-in_ok-open_place-in-New-clause-ongoing
returns-in_ok-open_place-in-New-clause-ongoing c graph from position ongoing ends is_from step =
    let read = get_or_read _ _ _ c.requires.inside c.index.ensures New in
    open_along graph _ _ from c.args.place position ongoing ends is_from (sym read ∙ c.in-New.is) c.requires.inside
    step c.in_ok-open_place-in-New.ensures

pub returns-in-Open-clause-ongoing : goal.returns-in-Open-clause-ongoing
returns-in-Open-clause-ongoing c graph from position ongoing ends is_from step =
    let read = get_or_read _ _ _ c.requires.inside c.index.ensures New in
    let (keeps, may) = merge_keeps graph _ _ _ _ _ _ _ from c.args.place position c.in-Open.position ongoing ends
    is_from (sym read ∙ c.in-Open.is) step c.pop_above.ensures in
    (keeps, may, is_from)
