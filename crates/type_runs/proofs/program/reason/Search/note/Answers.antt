use Rattle.std.proofs.Common.{refl}
use Rattle.type_runs.proofs.Searching.{one_more_goes_on, one_more_is_at, one_more_is_search}
use Rattle.type_runs.proofs.program.reason.Search.note.Goals as goal

pub returns-clause-ongoing : goal.returns-clause-ongoing
returns-clause-ongoing c =
    one_more_is_search c.args.self.now _
    (record { pair = c.args.pair; from = c.args.from; step = c.args.step }) refl c.in_ok-push.ensures.items
    c.in_ok-insert.field-0 c.in_ok-insert.ensures.keys c.requires.ongoing c.requires.not_below c.requires.linked

pub returns-clause-goes_on : goal.returns-clause-goes_on
returns-clause-goes_on c =
    one_more_goes_on c.args.self.now _ (record { pair = c.args.pair; from = c.args.from; step = c.args.step }) refl
    c.in_ok-push.ensures.items

pub returns-clause-noted : goal.returns-clause-noted
returns-clause-noted c =
    one_more_is_at c.args.self.now _ (record { pair = c.args.pair; from = c.args.from; step = c.args.step }) refl
    c.in_ok-push.ensures.items
